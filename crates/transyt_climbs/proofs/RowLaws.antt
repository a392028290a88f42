-- The row of a network from what its climb came to.
use Rattle.std.proofs.Common.{◌≡◌, ℕ, Bool, true, length, Option, Some, None, sym, ◌∙◌, ap, refl}
use Rattle.std.specs.Option.{option_map_or}
use Rattle.transyt_parts.specs.Parts.{PlanValue}
use Rattle.transyt_net.specs.Parts.{Network}
use Rattle.transyt_moves.specs.Moves.{move_count}
use Rattle.transyt_sweep.specs.Sweeps.{index}
use Rattle.transyt_sweep.specs.Climb.{Climb, climb, ended}
use Rattle.transyt_climb.specs.Turns.{Counters, start_at, start_of}
use Rattle.transyt_climbs.specs.Climbs.{row_by, own_climb, climbed_row}

-- the climb of a network by a climb plan
abbrev climb_by : Network → Option PlanValue → Climb
climb_by net plan = option_map_or (λ plan. climb net 0 plan.budget) plan (ended true net 0 0)

-- a row of these numbers is the network's, by its climb
pub row_is : (net : Network) (c : Climb) {number from took looked to : ℕ} {local : Bool} → own_climb net ≡ c
    → from ≡ index net → took ≡ length c.steps → local ≡ c.local → looked ≡ length c.looks → to ≡ index c.net
    → record { number = number; from = from; took = took; local = local; looked = looked; to = to }
    ≡ climbed_row number net
row_is net c {number} is from_is took_is local_is looked_is to_is =
    let here : record { number = number; from = _; took = _; local = _; looked = _; to = _ } ≡ row_by number net c =
    λ i. record {
      number = number;
      from = from_is i;
      took = took_is i;
      local = local_is i;
      looked = looked_is i;
      to = to_is i;
    } in
    here ∙ ap (row_by number net) (sym is)

-- a climber at the start of the network's climb
pub record IsPlanned (net : Network) (k : Counters) : Type 0 where
  pub climb_is : own_climb net ≡ climb net 0 k.budget
  pub start : k ≡ start_at k.budget (move_count net)

by_plan : (net : Network) (plan : Option PlanValue) (k : Counters) → Some k ≡ start_of net plan
    → (climb_by net plan ≡ climb net 0 k.budget) × (k ≡ start_at k.budget (move_count net))
by_plan net None k is = let never : ⊥ = cc in absurd never
by_plan net (Some plan) k is =
    let at : k ≡ start_at plan.budget (move_count net) = cc in
    (ap (λ (c : Counters). climb net 0 c.budget) (sym at), at ∙ ap (λ (c : Counters). start_at c.budget (move_count net)) (sym at))

-- there is one only where there is a climb plan
pub planned : (net : Network) (k : Counters) → Some k ≡ start_of net net.plan → IsPlanned net k
unfolding own_climb
planned net k is = let both = by_plan net net.plan k is in record { climb_is = both.0; start = both.1 }

no_plan : (net : Network) (plan : Option PlanValue) → None ≡ start_of net plan → climb_by net plan ≡ ended true net 0 0
no_plan net None is = refl
no_plan net (Some plan) is = let never : ⊥ = cc in absurd never

-- without one nothing is listed
pub unplanned : (net : Network) → None ≡ start_of net net.plan → own_climb net ≡ ended true net 0 0
unfolding own_climb
unplanned net is = no_plan net net.plan is
