-- Worked cycle times, tables and best rows. No number is neutral.
use Rattle.std.specs.Prelude.{ℕ, ◌+◌, ◌*◌, ◌==◌, Bool, true, false, List, [], ◌∷◌, map, Some, if◌then◌else◌}
use Rattle.std.specs.List.{range_with_len}
use Rattle.transyt_parts.specs.Made.{new_stage, new_link, new_plan}
use Rattle.transyt_net.specs.Parts.{Network}
use Rattle.transyt_climbs.specs.declared.times.CycleTimes.{CycleTimes}
use Rattle.transyt_climbs.specs.declared.networks.NetworkAt.{NetworkAt}
use Rattle.transyt_climbs.specs.declared.networks.NetworkAt.TheVariants as plan
use Rattle.transyt_climbs.specs.declared.row.Climbed.{Climbed}
use Rattle.transyt_climbs.specs.declared.row.NetworkRow.{NetworkRow}
use Rattle.transyt_climbs.specs.declared.row.NetworkRow.TheVariants as row
use Rattle.transyt_climbs.specs.Times.{cycle_at, cycle_count, times_of}
use Rattle.transyt_climbs.specs.Climbs.{NetworkListValue}

-- all cycle times, in their order
abbrev pub listed : CycleTimes → List ℕ
listed times = map (cycle_at times) (range_with_len 0 (cycle_count times))

-- the least that may be asked for in each place, and the greatest
abbrev pub in_range : List CycleTimes
in_range = times_of 30 30 1 ∷ times_of 240 240 210 ∷ []

-- one number out of its range in each: too low a cycle time, too high, none at all, no step, too long a one
abbrev pub out_of_range : List CycleTimes
out_of_range =
    times_of 29 120 17 ∷ times_of 60 241 17 ∷ times_of 61 60 17 ∷ times_of 60 120 0 ∷ times_of 60 120 211 ∷ []

-- a climb that takes no step where the index is 0
abbrev pub stayed : ℕ → Bool → ℕ → Climbed
stayed number local looked =
    record { number = number; from = 0; took = 0; local = local; looked = looked; to = 0 }

-- a climb
abbrev pub climbed_at : ℕ → ℕ → ℕ → Bool → ℕ → ℕ → Climbed
climbed_at number from took local looked to =
    record { number = number; from = from; took = took; local = local; looked = looked; to = to }

-- the network at each of four places: none, the network itself, a barred one, and the network with fewer looks
abbrev pub one_of_four : Network → ℕ → NetworkAt
one_of_four net place =
    if place == 0 then plan.NoPlan
    else if place == 1 then plan.Plan net
    else if place == 2 then plan.Barred 7
    else plan.Plan (record net { plan = Some (new_plan 4 (2 ∷ [])) })

-- four places, numbered from 50 by 8
abbrev pub four_networks : NetworkListValue
four_networks = record { count = 4; number = λ place. 50 + 8 * place; network = one_of_four }

-- rows of which the third and the fifth have the least index at the end
abbrev pub five_rows : List NetworkRow
five_rows =
    row.NoPlan 42 ∷ row.Climbed (climbed_at 50 9 1 true 11 7) ∷ row.Climbed (climbed_at 58 8 2 false 20 3)
    ∷ row.Barred 66 21 ∷ row.Climbed (climbed_at 74 5 4 true 13 3) ∷ []

-- rows of which none is climbed
abbrev pub no_climbs : List NetworkRow
no_climbs = row.Barred 42 21 ∷ row.NoPlan 50 ∷ []

-- a junction with one link, which runs in its second stage, by the change of its first stage; its climb plan has three
-- looks, of which the third lowers the index
abbrev pub junction : ℕ → Network
junction change = record {
  frame = record { cycle = 90; step_count = 18; sweeps = 3; period = 45; stop_penalty = 37; dispersion = 40 };
  nodes = record { number = 7; offset = 5; stages = new_stage change 1 3 ∷ new_stage 9 2 4 ∷ [] } ∷ [];
  links = new_link 8 7 431 1733 3 2 1 2 (2 ∷ []) ∷ [];
  plan = Some (new_plan 3 (2 ∷ []));
}
