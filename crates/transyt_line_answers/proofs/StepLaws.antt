-- Each step of a climb lowers the index within every minimum green and intergreen.
use Rattle.std.proofs.Common.{◌≡◌, ℕ, zero, suc, ◌+◌, ◌%◌, ◌<◌, Bool, true, false, List, ◌∷◌}
use Rattle.std.proofs.Common.{Option, Some, None, if◌then◌else◌, refl, sym, ◌∙◌, ap, subst, arith, ltb-true, mod-lt}
use Rattle.std.specs.Option.{option_map}
use Rattle.transyt_net.specs.Parts.{Network}
use Rattle.transyt_net.specs.declared.edit.EditFault.{EditFault}
use Rattle.transyt_net.specs.Valid.{IsValid}
use Rattle.transyt_net.specs.EditFaults.{edit_fault}
use Rattle.transyt_net.specs.Edits.{with_edit}
use Rattle.transyt_net.proofs.ApplyLaws.{valid_edit}
use Rattle.transyt_moves.specs.Moves.{move, move_count}
use Rattle.transyt_sweep.specs.Sweeps.{index}
use Rattle.transyt_sweep.specs.Climb.{Step, Climb, lowers, moved, index_with, is_below, least, first, step_at, climb}
use Rattle.transyt_climb.proofs.LookLaws.{lowers_is}
use Rattle.transyt_line_answers.specs.Steps.{IsLowering, LeadDown}
use Rattle.transyt_line_answers.proofs.ClimbLaws.{of_climb}

later : (test : ℕ → Bool) (n r : ℕ)
    → ((q : ℕ) → least (λ k. test (k + 1)) n ≡ Some q → (test (q + 1) ≡ true) × (q < n))
    → (o : Option ℕ) → least (λ k. test (k + 1)) n ≡ o → option_map (λ k. k + 1) o ≡ Some r
    → (test r ≡ true) × (r < suc n)
later test n r found None is h = absurd (cc)
later test n r found (Some q) is h =
    let here = found q is in
    let next : q + 1 ≡ r = cc in
    let near = here.1 in
    (ap test (sym next) ∙ here.0, omega (arith, next, near))

-- the place found passes, and is below the limit
pub least_some : (test : ℕ → Bool) (n r : ℕ) → least test n ≡ Some r → (test r ≡ true) × (r < n)
least_some test zero r h = absurd (cc)
least_some test (suc n) r h =
    let cases : (b : Bool) → test 0 ≡ b
    → (if b then Some 0 else option_map (λ k. k + 1) (least (λ k. test (k + 1)) n)) ≡ Some r
    → (test r ≡ true) × (r < suc n) = elim [
      | true ↦ λ now is. let zero_is : 0 ≡ r = cc in (ap test (sym zero_is) ∙ now, omega (arith, zero_is))
      | false ↦ λ now is.
          later test n r (λ q. least_some (λ k. test (k + 1)) n q) (least (λ k. test (k + 1)) n) refl is
    ] in
    cases (test 0) refl h

-- a move that lowers is allowed, and its index is below
record IsLower (net : Network) (place : ℕ) : Type 0 where
  allowed : edit_fault net (move net place) ≡ None
  lower : index (with_edit net (move net place)) < index net

lower_by : (net : Network) (place : ℕ) (o : Option EditFault) → edit_fault net (move net place) ≡ o
    → is_below (index net) (index_with net (move net place) o) ≡ true → IsLower net place
lower_by net place None is h = record {
  allowed = is;
  lower = ltb-true (index (with_edit net (move net place))) (index net) h;
}
lower_by net place (Some fault) is h = absurd (cc)

lower_is : (net : Network) (place : ℕ) → lowers net place ≡ true → IsLower net place
lower_is net place h =
    lower_by net place (edit_fault net (move net place)) refl (sym (lowers_is net place) ∙ h)

-- the index of a step
index_moved : (net : Network) (place : ℕ) → (step_at net place).index ≡ index (with_edit net (move net place))
unfolding moved
index_moved net place = refl

-- the step at a place that lowers
step_lowers : (net : Network) (place : ℕ) → IsValid net → place < move_count net → lowers net place ≡ true
    → IsLowering net (step_at net place)
step_lowers net place valid listed h =
    let l = lower_is net place h in
    record {
      listed = listed;
      edit_is = refl;
      allowed = l.allowed;
      index_is = index_moved net place;
      lower = subst (λ (x : ℕ). x < index net) (sym (index_moved net place)) l.lower;
      planned = (valid_edit net (move net place) valid l.allowed).planned;
    }

-- the network with the move made is valid
valid_moved : (net : Network) (place : ℕ) → IsValid net → IsLowering net (step_at net place) → IsValid (moved net place)
unfolding moved
valid_moved net place valid step = valid_edit net (move net place) valid step.allowed

-- the steps that lead on from the network with the move made
from_moved : (net : Network) (place : ℕ) (steps : List Step) (last : Network) → LeadDown (moved net place) steps last
    → LeadDown (with_edit net (move net place)) steps last
unfolding moved
from_moved net place steps last h = h

-- a search that found the place of a lowering move
found_lowers : (net : Network) (k r : ℕ) → first net k ≡ Some r
    → ((k + r) % move_count net < move_count net) × (lowers net ((k + r) % move_count net) ≡ true)
found_lowers net k r h =
    let found = least_some (λ q. lowers net ((k + q) % move_count net)) (move_count net) r h in
    let below = found.1 in
    let some : 0 < move_count net = omega (arith, below) in
    (mod-lt (k + r) some, found.0)

-- a climb with a lowering step in front
step_leads : (net : Network) (k r : ℕ) (rest : Climb) → first net k ≡ Some r
    → (IsValid (moved net ((k + r) % move_count net))
    → LeadDown (moved net ((k + r) % move_count net)) rest.steps rest.net)
    → IsValid net → LeadDown net (step_at net ((k + r) % move_count net) ∷ rest.steps) rest.net
step_leads net k r rest is later valid =
    let place = (k + r) % move_count net in
    let found = found_lowers net k r is in
    let step = step_lowers net place valid found.0 found.1 in
    (step, from_moved net place _ _ (later (valid_moved net place valid step)))

-- each step of a climb from a valid network is a listed move that is allowed and strictly lowers the index, and leaves
-- every node's plan allowed
pub climb_leads : (net : Network) (k left : ℕ) → IsValid net
    → LeadDown net (climb net k left).steps (climb net k left).net
climb_leads =
    of_climb (λ net k left c. IsValid net → LeadDown net c.steps c.net) (λ net k left valid. refl)
    (λ net k left valid. refl) (λ net k left r rest is less. step_leads net k r rest is)
