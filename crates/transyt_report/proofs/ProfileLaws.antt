-- The profiles of the evaluation, as a session gives them.
use Rattle.std.proofs.Common.{◌≡◌, ℕ, ◌≤◌, length, sym, ap, subst, ◌∙◌}
use Rattle.transyt_net.specs.Parts.{Network}
use Rattle.transyt_sweep.specs.Cell.{CellValue, HasSteps}
use Rattle.transyt_sweep.specs.Sweeps.{out_of, read_of, evaluated}
use Rattle.transyt_sweep.proofs.StepLaws.{cell_steps}
use Rattle.transyt_sweep.proofs.SweepLaws.{evaluated_is, out_of_pair}

-- each has a value for each step of the cycle
evaluated_steps : (net : Network) (l : ℕ) → HasSteps net.frame.step_count (evaluated net l)
evaluated_steps net l =
    subst (HasSteps net.frame.step_count) (sym (evaluated_is net l))
    (cell_steps net (read_of net net.frame.sweeps l) l)

pub arrivals_steps : (net : Network) (l : ℕ) → length (evaluated net l).arrivals ≡ net.frame.step_count
arrivals_steps net l = (evaluated_steps net l).arrivals

pub go_steps : (net : Network) (l : ℕ) → length (evaluated net l).go ≡ net.frame.step_count
go_steps net l = (evaluated_steps net l).go

pub queue_steps : (net : Network) (l : ℕ) → length (evaluated net l).queue ≡ net.frame.step_count
queue_steps net l = (evaluated_steps net l).queue

-- a link's departures at the last sweep are those of the evaluation
pub out_is : (net : Network) (l : ℕ) → 1 ≤ net.frame.sweeps → out_of net net.frame.sweeps l ≡ (evaluated net l).out
out_is net l some =
    out_of_pair net net.frame.sweeps l some ∙ ap (λ (cell : CellValue). cell.out) (sym (evaluated_is net l))

pub out_steps : (net : Network) (l : ℕ) → 1 ≤ net.frame.sweeps
    → length (out_of net net.frame.sweeps l) ≡ net.frame.step_count
out_steps net l some = ap length (out_is net l some) ∙ (evaluated_steps net l).out
