-- GO is lessened step by step.
use Rattle.std.proofs.Common.{◌≡◌, ◌^◌, ◌<◌, ◌≤◌, ℕ, get_or}
use Rattle.transyt_stage.specs.Green.{yielded_at}
use Rattle.transyt_stage.proofs.giving_way.give_way.Given as goal

-- the steps passed are lessened, the others are as they were
abbrev pub invariant-loop-i : goal.invariant-loop-i
invariant-loop-i l = record {
  yielded : (k : ℕ) → k < l.i → get_or l.go k 0 ≡ yielded_at l.percent l.other_out l.initial.go k;
  small : (k : ℕ) → k < l.i → get_or l.go k 0 < 2 ^ 30;
  rest : (k : ℕ) → l.i ≤ k → get_or l.go k 0 ≡ get_or l.initial.go k 0;
}
