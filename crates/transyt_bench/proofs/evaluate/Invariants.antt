-- The evaluations, one after another.
use Rattle.std.proofs.Common.{◌≡◌, ◌+◌, ◌*◌, ◌≤◌}
use Rattle.transyt_bench.proofs.evaluate.Given as goal

-- the cells so far are those that the counter counted, at most 8,000 in each
abbrev pub invariant-loop-turn : goal.invariant-loop-turn
invariant-loop-turn g l = record {
  steps : l.steps ≡ l.fn.steps + l.done.cells;
  most : l.done.cells ≤ l._turn * 8000;
}
