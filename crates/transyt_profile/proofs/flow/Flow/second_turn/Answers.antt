-- The second turn is written until the first turn had the same queue.
use Rattle.std.proofs.Common.{◌≡◌, ℕ, ◌+◌, ◌<◌, ◌≤◌, arith, rules}
use Rattle.std.proofs.lemmas.Bool.{cases_lt}
use Rattle.std.proofs.Math.Logic.{⊎_elim}
use Rattle.std.proofs.lemmas.Grind.{common_steps}
use Rattle.transyt_profile.specs.StopLine.{turn}
use Rattle.transyt_profile.proofs.QueueLaws.{turn_more, turns_meet}
use Rattle.transyt_profile.proofs.flow.Flow.second_turn.Goals.{Then-standing-queue}
use Rattle.transyt_profile.proofs.flow.Flow.second_turn.Goals as goal

-- where it ends early, the steps from there on are those of the first turn
meet : (c : Then-standing-queue) (k : ℕ) → c.loop-i.i + 1 ≤ k
    → turn c.args.self.now.arrivals.now c.args.self.now.go.now 0 k ≡ turn c.args.self.now.arrivals.now c.args.self.now.go.now c.args.left k
meet c =
    turns_meet c.args.self.now.arrivals.now c.args.self.now.go.now 0 c.args.left (c.loop-i.i + 1)
    (omega (
      arith,
      c.requires.first.queue_is c.loop-i.i (omega arith),
      c.loop-i.invariant.first_queue c.loop-i.i (omega arith),
      c.saturating_sub-standing.ensures,
      turn_more c.args.self.now.arrivals.now c.args.self.now.go.now c.args.left c.loop-i.i,
    ))

pub returns-then-standing-queue : goal.returns-then-standing-queue
returns-then-standing-queue c = record {
  queue_len = search rules;
  out_len = search rules;
  queue_is = λ k below. grind (
    arith,
    common_steps,
    meet c (k + 1),
    c.requires.first.queue_is k,
    c.loop-i.invariant.queue k,
    c.loop-i.invariant.first_queue k,
  );
  out_is = λ k below.
      ⊎_elim
      (λ (passed : k < c.loop-i.i + 1).
      let more = turn_more c.args.self.now.arrivals.now c.args.self.now.go.now c.args.left c.loop-i.i in
      grind (arith, common_steps, more, c.loop-i.invariant.out k))
      (λ (rest : c.loop-i.i + 1 ≤ k).
      let before = meet c k rest in
      let after = meet c (k + 1) (omega (arith, rest)) in
      grind (arith, common_steps, before, after, c.requires.first.out_is k, c.loop-i.invariant.first_out k))
      (cases_lt k (c.loop-i.i + 1));
}
