-- The two turns write the queue of the repeating cycle, and the departures; the clauses are laws of the two.
use Rattle.std.proofs.Common.{◌≡◌, ℕ, ◌<◌, ◌≤◌, List, length, get_or, subst, ap, sym, ◌∙◌, arith, sum, inl, inr}
use Rattle.std.proofs.lemmas.List.FromFn.{fill_by_all}
use Rattle.std.proofs.lemmas.Bool.{cases_lt}
use Rattle.std.proofs.lemmas.List.{get_or_past, get_or_default}
use Rattle.transyt_cycle.specs.Cycle.{step_before}
use Rattle.transyt_cycle.proofs.CycleLaws.{step_before-lt}
use Rattle.transyt_profile.specs.StopLine.{IsQueue, queue_at, out_at}
use Rattle.transyt_profile.proofs.QueueLaws.{queue_more, second_is, outs_total, out-le-go}
use Rattle.transyt_profile.proofs.Covering.{queue_is}
use Rattle.transyt_profile.proofs.QueueBounds.{queue-lt}
use Rattle.transyt_profile.proofs.queueing.queue.Goals as goal

pub returns : goal.returns
returns c =
    let a : List ℕ = c.args.arrivals.now in
    let g : List ℕ = c.args.go.now in
    let n : ℕ = length a in
    let queue : List ℕ = c.second_turn.new.queue in
    let out : List ℕ = c.second_turn.new.out in
    let r = c.requires in
    let queue_is_at : (k : ℕ) → k < n → get_or queue k 0 ≡ queue_at a g k = λ k below.
    c.second_turn.ensures.queue_is k below
    ∙ (second_is a g c.first_turn-left.result k r.go_len r.served below c.first_turn-left.ensures.left).1 in
    let out_is_at : (k : ℕ) → k < n → get_or out k 0 ≡ out_at a g k = λ k below.
    let at = second_is a g c.first_turn-left.result k r.go_len r.served below c.first_turn-left.ensures.left in
    omega (arith, c.second_turn.ensures.out_is k below, at.0, at.1) in
    let outs_are = fill_by_all (out_at a g) out n 0 (omega arith) out_is_at in
    let more = λ (i : ℕ) (below : i < n). queue_more a g i r.go_len r.served below in
    record {
      queue = fill_by_all (queue_at a g) queue n 0 (omega arith) queue_is_at;
      out = outs_are;
      greatest = λ i below. subst (IsQueue a g i) (sym (queue_is_at i below)) (queue_is a g i r.go_len below);
      recurrence = λ i below.
          omega (arith, more i below, queue_is_at i below, queue_is_at (step_before n i) (step_before-lt n i below));
      kept = λ i below.
          omega (
            arith,
            more i below,
            queue_is_at i below,
            queue_is_at (step_before n i) (step_before-lt n i below),
            out_is_at i below,
          );
      out_at_most_go = λ i.
          elim (cases_lt i n) as (λ w. get_or out i 0 ≤ get_or g i 0) [
            | inl below ↦ omega (arith, out_is_at i below, out-le-go a g i r.go_len r.served below)
            | inr past ↦ omega (arith, get_or_past out i 0 (omega arith))
          ];
      total = ap sum outs_are ∙ outs_total a g r.steps r.go_len r.served;
      queue_small = λ k d below.
          omega (
            arith,
            get_or_default queue k d 0 below,
            queue_is_at k (omega arith),
            queue-lt a g k (omega arith) r.served (omega arith) r.go_fit,
          );
      out_small = λ k d below.
          omega (
            arith,
            get_or_default out k d 0 below,
            out_is_at k (omega arith),
            out-le-go a g k r.go_len r.served (omega arith),
            r.go_fit k 0 (omega arith),
          );
    }
