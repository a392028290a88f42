-- The characters of the steps before one, then its own, are those up to it.
use Rattle.std.proofs.Common.{ℕ, List, [], ◌∷◌, ◌++◌, length, map, ap, sym, ◌∙◌, arith, append_assoc, length-append}
use Rattle.std.proofs.lemmas.List.FromFn.{map-range_with_len_more}
use Rattle.std.specs.List.{range_with_len}
use Rattle.transyt_report.specs.Chart.{mark_at}
use Rattle.transyt_report.proofs.charting.put_cycle.Goals as goal

-- one character more stands
pub loop-step-preserved : goal.loop-step-preserved
loop-step-preserved c =
    let l = c.loop-step in
    let marks = mark_at c.args.go.now c.args.queue.now in
    let before = c.args.line.now in
    let so_far = map marks (range_with_len 0 l.step) in
    record {
      text =
          c.put.ensures ∙ (λ j. l.invariant.text j ++ c.step_mark.ensures j ∷ [])
          ∙ append_assoc before so_far (marks l.step ∷ [])
          ∙ ap (λ (xs : List ℕ). before ++ xs) (sym (map-range_with_len_more marks 0 l.step l.step (omega arith)));
      room = omega (arith, ap length c.put.ensures, length-append l.line (c.step_mark.result ∷ []), l.invariant.room);
    }
