-- A field gets one character more, and one more is in the line.
use Rattle.std.proofs.Common.{ℕ, List, [], ◌∷◌, ◌++◌, length, map, ap, sym, ◌∙◌, arith, append_assoc, length-append}
use Rattle.std.proofs.lemmas.List.FromFn.{map-range_with_len_more}
use Rattle.std.specs.List.{range_with_len}
use Rattle.transyt_report.specs.Plot.{mark}
use Rattle.transyt_report.proofs.field.put_field.Goals as goal

pub loop-place-preserved : goal.loop-place-preserved
loop-place-preserved c =
    let l = c.loop-place in
    let marks = mark c.args.letter c.args.count in
    let before = c.args.line.now in
    let so_far = map marks (range_with_len 0 l.place) in
    record {
      text =
          c.put.ensures ∙ (λ j. l.invariant.text j ++ c.mark.ensures j ∷ [])
          ∙ append_assoc before so_far (marks l.place ∷ [])
          ∙ ap (λ (xs : List ℕ). before ++ xs) (sym (map-range_with_len_more marks 0 l.place l.place (omega arith)));
      room = omega (arith, ap length c.put.ensures, length-append l.line (c.mark.result ∷ []), l.invariant.room);
    }
