-- The lines of one node more stand after those of the nodes before it.
use Rattle.std.proofs.Common.{◌++◌, List, [], sym, ap, ◌∙◌}
use Rattle.std.specs.List.{flat_map, range_with_len}
use Rattle.std.proofs.lemmas.List.{flat_map_more}
use Rattle.transyt_words.specs.Answer.{LineValue}
use Rattle.transyt_words.specs.Equisat.{lines_at}
use Rattle.transyt_words.proofs.Places.{places_more}
use Rattle.transyt_words.proofs.equisat.equisat_lines.Goals as goal

-- the lines of one node more
pub loop-place-preserved : goal.loop-place-preserved
loop-place-preserved c =
    let lines = lines_at c.args.net.now in
    let i = c.loop-place.place in
    c.in_ok-add_balance.ensures
    ∙ ap (λ (xs : List LineValue). xs ++ lines i) c.loop-place.invariant
    ∙ flat_map_more lines [] (range_with_len 0 i) i
    ∙ ap (flat_map lines) (sym (places_more i))
