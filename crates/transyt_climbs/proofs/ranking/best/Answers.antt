-- One row more.
use Rattle.std.proofs.Common.{◌+◌, List, drop, get_or, sym, ◌∙◌, ap, subst, add-one, drop-cons}
use Rattle.transyt_climbs.specs.declared.row.NetworkRow.{NetworkRow}
use Rattle.transyt_climbs.specs.declared.row.NetworkRow.TheVariants as row
use Rattle.transyt_climbs.specs.Climbs.{AreBest, best_from, better}
use Rattle.transyt_climbs.proofs.BestLaws.{with_row}
use Rattle.transyt_climbs.proofs.ranking.best.Goals as goal

-- the best of the rows before the next
pub loop-place-preserved : goal.loop-place-preserved
loop-place-preserved c =
    let rows : List NetworkRow = c.args.rows.now in
    let place = c.loop-place.place in
    let next : List NetworkRow = drop (place + 1) rows in
    record {
      found = subst (AreBest rows (place + 1)) (sym c.better-best.ensures) (with_row rows place c.loop-place.best c.loop-place.invariant.found);
      rest =
          ap (λ b. best_from b (place + 1) next) c.better-best.ensures
          ∙ ap (λ k. best_from (better c.loop-place.best place (get_or rows place (row.NoPlan 0))) (place + 1) (drop k rows)) (add-one place)
          ∙ ap (best_from c.loop-place.best place) (sym (drop-cons rows place (row.NoPlan 0) c.loop-place-test.true))
          ∙ c.loop-place.invariant.rest;
    }
