-- The pair that is worked out is that of the definition.
use Rattle.std.proofs.Common.{◌≡◌, ℕ, not, List, length, refl, subst, ap, sym, ◌∙◌}
use Rattle.std.specs.Str.{bytes_eq}
use Rattle.transyt_net.specs.Parts.{Network}
use Rattle.transyt_kept.specs.Cell.{CellValue}
use Rattle.transyt_kept.specs.Rows.{out_at}
use Rattle.transyt_sweep.specs.Cell.{cell_by}
use Rattle.transyt_sweep.specs.Reading.{read_in}
use Rattle.transyt_sweep.proofs.StepLaws.{cell_steps}
use Rattle.transyt_track.specs.Front.{AreFlags, own_differs}
use Rattle.transyt_track.proofs.FrontLaws.{turned_worked, go_told}
use Rattle.transyt_track.proofs.front.work_out.Goals as goal

-- a link that is worked out has a value for each step
worked_steps : (net : Network) (l : ℕ) (read : ℕ → List ℕ) (n : ℕ) (c : CellValue) → c ≡ cell_by net read l
    → n ≡ net.frame.step_count → length c.arrivals ≡ n
worked_steps net l read n c made steps =
    ap (λ (v : CellValue). length v.arrivals) made ∙ (cell_steps net read l).arrivals ∙ sym steps

pub place-requires-clause-steps : goal.place-requires-clause-steps
place-requires-clause-steps g c =
    let p = c.args.pair.now in
    let rows = c.args.front.now.kept.now in
    worked_steps p.change.now.after.now p.link (read_in rows p.sweep p.link) rows.step_count c.cell.new.scratch
    c.cell.ensures.value c.requires.at.outs.fits.step_count

pub differ-out-requires : goal.differ-out-requires
differ-out-requires g c =
    let p = c.args.pair.now in
    let rows = c.args.front.now.kept.now in
    c.out.ensures.steps
    ∙ sym (c.out-2.ensures.steps
    ∙ worked_steps p.change.now.after.now p.link (read_in rows p.sweep p.link) rows.step_count c.cell.new.scratch
    c.cell.ensures.value c.requires.at.outs.fits.step_count)

pub place-requires-clause-go_same : goal.place-requires-clause-go_same
place-requires-clause-go_same g c = λ last none.
    let p = c.args.pair.now in
    let b = p.change.now.after.now in
    let owned = subst (AreFlags (own_differs p.change.now.before.now b) (length b.links)) (sym c.deref.ensures.value)
    c.requires.own in
    go_told c.requires.at p.change.now.same_shape p.first p.last p.inside c.cell.new.scratch c.cell.ensures.value owned last
    c.go_may_differ-go.ensures none

pub returns-clause-front : goal.returns-clause-front
returns-clause-front g c =
    let r = c.requires in
    let p = c.args.pair.now in
    let b = p.change.now.after.now in
    let rows = c.args.front.now.kept.now in
    let new = c.cell.new.scratch in
    let out = c.differ-out.result in
    let told : out ≡ not (bytes_eq (out_at rows p.sweep p.link) new.out) =
    c.differ-out.ensures
    ∙ (λ j. not (bytes_eq (c.out.ensures.value j) (c.out-2.ensures.value j))) in
    record {
      at = rw (c.place.ensures.value, c.place.ensures.out_changed) (turned_worked r.at p.change.now.same_shape p.first
          p.last p.inside c.place.ensures.rows new c.cell.ensures.value out told);
      own = rw c.place.ensures.own_changed r.own;
      steps = ap (λ (v : CellValue). length v.arrivals) c.place.ensures.scratch
          ∙ worked_steps b p.link (read_in rows p.sweep p.link) b.frame.step_count new c.cell.ensures.value refl;
    }
