-- Each cell that is worked out is that of the definition, and is kept in its place; after the last link the next sweep
-- begins.
use Rattle.std.proofs.Common.{◌≡◌, ◌+◌, ◌<◌, length, sym, subst, ap, ◌∙◌, arith}
use Rattle.transyt_kept.specs.Marked.{KeptValue}
use Rattle.transyt_sweep.specs.Cell.{CellValue}
use Rattle.transyt_sweep.specs.Sweeps.{cell_at}
use Rattle.transyt_sweep.specs.Reading.{read_in}
use Rattle.transyt_sweep.specs.Front.{AreFilled, empty_out}
use Rattle.transyt_sweep.proofs.StepLaws.{length-inflow}
use Rattle.transyt_sweep.proofs.FrontLaws.{cell_is}
use Rattle.transyt_sweep.proofs.FilledLaws.{filled_put, filled_turn}
use Rattle.transyt_sweep.proofs.sweep.Sweep.fill.Goals as goal

-- the scratch has as many steps as the rows
pub place-requires-clause-steps : goal.place-requires-clause-steps
place-requires-clause-steps g c =
    ap (λ (v : CellValue). length v.arrivals) c.cell.ensures.value
    ∙ length-inflow c.args.self.now.net.now (read_in c.loop-link.rows.now c.args.self.now.number c.loop-link.link) c.loop-link.link
    ∙ sym c.loop-link.invariant.filled.outs.fits.step_count

-- one link more
pub loop-link-preserved : goal.loop-link-preserved
loop-link-preserved g c =
    let net = c.args.self.now.net.now in
    let s = c.args.self.now.number in
    let l = c.loop-link.link in
    let rows = c.loop-link.rows.now in
    let was = c.loop-link.invariant in
    let inside : l < length net.links = omega (arith, c.loop-link-test.true, ap length c.links-link-end.ensures.value) in
    let made : c.cell.new.scratch ≡ cell_at net s l =
    c.cell.ensures.value
    ∙ cell_is net (empty_out net) s l rows was.filled.outs c.args.self.now.first c.args.self.now.last inside in
    record {
      filled = subst (AreFilled net s (l + 1)) (sym (ap (λ (v : KeptValue). v.now) c.place.ensures.value))
          (filled_put net s l rows was.filled c.place.ensures.kept c.cell.new.scratch c.args.self.now.first c.args.self.now.last
          inside made);
      marked = ap (λ (v : KeptValue). v.marked) c.place.ensures.value ∙ was.marked;
      step_count = ap (λ (v : CellValue). length v.arrivals) c.cell.ensures.value
          ∙ length-inflow net (read_in rows s l) l;
      steps = omega (arith, c.cell.ensures.steps, was.steps);
    }

pub returns-clause-filled : goal.returns-clause-filled
returns-clause-filled g c =
    filled_turn c.args.self.now.net.now c.args.self.now.number c.loop-link.link c.loop-link.rows.now c.loop-link.invariant.filled
    (omega (arith, ap length c.links-link-end.ensures.value))
