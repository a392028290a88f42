-- With equal weights the index stays.
use Rattle.std.proofs.Common.{◌≡◌, IsTrue, sym, ap, arith, rules}
use Rattle.transyt_parts.specs.declared.frame.Frame.{Frame}
use Rattle.transyt_kept.specs.Cell.{CellValue}
use Rattle.transyt_kept.specs.Rows.{RowsValue}
use Rattle.transyt_track.proofs.FrontLaws.{same_test}
use Rattle.transyt_track.proofs.LeftLaws.{weights_stay}
use Rattle.transyt_track.proofs.replacing.leave.Goals as goal

pub returns-else-not-same_weights : goal.returns-else-not-same_weights
returns-else-not-same_weights c =
    let change = c.args.pair.now.change.now in
    let b = change.after.now in
    let sweeps : c.frame.result.sweeps ≡ b.frame.sweeps = ap (λ (f : Frame). f.sweeps) c.frame.ensures.value in
    let last : b.frame.sweeps ≡ c.args.pair.now.sweep = omega (arith, c.if-pair-frame.false, sweeps) in
    let told : IsTrue c.same_weights.result = search rules in
    rw (same_test c.args.pair.now.sweep b.frame.sweeps last)
    (ap (λ (r : RowsValue). record c.args.kept.now { now = r }) (sym (weights_stay change.before.now b c.args.pair.now.link
    c.args.kept.now.now change.same_shape
    (rw (← c.link.ensures.change, ← c.link.ensures.link) (c.same_weights.ensures.0 told))
    (ap (λ (v : CellValue). v.figures) (c.requires.shown (sym last))))))
