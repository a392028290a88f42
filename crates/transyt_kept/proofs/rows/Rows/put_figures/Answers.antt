-- The kept index stays the sum.
use Rattle.std.proofs.Common.{◌<◌, length, ap, arith}
use Rattle.transyt_kept.specs.Marked.{KeptValue}
use Rattle.transyt_kept.proofs.IndexLaws.{sum_fits}
use Rattle.transyt_kept.proofs.WrittenLaws.{figures_written}
use Rattle.transyt_kept.proofs.rows.Rows.put_figures.Goals as goal

pub overflow_add-self : goal.overflow_add-self
overflow_add-self c =
    omega (
      arith,
      c.requires.figures.index,
      sum_fits c.self.inside.figures.now c.self.inside.index c.self.invariant.index_sum c.self.invariant.rows.links
          c.self.invariant.rows.figures,
    )

pub invariant_of-self : goal.invariant_of-self
invariant_of-self c =
    let inside : c.args.link < length c.self.inside.figures.now =
    omega (arith, c.requires.link, ap (λ (v : KeptValue). length v.now.figures) c.self.view_is) in
    rw c.put.ensures
    (figures_written c.self.invariant c.args.link c.args.figures c.get-before.result inside c.requires.figures
    c.get-before.ensures)
