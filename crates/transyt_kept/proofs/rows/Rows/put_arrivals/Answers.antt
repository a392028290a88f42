-- Two rows are written, each with a value for each step.
use Rattle.std.proofs.Common.{ap, sym, ◌∙◌}
use Rattle.transyt_kept.specs.Marked.{KeptValue}
use Rattle.transyt_kept.proofs.WrittenLaws.{arrivals_written}
use Rattle.transyt_kept.proofs.rows.Rows.put_arrivals.Goals as goal

pub invariant_of-self : goal.invariant_of-self
invariant_of-self c =
    let same = sym (ap (λ (v : KeptValue). v.now.step_count) c.self.view_is) in
    rw (c.put.ensures, c.put-2.ensures)
    (arrivals_written c.self.invariant c.args.link c.args.arrivals.now c.args.queue.now (c.requires.arrivals ∙ same)
    (c.requires.queue ∙ same))
