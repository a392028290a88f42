-- One row is written, with a value for each step.
use Rattle.std.proofs.Common.{ap, sym, ◌∙◌}
use Rattle.transyt_kept.specs.Marked.{KeptValue}
use Rattle.transyt_kept.proofs.WrittenLaws.{go_written}
use Rattle.transyt_kept.proofs.rows.Rows.put_go.Goals as goal

pub invariant_of-self : goal.invariant_of-self
invariant_of-self c =
    rw c.put.ensures
    (go_written c.self.invariant c.args.link c.args.go.now
    (c.requires.steps ∙ sym (ap (λ (v : KeptValue). v.now.step_count) c.self.view_is)))
