-- One row is written, of values that are small.
use Rattle.std.proofs.Common.{ap, sym, ◌∙◌}
use Rattle.transyt_kept.specs.Marked.{KeptValue}
use Rattle.transyt_kept.proofs.WrittenLaws.{out_written}
use Rattle.transyt_kept.proofs.rows.Rows.put_out.Goals as goal

pub invariant_of-self : goal.invariant_of-self
invariant_of-self c =
    rw c.put.ensures (out_written c.self.invariant c.pair_place-place.result c.args.values.now
    (c.requires.steps ∙ sym (ap (λ (v : KeptValue). v.now.step_count) c.self.view_is)) c.requires.small)
