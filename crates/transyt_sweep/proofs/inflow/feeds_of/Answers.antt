-- A link's feeds are small, and at most eight.
use Rattle.std.proofs.Common.{length, arith, ap, ◌∙◌}
use Rattle.transyt_parts.specs.Parts.{LinkValue}
use Rattle.transyt_sweep.proofs.inflow.feeds_of.Goals as goal

pub returns-clause-small : goal.returns-clause-small
returns-clause-small c = λ i d below.
    let feeds = c.as_slice.ensures.value ∙ ap (λ (l : LinkValue). l.feeds) c.at.view_is in
    let one = c.link-at.ensures.kept.feeds i d (omega (arith, below, ap length feeds)) in
    rw feeds (record { flow = one.flow; cruise = one.cruise.1 })

pub returns-clause-few : goal.returns-clause-few
returns-clause-few c =
    omega (
      arith,
      c.link-at.ensures.kept.feed_count,
      ap length c.as_slice.ensures.value,
      ap (λ (l : LinkValue). length l.feeds) c.at.view_is,
    )
