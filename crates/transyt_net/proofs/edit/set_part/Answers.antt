-- The feed at the place of its feeder is the one that is written.
use Rattle.std.proofs.Common.{rules}
use Rattle.transyt_net.proofs.EditLaws.{feed_written}
use Rattle.transyt_net.proofs.edit.set_part.Goals as goal

pub returns-clause-value : goal.returns-clause-value
returns-clause-value c =
    feed_written (λ f. record f { flow = c.args.flow }) c.args.feeder c.feed_place-place.result _ c.link.view_is (search rules)
    c.index_mut.ensures.value
