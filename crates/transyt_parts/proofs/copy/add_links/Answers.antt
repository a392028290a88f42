-- One link more is copied.
use Rattle.transyt_parts.proofs.CopyLaws.{copied_more}
use Rattle.transyt_parts.proofs.copy.add_links.Goals as goal

pub loop-link-preserved : goal.loop-link-preserved
loop-link-preserved c =
    copied_more c.args.links.now c.loop-link.copy.items c.push.new.self.items c.loop-link.link-index c.link-item.result
    c.in_ok-copy_link.field-0 c.loop-link-test.true c.loop-link.invariant c.in_ok-push.ensures.items c.in_ok-copy_link.ensures
    c.link-item.is
