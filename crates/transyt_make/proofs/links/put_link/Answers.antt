-- The entry flow is the next draw, and the number is above those before.
use Rattle.std.proofs.lemmas.Result.{on_ok_weaker}
use Rattle.transyt_make.proofs.LinkLaws.{next_free, link_done}
use Rattle.transyt_make.proofs.links.put_link.Goals as goal

pub grant_link-requires : goal.grant_link-requires
grant_link-requires c =
    next_free c.args.approach.town c.args.works.now c.args.approach.place _ c.requires c.args.approach.inside
    c.draw_entry-entry.ensures.small

pub returns : goal.returns
returns c =
    on_ok_weaker c.grant_link.result
    (link_done c.args.approach.town c.args.works.now c.args.approach.place _ _ _ _ _ c.requires
    c.neighbour.ensures.value c.is_some.ensures c.draw_entry-entry.ensures.value c.draw_entry-entry.ensures.taken)
    c.grant_link.ensures
