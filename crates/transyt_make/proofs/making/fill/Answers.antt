-- The town that is filled is the network of the seed.
use Rattle.std.proofs.lemmas.Result.{on_ok_weaker}
use Rattle.transyt_make.proofs.PlanLaws.{filled}
use Rattle.transyt_make.proofs.making.fill.Goals as goal

pub returns : goal.returns
returns c =
    on_ok_weaker c.put_plan.result
    (filled c.args.works.now.town _ _ _ _ c.in_ok-put_nodes.ensures c.in_ok-put_links.ensures
    c.in_ok-put_feeds.ensures)
    c.put_plan.ensures
