-- The total is that of a link of a valid network, which is small by the limits of flows.
use Rattle.std.proofs.Common.{rules, ◌<◌, length, arith}
use Rattle.transyt_net.specs.Parts.{no_link}
use Rattle.transyt_net.proofs.TotalLaws.{total_at, total_small}
use Rattle.transyt_net.proofs.net.Net.total_flow.Goals as goal

pub returns-clause-small : goal.returns-clause-small
returns-clause-small c =
    let inside : c.args.link < length c.self.inside.links.items = search rules in
    omega (
      arith,
      total_small _ c.args.link c.self.invariant.0 inside,
      total_at c.self.inside.totals.items c.self.inside.links.items c.args.link c.index.result.now no_link c.self.invariant.3
          inside c.index.ensures,
    )
