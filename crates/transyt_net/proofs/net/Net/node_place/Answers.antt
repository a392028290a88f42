-- The place that is found is the place of the number.
use Rattle.std.proofs.Common.{rules}
use Rattle.transyt_parts.specs.Valid.{node_number}
use Rattle.transyt_net.specs.Parts.{no_node}
use Rattle.transyt_net.proofs.PlaceLaws.{found_place}
use Rattle.transyt_net.proofs.net.Net.node_place.Goals as goal

pub returns-clause-found : goal.returns-clause-found
returns-clause-found c =
    found_place node_number c.args.self.now.nodes c.args.number no_node c.place.result (search rules)
