-- The place that is found is the place of the number.
use Rattle.std.proofs.Common.{rules}
use Rattle.transyt_parts.specs.Valid.{link_number}
use Rattle.transyt_net.specs.Parts.{no_link}
use Rattle.transyt_net.proofs.PlaceLaws.{found_place}
use Rattle.transyt_net.proofs.net.Net.link_place.Goals as goal

pub returns-clause-found : goal.returns-clause-found
returns-clause-found c =
    found_place link_number c.args.self.now.links c.args.number no_link c.place.result (search rules)
