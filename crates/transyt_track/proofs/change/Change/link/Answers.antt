-- The places are read from the table.
use Rattle.transyt_track.proofs.ShapeLaws.{table_read}
use Rattle.transyt_track.proofs.change.Change.link.Goals as goal

pub invariant_of-result : goal.invariant_of-result
invariant_of-result c =
    let change = c.args.self.now in
    assumption (table_read change.before.now change.after.now change.same_shape change.places.now change.are_places
    c.args.link c.requires c.index-self-link.result)

pub returns-clause-read : goal.returns-clause-read
returns-clause-read c =
    let change = c.args.self.now in
    table_read change.before.now change.after.now change.same_shape change.places.now change.are_places c.args.link
    c.requires c.index-self-link.result
