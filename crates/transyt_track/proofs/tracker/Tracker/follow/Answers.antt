-- The rows are those of the network after.
use Rattle.std.proofs.Common.{◌∙◌, arith}
use Rattle.transyt_track.proofs.DueLaws.{due_most}
use Rattle.transyt_track.proofs.TrackLaws.{follow_room, follow_due, follow_tracks}
use Rattle.transyt_track.proofs.tracker.Tracker.follow.Goals as goal

pub invariant_of-self : goal.invariant_of-self
invariant_of-self g c =
    let say = c.follow_rows-due.ensures in
    rw c.take_numbers.ensures
    (follow_tracks c.self.view_is c.self.invariant c.args.after.now c.requires say.rows say.marked say.room)

pub returns-clause-due : goal.returns-clause-due
returns-clause-due g c =
    c.follow_rows-due.ensures.count ∙ follow_due c.self.view_is c.self.invariant c.args.after.now c.requires

pub follow_rows-due-requires-clause-room : goal.follow_rows-due-requires-clause-room
follow_rows-due-requires-clause-room g c = follow_room c.self.view_is c.self.invariant c.args.after.now c.requires

pub returns-clause-most : goal.returns-clause-most
returns-clause-most g c = omega (arith, returns-clause-due g c, due_most c.args.self.now.net c.args.after.now)
