-- The rows are those of the network with the edit made.
use Rattle.std.proofs.Common.{◌≡◌, ap, sym, ◌∙◌}
use Rattle.transyt_net.specs.Edits.{with_edit}
use Rattle.transyt_track.specs.Tracker.{TrackerValue}
use Rattle.transyt_track.proofs.TrackLaws.{follow_room, follow_due, follow_tracks}
use Rattle.transyt_track.proofs.tracker.Tracker.follow_edit.Goals as goal

pub invariant_of-self : goal.invariant_of-self
invariant_of-self g c =
    let say = c.follow_rows-due.ensures in
    let made : c.make.new.net ≡ c.args.after.now =
    c.make.ensures ∙ ap (λ (t : TrackerValue). with_edit t.net c.args.e) c.self.view_is ∙ sym c.requires.after in
    rw made
    (follow_tracks c.self.view_is c.self.invariant c.args.after.now c.requires.shape say.rows say.marked say.room)

pub returns-clause-due : goal.returns-clause-due
returns-clause-due g c =
    c.follow_rows-due.ensures.count ∙ follow_due c.self.view_is c.self.invariant c.args.after.now c.requires.shape

pub follow_rows-due-requires-clause-room : goal.follow_rows-due-requires-clause-room
follow_rows-due-requires-clause-room g c = follow_room c.self.view_is c.self.invariant c.args.after.now c.requires.shape
