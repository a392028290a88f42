-- All parts are those of the network.
use Rattle.transyt_track.proofs.TrackLaws.{opened_tracks}
use Rattle.transyt_track.proofs.tracker.Tracker.around.Goals as goal

pub invariant_of-result : goal.invariant_of-result
invariant_of-result c =
    let say = c.in-Ok.ensures in
    rw c.in-Ok-copies.ensures.first (opened_tracks c.in-Ok-copies.ensures.second c.requires.rows c.requires.closed
    say.places record { own_count = say.own_count; count = say.count; steps = say.steps })
