-- The rows are those of the marked network.
use Rattle.std.proofs.Common.{sym, subst}
use Rattle.transyt_track.specs.Tracker.{AreOfMark}
use Rattle.transyt_track.proofs.TrackLaws.{closed_tracks}
use Rattle.transyt_track.proofs.tracker.Tracker.restore.Goals as goal

pub invariant_of-self : goal.invariant_of-self
invariant_of-self c =
    let i = c.self.inside in
    let was = c.self.invariant in
    let rows = subst (AreOfMark i.marked) c.restore.ensures.rows was.back in
    rw (c.swap.ensures.x_after, c.swap.ensures.y_after)
    (closed_tracks was was.shape (sym was.shape) rows c.restore.ensures.marked)
