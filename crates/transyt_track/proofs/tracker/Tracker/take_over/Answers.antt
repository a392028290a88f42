-- The rows are those of the other tracker.
use Rattle.std.proofs.Common.{ap, sym, ◌∙◌}
use Rattle.transyt_track.specs.Tracker.{TrackerValue}
use Rattle.transyt_track.proofs.ShapeLaws.{fits_shape}
use Rattle.transyt_track.proofs.TrackLaws.{shape_inside, no_mark, closed_tracks}
use Rattle.transyt_track.proofs.tracker.Tracker.take_over.Goals as goal

pub copy_rows-requires-clause-fits : goal.copy_rows-requires-clause-fits
copy_rows-requires-clause-fits c =
    let i = c.self.inside in
    fits_shape i.net c.from.inside.net (shape_inside c.self.view_is c.from.view_is c.requires.shape) i.front.kept.now
    c.self.invariant.evaluation.fits

pub invariant_of-self : goal.invariant_of-self
invariant_of-self c =
    let i = c.self.inside in
    let same = shape_inside c.self.view_is c.from.view_is c.requires.shape in
    rw c.take_numbers.ensures
    (closed_tracks c.self.invariant same (sym same ∙ c.self.invariant.shape) c.copy_rows.ensures.rows
    (c.copy_rows.ensures.marked ∙ no_mark i.front.kept.marked i.marked (ap (λ (t : TrackerValue). t.mark) c.self.view_is ∙ c.requires.closed)))
