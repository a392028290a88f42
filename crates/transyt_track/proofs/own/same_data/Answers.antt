-- The flag is down exactly where the times of the link's node are equal.
use Rattle.std.proofs.Common.{sym, ap, not, ◌∙◌}
use Rattle.std.proofs.lemmas.Bool.{true≢false}
use Rattle.transyt_track.proofs.ChangeLaws.{data_told}
use Rattle.transyt_track.proofs.PlaceLaws.{flag_here}
use Rattle.transyt_track.proofs.own.same_data.Goals as goal

pub returns-then-not-node_changed-places : goal.returns-then-not-node_changed-places
returns-then-not-node_changed-places c =
    let at = c.args.at.now in
    let a = at.change.now.before.now in
    let b = at.change.now.after.now in
    let old = c.link_at-old in
    let new = c.link_at-new in
    data_told a b at.link c.same_numbers.result old.result.now new.result.now old.ensures.value new.ensures.value
    c.same_numbers.ensures
    ((flag_here a b at.link old.ensures.valid new.ensures.valid at.inside_before at.inside
    (c.places.view_is ∙ at.places_before) (c.places.view_is ∙ at.places_after) c.requires).0
    c.if-not-node_changed-places.true)

pub returns-else-not-node_changed-places : goal.returns-else-not-node_changed-places
returns-else-not-node_changed-places c =
    let at = c.args.at.now in (
      λ told. absurd (true≢false (sym told ∙ ap not c.if-not-node_changed-places.false)),
      λ have. ap not ((flag_here at.change.now.before.now at.change.now.after.now at.link c.link_at-old.ensures.valid
          c.link_at-new.ensures.valid at.inside_before at.inside (c.places.view_is ∙ at.places_before)
          (c.places.view_is ∙ at.places_after) c.requires).1 have.times),
    )
