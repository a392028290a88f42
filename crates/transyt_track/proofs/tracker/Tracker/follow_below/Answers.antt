-- The rows are those of the network with the edit made, or those from before it.
use Rattle.std.proofs.Common.{◌≡◌, true, false, refl, ap, sym, nat_lt, ◌∙◌, arith}
use Rattle.std.proofs.lemmas.Bool.Decides.{nat_tests}
use Rattle.transyt_net.specs.Edits.{with_edit}
use Rattle.transyt_sweep.specs.Sweeps.{index}
use Rattle.transyt_sweep.proofs.IndexLaws.{index_is}
use Rattle.transyt_kept.specs.Marked.{KeptValue}
use Rattle.transyt_track.specs.Tracker.{TrackerValue}
use Rattle.transyt_track.proofs.TrackLaws.{begun_tracks, closed_tracks, follow_shape, follow_room}
use Rattle.transyt_track.proofs.TrackLaws.{follow_tracks}
use Rattle.transyt_track.proofs.tracker.Tracker.follow_below.Goals as goal

pub follow_rows-due-requires-clause-room : goal.follow_rows-due-requires-clause-room
follow_rows-due-requires-clause-room g c =
    assumption (follow_room c.self.view_is c.self.invariant c.args.after.now c.requires.shape)

-- the edit is made
pub invariant_of-self : goal.invariant_of-self
invariant_of-self g c =
    let after = c.args.after.now in
    let say = c.follow_rows-due.ensures in
    let was = c.self.invariant in
    let same = follow_shape c.self.view_is was after c.requires.shape in
    let made : c.make.new.net ≡ after =
    c.make.ensures ∙ ap (λ (t : TrackerValue). with_edit t.net c.args.e) c.self.view_is ∙ sym c.requires.after in
    let followed = follow_tracks c.self.view_is (begun_tracks was) after c.requires.shape say.rows
    (say.marked ∙ ap (λ (k : KeptValue). k.marked) c.begin.ensures) say.room in
    rw (made, c.settle.ensures) (closed_tracks followed refl (sym same ∙ was.shape) say.rows refl)

pub returns-then-index-bound-clause-index : goal.returns-then-index-bound-clause-index
returns-then-index-bound-clause-index g c =
    c.index-index.ensures.value
    ∙ index_is c.args.after.now c.follow_rows-due.new.front.kept.now c.follow_rows-due.ensures.rows

pub returns-then-index-bound-clause-net : goal.returns-then-index-bound-clause-net
returns-then-index-bound-clause-net g c =
    let after = c.args.after.now in
    let is : c.index-index.result ≡ index after = returns-then-index-bound-clause-index g c in
    let below : nat_lt (index after) c.args.bound ≡ true = grind (arith, nat_tests, c.if-index-bound.true) in
    rw below
    (c.make.ensures ∙ ap (λ (t : TrackerValue). with_edit t.net c.args.e) c.self.view_is ∙ sym c.requires.after)

pub returns-else-index-bound-clause-index : goal.returns-else-index-bound-clause-index
returns-else-index-bound-clause-index g c =
    c.index-index.ensures.value
    ∙ index_is c.args.after.now c.follow_rows-due.new.front.kept.now c.follow_rows-due.ensures.rows

pub returns-else-index-bound-clause-net : goal.returns-else-index-bound-clause-net
returns-else-index-bound-clause-net g c =
    let after = c.args.after.now in
    let is : c.index-index.result ≡ index after = returns-else-index-bound-clause-index g c in
    let above : nat_lt (index after) c.args.bound ≡ false = grind (arith, nat_tests, c.if-index-bound.false) in
    rw above (ap (λ (t : TrackerValue). t.net) c.self.view_is)
