-- The invariant of a tracker stays, since each call follows a network of the same shape.
use Rattle.std.proofs.Common.{◌≡◌, List, Option, Some, None, refl, ap, sym, ◌∙◌}
use Rattle.std.specs.Option.{option_map}
use Rattle.transyt_net.specs.Parts.{Network, shape, SameShape}
use Rattle.transyt_kept.specs.Rows.{RowsValue}
use Rattle.transyt_kept.specs.Marked.{KeptValue}
use Rattle.transyt_sweep.specs.Front.{AreEvaluation}
use Rattle.transyt_track.specs.Own.{PlacesValue, all_places}
use Rattle.transyt_track.specs.Change.{HasRoom}
use Rattle.transyt_track.specs.declared.change.Front.{Front}
use Rattle.transyt_track.specs.Due.{due}
use Rattle.transyt_track.specs.Tracker.{TrackerValue, AreOfMark, IsTracking}
use Rattle.transyt_track.proofs.ShapeLaws.{shape_count, shape_table}
use Rattle.transyt_track.proofs.PlaceLaws.{all_places_are}

-- the networks of two trackers have one shape where those of their values have
pub shape_inside : {was now other seen : TrackerValue} → was ≡ now → other ≡ seen → SameShape now.net seen.net
    → SameShape was.net other.net
shape_inside here there same = (λ j. shape (here j).net) ∙ same ∙ sym (λ j. shape (there j).net)

-- room for one network is room for each of its shape
room_shape : (a b : Network) → SameShape a b → (front : Front) → HasRoom a front → HasRoom b front
room_shape a b same front room = record {
  own_count = room.own_count ∙ shape_count a b same;
  count = room.count ∙ shape_count a b same;
  steps = room.steps ∙ (λ j. (same j).frame.step_count);
}

-- with no marked network there is no mark
pub no_mark : (mark : Option RowsValue) (marked : Network) → option_map (λ rows. marked) mark ≡ None → mark ≡ None
no_mark (Some rows) marked e = absurd (cc)
no_mark None marked e = refl

-- a new tracker
pub opened_tracks : {net marked : Network} {front : Front} {places : List PlacesValue} → marked ≡ net
    → AreEvaluation net front.kept.now → front.kept.marked ≡ None → places ≡ all_places net → HasRoom net front
    → IsTracking net marked front places
opened_tracks {net} copied evaluation closed all room = record {
  shape = sym (ap shape copied);
  evaluation = evaluation;
  back = rw closed tt;
  table = rw all (all_places_are net);
  room = room;
}

module _ {net marked : Network} {front : Front} {places : List PlacesValue}
    (tracking : IsTracking net marked front places) where
  -- a mark is set
  pub begun_tracks : IsTracking net net (record front { kept = record front.kept { marked = Some front.kept.now } })
      places
  begun_tracks = assumption

  -- the rows are those of another network, and no mark is open
  pub closed_tracks : {after other : Network} → SameShape net after → SameShape after other → {kept : KeptValue}
      → AreEvaluation after kept.now → kept.marked ≡ None
      → IsTracking after other (record front { kept = kept }) places
  closed_tracks {after} {other} same same_other {kept} evaluation closed =
      let back : AreOfMark other kept.marked = rw closed tt in
      assumption (
        same_other,
        back,
        shape_table net after same places tracking.table,
        room_shape net after same front tracking.room,
      )

-- a tracker goes over to another network with the shape of that of its value
module _ {was now : TrackerValue} (view : was ≡ now) {marked : Network} {front : Front} {places : List PlacesValue}
    (tracking : IsTracking was.net marked front places) (after : Network) (same : SameShape now.net after) where
  -- its own has that shape too
  pub follow_shape : SameShape was.net after
  follow_shape = (λ j. shape (view j).net) ∙ same

  -- there is room for it
  pub follow_room : HasRoom after front
  follow_room = room_shape was.net after follow_shape front tracking.room

  -- the pairs that are due are those from the network that its value tells
  pub follow_due : due was.net after ≡ due now.net after
  follow_due = ap (λ (t : TrackerValue). due t.net after) view

  -- its rows are those of that network
  pub follow_tracks : {new : Front} → AreEvaluation after new.kept.now → new.kept.marked ≡ front.kept.marked
      → HasRoom after new → IsTracking after marked new places
  follow_tracks {new} evaluation stays room = record {
    shape = sym follow_shape ∙ tracking.shape;
    evaluation = evaluation;
    back = rw stays tracking.back;
    table = shape_table was.net after follow_shape places tracking.table;
    room = room;
  }
