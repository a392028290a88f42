-- A tracker as its contracts see it, and the facts of its parts.
use Rattle.std.specs.Prelude.{List, Option, None, IfSome}
use Rattle.std.specs.Option.{option_map}
use Rattle.transyt_net.specs.Parts.{Network, SameShape}
use Rattle.transyt_kept.specs.Rows.{RowsValue}
use Rattle.transyt_sweep.specs.Front.{AreEvaluation}
use Rattle.transyt_track.specs.declared.change.Front.{Front}
use Rattle.transyt_track.specs.Own.{PlacesValue, ArePlaces}
use Rattle.transyt_track.specs.Change.{HasRoom}

-- a tracker: the network that it stands for, and the one that its open mark stands for, or none
pub record TrackerValue : Type 0 where
  pub net : Network
  pub mark : Option Network

-- a tracker that stands for a network, with no mark
abbrev pub unmarked : Network → TrackerValue
unmarked net = record { net = net; mark = None }

-- the tracker of a network, of the rows of its mark, if one is open, and of the network that was marked
abbrev pub tracker_of : Network → Option RowsValue → Network → TrackerValue
tracker_of net mark marked = record { net = net; mark = option_map (λ rows. marked) mark }

-- THE LAW OF THE MARK: the rows of an open mark are the evaluation of the marked network
abbrev pub AreOfMark : Network → Option RowsValue → Type 0
AreOfMark marked mark = IfSome mark (AreEvaluation marked)

-- the rows are the evaluation of the network, and those of the mark that of the marked one. No public clause cites it.
pub record IsTracking (net marked : Network) (front : Front) (places : List PlacesValue) : Type 0 where
  pub shape : SameShape net marked
  pub evaluation : AreEvaluation net front.kept.now
  pub back : AreOfMark marked front.kept.marked
  pub table : ArePlaces net places
  pub room : HasRoom net front
