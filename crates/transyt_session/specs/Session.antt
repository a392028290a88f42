-- A session, and the session after each of its calls.
use Rattle.std.specs.Prelude.{ℕ, ◌+◌, Bool, Option, Some, None, is_some, if◌then◌else◌}
use Rattle.std.specs.Option.{option_map_or}
use Rattle.transyt_net.specs.declared.edit.Edit.{Edit}
use Rattle.transyt_net.specs.declared.edit.EditFault.{EditFault}
use Rattle.transyt_net.specs.Parts.{Network}
use Rattle.transyt_net.specs.Edits.{with_edit}
use Rattle.transyt_net.specs.EditFaults.{edit_fault}
use Rattle.transyt_sweep.specs.Climb.{index_with, is_below}
use Rattle.transyt_sweep.specs.Sweeps.{index}
use Rattle.transyt_track.specs.Due.{due, edit_work}
use Rattle.transyt_session.specs.declared.answers.Reply.{Reply}
use Rattle.transyt_session.specs.declared.answers.Reply.TheVariants.{Done, Refused}
use Rattle.transyt_session.specs.declared.answers.Tried.{Tried}
use Rattle.transyt_session.specs.declared.answers.Tried.TheVariants.{Barred, Index}

-- the network now, the network before the open trial or none, and the work so far
pub record SessionValue : Type 0 where
  pub net : Network
  pub before : Option Network
  pub work : ℕ

-- a session that has just begun
abbrev pub opened : Network → SessionValue
opened net = record { net = net; before = None; work = 0 }

-- the network that an edit leaves, by the fault of the edit
abbrev pub net_with : Network → Edit → Option EditFault → Network
net_with net e None = with_edit net e
net_with net e (Some fault) = net

-- the network that an edit leaves: with the edit made, or as it was where the edit isn't allowed
abbrev pub edited_net : Network → Edit → Network
edited_net net e = net_with net e (edit_fault net e)

-- an edit: an allowed one is made and its work added, any other changes nothing
abbrev pub edited : Edit → SessionValue → SessionValue
edited e s = record { net = edited_net s.net e; before = s.before; work = s.work + edit_work s.net e }

-- the answer to an edit: its work, or its fault
abbrev pub reply_to : Network → Edit → Reply
reply_to net e = option_map_or Refused (edit_fault net e) (Done (due net (with_edit net e)))

-- the answer to a try of an edit, by its fault
abbrev pub tried_with : Network → Edit → Option EditFault → Tried
tried_with net e None = Index (index (with_edit net e)) (due net (with_edit net e))
tried_with net e (Some fault) = Barred

-- the answer to a try of an edit: the index with the edit made and its work, or that it isn't allowed
abbrev pub try_of : Network → Edit → Tried
try_of net e = tried_with net e (edit_fault net e)

-- whether an edit is allowed and brings the index below a bound
abbrev pub falls_below : ℕ → Network → Edit → Bool
falls_below bound net e = is_below bound (index_with net e (edit_fault net e))

-- a try of an edit with a bound: one that is allowed and brings the index below the bound is made, and the work stays
abbrev pub tried_below : ℕ → Edit → SessionValue → SessionValue
tried_below bound e s = record {
  net = if falls_below bound s.net e then with_edit s.net e else s.net;
  before = None;
  work = s.work;
}

-- whether an edit is allowed and lowers the index
abbrev pub edit_lowers : Network → Edit → Bool
edit_lowers net e = falls_below (index net) net e

-- a look at an edit: one that is allowed and lowers the index is made, and the work of an allowed one is added
abbrev pub lowered : Edit → SessionValue → SessionValue
lowered e s = record {
  net = if edit_lowers s.net e then with_edit s.net e else s.net;
  before = None;
  work = s.work + edit_work s.net e;
}

-- the answer to a look at an edit: the index with the edit made, where it is allowed and lowers it
abbrev pub lower_index : Network → Edit → Option ℕ
lower_index net e = if edit_lowers net e then Some (index (with_edit net e)) else None

-- a trial begins: where none is open, the network now is kept as the one before
abbrev pub trial_of : SessionValue → SessionValue
trial_of s = if is_some s.before then s else record { net = s.net; before = Some s.net; work = s.work }

-- the network before an open trial, or else the one now
abbrev pub net_before : Option Network → Network → Network
net_before None net = net
net_before (Some before) net = before

-- a trial is taken back: its network before is the one now, and the work stays
abbrev pub back_of : SessionValue → SessionValue
back_of s = record { net = net_before s.before s.net; before = None; work = s.work }

-- a trial is kept: its network before is forgotten
abbrev pub keep_of : SessionValue → SessionValue
keep_of s = record { net = s.net; before = None; work = s.work }

-- a session with more work
abbrev pub credited : ℕ → SessionValue → SessionValue
credited work s = record { net = s.net; before = s.before; work = s.work + work }

-- a session that stands for another network
abbrev pub standing_for : Network → SessionValue → SessionValue
standing_for net s = record { net = net; before = None; work = s.work }
