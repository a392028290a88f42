-- A worked session: a trial with an allowed edit of work 6, on a network in which no number is neutral.
use Rattle.std.specs.Prelude.{List, [], ◌∷◌, Some, None}
use Rattle.transyt_parts.specs.Made.{new_weights}
use Rattle.transyt_net.specs.declared.edit.Edit.{Edit}
use Rattle.transyt_net.specs.declared.edit.Edit.TheVariants.{Offset, Change, Part, Cruise, Weight}
use Rattle.transyt_net.specs.declared.edit.EditFault.TheVariants.{Unknown, NoFeeder, Range, LeastGreen}
use Rattle.transyt_net.specs.Edits.{with_edit}
use Rattle.transyt_net.specs.Parts.{Network}
use Rattle.transyt_track.specs.WorkedWork.{junctions}
use Rattle.transyt_session.specs.declared.answers.Reply.{Reply}
use Rattle.transyt_session.specs.declared.answers.Reply.TheVariants.{Done, Refused}
use Rattle.transyt_session.specs.Session.{SessionValue}

-- the offset of node 21 at nine steps
abbrev pub shifted : Network
shifted = with_edit junctions (Offset 21 9)

-- a session with some work and no trial
abbrev pub begun : SessionValue
begun = record { net = junctions; before = None; work = 5 }

-- the same in a trial with that offset
abbrev pub in_trial : SessionValue
in_trial = record { net = shifted; before = Some junctions; work = 11 }

-- after that trial was taken back
abbrev pub taken_back : SessionValue
taken_back = record { net = junctions; before = None; work = 11 }

-- after it was kept
abbrev pub kept : SessionValue
kept = record { net = shifted; before = None; work = 11 }

-- edits of the network, each with its answer
abbrev pub worked_replies : List (Edit × Reply)
worked_replies =
    (Offset 21 9, Done 6)
    ∷ (Offset 7 3, Done 5)
    ∷ (Offset 21 15, Refused Range)
    ∷ (Change 21 2 4, Refused LeastGreen)
    ∷ (Cruise 9 5 22, Done 2)
    ∷ (Part 4 5 300, Refused NoFeeder)
    ∷ (Weight 8 (new_weights 1 99), Refused Unknown)
    ∷ (Weight 9 (new_weights 1 99), Done 0)
    ∷ []
