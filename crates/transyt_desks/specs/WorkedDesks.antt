-- Worked desks: such as stand for one network or for networks of one shape, and such as don't.
use Rattle.std.specs.Prelude.{List, [], ◌∷◌, None}
use Rattle.transyt_track.specs.WorkedWork.{junctions}
use Rattle.transyt_session.specs.declared.answers.Tried.{Tried}
use Rattle.transyt_session.specs.declared.answers.Tried.TheVariants.{Barred, Index}
use Rattle.transyt_session.specs.Session.{SessionValue}
use Rattle.transyt_session.specs.WorkedSessions.{in_trial}
use Rattle.transyt_climb.specs.Turns.{Machine, machine}
use Rattle.transyt_climb.specs.WorkedTurns.{idle_session, three_session}

-- a session of the junctions without work
abbrev pub twin : SessionValue
twin = record { net = junctions; before = None; work = 0 }

-- three desks with a trial at desk 0, in which an offset was changed
abbrev pub trial_first : List SessionValue
trial_first = in_trial ∷ twin ∷ twin ∷ []

-- two with a trial at desk 1
abbrev pub trial_second : List SessionValue
trial_second = twin ∷ in_trial ∷ []

-- two whose networks have not one shape
abbrev pub unlike : List SessionValue
unlike = twin ∷ idle_session ∷ []

-- a climber of three junctions at the last of their moves, which is barred, with seven looks left; the first move lowers
abbrev pub seven_left : Machine
seven_left = machine (record { place = 71; since = 1; looked = 2; budget = 9; count = 72 }) three_session

-- the tries of the last four moves of a network without links: its first stage has as many steps as it needs, so that it
-- can't begin later, nor the second earlier
abbrev pub idle_tries : List Tried
idle_tries = Barred ∷ Index 0 0 ∷ Index 0 0 ∷ Barred ∷ []
