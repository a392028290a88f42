-- Worked rounds: how many places are tried at once, how many turns a round is, and the desks that are opened.
use Rattle.std.specs.Prelude.{ℕ, List, [], ◌∷◌, Bool, true, false, None}
use Rattle.transyt_net.specs.declared.edit.Edit.TheVariants.{Change}
use Rattle.transyt_climb.specs.declared.turn.Turn.{Turn}
use Rattle.transyt_climb.specs.declared.turn.Turn.TheVariants.{Took, Passed, Local, Budget}
use Rattle.transyt_climb.specs.Turns.{Counters, Machine, machine}
use Rattle.transyt_climb.specs.WorkedTurns.{gone_round, idle_session, junctions_session, on_way, used_up, way}
use Rattle.transyt_session.specs.Session.{SessionValue}
use Rattle.transyt_track.specs.WorkedWork.{junctions}

-- numbers of workers and a climber, with how many places are tried at once: a worker each, but none past the budget,
-- and none past a whole round of the list
abbrev pub worked_rooms : List (ℕ × Counters × ℕ)
worked_rooms =
    (2, on_way 9, 2)
    ∷ (8, on_way 9, 5)
    ∷ (8, on_way 7, 4)
    ∷ (1, on_way 7, 1)
    ∷ (8, used_up, 0)
    ∷ []

-- a climber so many places after its last step, or its start, after so many looks
abbrev pub has_passed : ℕ → ℕ → Counters
has_passed since looked = record { place = 4; since = since; looked = looked; budget = 9258; count = 1152 }

-- numbers of desks and a climber, with how many places they try in a round of stretches: before any step, right after
-- one, and when 7, 8 and more places have passed since, up to 64 by four desks at most; then the same where a climb is
-- late, which it is once it has looked at two lists for two desks, at one and a third for three, at one for more
abbrev pub worked_places : List (ℕ × Counters × ℕ)
worked_places =
    (1, has_passed 0 0, 1)
    ∷ (1, has_passed 70 90, 1)
    ∷ (3, has_passed 0 0, 3)
    ∷ (3, has_passed 0 1, 1)
    ∷ (8, has_passed 7 30, 1)
    ∷ (8, has_passed 7 7, 1)
    ∷ (8, has_passed 8 30, 4)
    ∷ (2, has_passed 8 40, 4)
    ∷ (2, has_passed 16 40, 8)
    ∷ (8, has_passed 31 40, 12)
    ∷ (8, has_passed 32 40, 16)
    ∷ (8, has_passed 63 80, 28)
    ∷ (8, has_passed 64 80, 32)
    ∷ (3, has_passed 71 90, 33)
    ∷ (3, has_passed 72 90, 36)
    ∷ (2, has_passed 127 300, 62)
    ∷ (2, has_passed 128 300, 64)
    ∷ (8, has_passed 1000 1100, 256)
    ∷ (2, has_passed 7 2303, 1)
    ∷ (2, has_passed 7 2304, 4)
    ∷ (3, has_passed 7 1535, 1)
    ∷ (3, has_passed 8 1535, 3)
    ∷ (3, has_passed 8 1536, 6)
    ∷ (4, has_passed 7 1151, 1)
    ∷ (4, has_passed 7 1152, 4)
    ∷ (8, has_passed 0 1151, 1)
    ∷ (8, has_passed 0 1152, 4)
    ∷ (1, has_passed 70 3456, 1)
    ∷ (2, has_passed 0 3456, 4)
    ∷ (2, has_passed 11 5000, 4)
    ∷ (2, has_passed 12 5000, 6)
    ∷ (3, has_passed 17 5000, 6)
    ∷ (3, has_passed 18 5000, 9)
    ∷ (4, has_passed 15 5000, 4)
    ∷ (4, has_passed 16 5000, 8)
    ∷ (4, has_passed 24 5000, 12)
    ∷ (5, has_passed 1 3456, 4)
    ∷ (5, has_passed 63 5000, 28)
    ∷ (5, has_passed 64 5000, 30)
    ∷ (8, has_passed 1000 5000, 256)
    ∷ []

-- numbers of workers and a climber, with how many turns its round is where no move lowers the index
abbrev pub worked_rounds : List (ℕ × Machine × ℕ)
worked_rounds =
    (1, way 9, 1)
    ∷ (3, way 9, 3)
    ∷ (8, way 9, 5)
    ∷ (8, way 5, 2)
    ∷ (4, machine gone_round idle_session, 1)
    ∷ (4, machine used_up idle_session, 1)
    ∷ []

-- turns, and whether each takes a step
abbrev pub worked_tooks : List (Turn × Bool)
worked_tooks = (Took 3 (Change 21 1 9) 1352922, true) ∷ (Passed, false) ∷ (Local, false) ∷ (Budget, false) ∷ []

-- a session with some work, and two twins of it without
abbrev pub three_desks : List SessionValue
three_desks =
    junctions_session ∷ record { net = junctions; before = None; work = 0 }
    ∷ record { net = junctions; before = None; work = 0 } ∷ []
