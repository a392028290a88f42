-- Worked inputs, each with its report, which was worked out apart.
use Rattle.std.specs.Prelude.{ℕ, List, [], ◌∷◌, ◌++◌, codes, flat_map}

-- lines as they are written, each with a line end
abbrev pub text_of : List (List ℕ) → List ℕ
text_of lines = flat_map (λ line. line ++ 10 ∷ []) lines

-- a deck of one junction with one link
abbrev pub one_link : List (List ℕ)
one_link =
    codes "CYCLE 90 15 2 45 37 40" ∷ codes "NODE 21 4" ∷ codes "* the second stage" ∷ codes "STAGE 2 1 3"
    ∷ codes "STAGE 6 2 4" ∷ codes "LINK 5 21 431 1733 3 2 1" ∷ codes "STEPS 7 2" ∷ codes "END" ∷ []

-- commands over it: a line with an odd byte, edits that are allowed and edits that aren't, a trial and commands that it
-- bars, and reports; a line after STOP is not answered
abbrev pub commands : List (List ℕ)
commands =
    codes "queue 5" ∷ [] ∷ codes "OFFSET 21 9" ∷ codes "OFFSET 22 9" ∷ codes "CHANGE 21 2 5" ∷ codes "BACK"
    ∷ codes "TRIAL" ∷ codes "OFFSET 21 3" ∷ codes "CLIMB" ∷ codes "TRIAL" ∷ codes "* a remark" ∷ codes "TIMING"
    ∷ codes "BACK" ∷ codes "WORK" ∷ codes "KEEP" ∷ codes "PROFILE 6" ∷ codes "PLOT" ∷ codes "QUEUE 5"
    ∷ codes "TRIAL" ∷ codes "OFFSET 21 12" ∷ codes "KEEP" ∷ codes "TIMING" ∷ codes "STOP" ∷ codes "QUEUE 5" ∷ []

-- the timing of its junction with an offset, where its stages begin at these steps
abbrev pub timing : List ℕ → List ℕ → List ℕ → List (List ℕ)
timing offset first second =
    (codes "NODE 21 OFFSET " ++ offset)
    ∷ (codes "STAGE 1 CHANGE 2 AT " ++ first ++ codes " LENGTH 4 INTERGREEN 1 GREEN 3 LEAST 3")
    ∷ (codes "STAGE 2 CHANGE 6 AT " ++ second ++ codes " LENGTH 11 INTERGREEN 2 GREEN 9 LEAST 4")
    ∷ codes "END TIMING" ∷ []

-- the answers to END and to them: in the first trial the timing of its network, after it that of before, and after
-- the second, which is kept, that of its network
abbrev pub answers : List (List ℕ)
answers =
    codes "ACCEPTED 1 1" ∷ codes "REFUSED 10" ∷ codes "DONE" ∷ codes "REFUSED 17" ∷ codes "REFUSED 19"
    ∷ codes "REFUSED 24" ∷ codes "DONE" ∷ codes "DONE" ∷ codes "REFUSED 25" ∷ codes "REFUSED 25"
    ∷ timing (codes "3") (codes "5") (codes "9") ++ codes "DONE"
    ∷ codes "WORK 4" ∷ codes "REFUSED 24" ∷ codes "REFUSED 17" ∷ codes "REFUSED 12"
    ∷ codes "QUEUE 5 577666 1155332 1732998 2310664 2888330 3465996 4043662 4621328 5198994 5776660 6354326 6931992 4621325 2310658 0"
    ∷ codes "DONE" ∷ codes "DONE" ∷ codes "DONE" ∷ timing (codes "12") (codes "14") (codes "3")

-- a deck of one junction without links
abbrev pub no_link : List (List ℕ)
no_link =
    codes "CYCLE 90 15 2 45 37 40" ∷ codes "NODE 21 4" ∷ codes "STAGE 2 1 3" ∷ codes "STAGE 6 2 4"
    ∷ codes "STEPS 7 2" ∷ codes "END" ∷ []

-- a climb over it, a certificate, a change, the index and the work after them
abbrev pub climb_commands : List (List ℕ)
climb_commands =
    codes "CLIMB" ∷ codes "CERT" ∷ codes "CHANGE 21 2 8" ∷ codes "INDEX" ∷ codes "WORK" ∷ []

-- the answers to END and to them: no move lowers an index of 0
abbrev pub climb_answers : List (List ℕ)
climb_answers =
    codes "ACCEPTED 1 0" ∷ codes "LOCAL 6 INDEX 0" ∷ codes "MOVE 0 OFFSET 21 6 INDEX 0"
    ∷ codes "MOVE 1 OFFSET 21 2 INDEX 0" ∷ codes "MOVE 2 CHANGE 21 1 4 BARRED" ∷ codes "MOVE 3 CHANGE 21 1 0 INDEX 0"
    ∷ codes "MOVE 4 CHANGE 21 2 8 INDEX 0" ∷ codes "MOVE 5 CHANGE 21 2 4 BARRED" ∷ codes "CERT 6 INDEX 0"
    ∷ codes "DONE" ∷ codes "INDEX 0" ∷ codes "WORK 0" ∷ []

-- a deck whose fourth line is refused: the number of the node is taken
abbrev pub taken_number : List (List ℕ)
taken_number = codes "CYCLE 90 15 2 45 37 40" ∷ codes "NODE 21 4" ∷ [] ∷ codes "NODE 21 5" ∷ codes "STAGE 2 1 3" ∷ []

-- a deck without END
abbrev pub without_end : List (List ℕ)
without_end = codes "CYCLE 90 15 2 45 37 40" ∷ codes "NODE 21 4" ∷ codes "STAGE 2 1 3" ∷ []
