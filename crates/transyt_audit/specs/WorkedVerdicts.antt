-- Worked verdicts: a junction with one link and one without, and the lines of their certificates.
use Rattle.std.specs.Prelude.{ℕ, List, [], ◌∷◌, ◌++◌, Bool, true, false, codes, replicate, Some}
use Rattle.transyt_parts.specs.Made.{new_stage, new_link, new_plan}
use Rattle.transyt_net.specs.Parts.{Network}

-- a junction of two stages with this offset and these changes; its six moves are by two steps
abbrev pub junction : ℕ → ℕ → ℕ → Network
junction offset first second = record {
  frame = record { cycle = 90; step_count = 18; sweeps = 3; period = 45; stop_penalty = 37; dispersion = 40 };
  nodes = record { number = 7; offset = offset; stages = new_stage first 1 3 ∷ new_stage second 2 4 ∷ [] } ∷ [];
  links = new_link 8 7 431 1733 3 2 1 2 (1 ∷ []) ∷ [];
  plan = Some (new_plan 250 (2 ∷ []));
}

-- one without a link, whose index is 0 whatever is moved, and one that two of its moves improve
abbrev pub bare : Network
bare = record (junction 5 16 9) { links = [] }

abbrev pub other : Network
other = junction 5 2 9

-- the lines of the first certificate behind its first line, which is as it is, with a blank more, or with another index
abbrev pub bare_lines : List (List ℕ)
bare_lines =
    codes "MOVE 1 OFFSET 7 3 INDEX 0"
    ∷ codes "MOVE 2 CHANGE 7 1 0 INDEX 0"
    ∷ codes "MOVE 3 CHANGE 7 1 14 BARRED"
    ∷ codes "MOVE 4 CHANGE 7 2 11 BARRED"
    ∷ codes "MOVE 5 CHANGE 7 2 7 INDEX 0"
    ∷ codes "CERT 6 INDEX 0"
    ∷ []

abbrev pub first_line : List ℕ
first_line = codes "MOVE 0 OFFSET 7 7 INDEX 0"

abbrev pub spaced_line : List ℕ
spaced_line = codes " MOVE 0  OFFSET 7 7 INDEX 0"

abbrev pub changed_line : List ℕ
changed_line = codes "MOVE 0 OFFSET 7 7 INDEX 1"

-- the lines of the other's moves
abbrev pub other_moves : List (List ℕ)
other_moves =
    codes "MOVE 0 OFFSET 7 7 INDEX 10773335"
    ∷ codes "MOVE 1 OFFSET 7 3 INDEX 10773335"
    ∷ codes "MOVE 2 CHANGE 7 1 4 INDEX 22116838"
    ∷ codes "MOVE 3 CHANGE 7 1 0 INDEX 6915416"
    ∷ codes "MOVE 4 CHANGE 7 2 11 INDEX 6915416"
    ∷ codes "MOVE 5 CHANGE 7 2 7 INDEX 22116838"
    ∷ []

-- a comment
abbrev pub note : List ℕ
note = codes "* note"

-- lines beside the true line CERT 6, and whether they agree with it: one of the greatest length, and of a byte more
abbrev pub agreements : List (List ℕ × Bool)
agreements =
    (codes "CERT 6" ++ replicate 4090 32, true) ∷ (codes "CERT 6" ++ replicate 4091 32, false)
    ∷ (codes "CERT", false) ∷ (codes "CERT 6 6", false) ∷ []
