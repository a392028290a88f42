-- Worked profiles, each with its answer. No number is neutral.
use Rattle.std.specs.Prelude.{ℕ, List, [], ◌∷◌}

-- five steps of one link
abbrev pub one_link : List ℕ
one_link = 1733000 ∷ 0 ∷ 7 ∷ 600001 ∷ 431 ∷ []

-- five steps of another
abbrev pub other_link : List ℕ
other_link = 2 ∷ 97 ∷ 1619 ∷ 0 ∷ 5 ∷ []

-- their sum
abbrev pub both_links : List ℕ
both_links = 1733002 ∷ 97 ∷ 1626 ∷ 600001 ∷ 436 ∷ []

-- five steps of the one link, and then of the other
abbrev pub two_turns : List ℕ
two_turns = 1733000 ∷ 0 ∷ 7 ∷ 600001 ∷ 431 ∷ 2 ∷ 97 ∷ 1619 ∷ 0 ∷ 5 ∷ []

-- parts, wholes and values, with the share of each: a usual one, all, of no flow, none, and more than the whole
abbrev pub worked_shares : List ((ℕ × ℕ × ℕ) × ℕ)
worked_shares =
    ((37, 90, 1000003), 411112)
    ∷ ((90, 90, 77), 77)
    ∷ ((311, 0, 500), 0)
    ∷ ((0, 45, 500), 0)
    ∷ ((7, 1, 13), 91)
    ∷ ((9999, 3, 101), 336633)
    ∷ ((311, 742, 1733000), 726365)
    ∷ ((311, 742, 2), 0)
    ∷ []

-- 311 of 742 vehicles an hour of the one link
abbrev pub part_of_one_link : List ℕ
part_of_one_link = 726365 ∷ 0 ∷ 2 ∷ 251482 ∷ 180 ∷ []
