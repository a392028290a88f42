-- A worked trial: DECK, PLOT and PROFILE in it tell the network as it stands then, and after BACK that of before. Their
-- lines were worked out apart.
use Rattle.std.specs.Prelude.{ℕ, List, [], ◌∷◌, ◌++◌, codes}

-- a deck of two junctions with three links, in the order of a deck text, with an offset of the first: each link is fed,
-- the second and the first by one another, and the third gives way to the first
abbrev pub two_junctions : List ℕ → List (List ℕ)
two_junctions offset =
    codes "FORM 2" ∷ codes "CYCLE 90 15 2 45 37 40"
    ∷ (codes "NODE 21 " ++ offset)
    ∷ codes "STAGE 2 1 3" ∷ codes "STAGE 7 2 4" ∷ codes "NODE 7 13" ∷ codes "STAGE 5 3 2" ∷ codes "STAGE 14 1 3"
    ∷ codes "LINK 5 21 431 1733 3 2 1 2 1" ∷ codes "LINK 9 7 97 1619 5 7 0 1 2" ∷ codes "LINK 4 7 151 907 4 1 2 0 1 2"
    ∷ codes "FEED 5 9 88 9" ∷ codes "FEED 9 5 311 23" ∷ codes "FEED 4 9 77 61" ∷ codes "YIELD 4 5 150"
    ∷ codes "STEPS 5 1" ∷ codes "END" ∷ []

-- commands over it: a trial with another offset, and requests in it and after it
abbrev pub trial_commands : List (List ℕ)
trial_commands =
    codes "TRIAL" ∷ codes "OFFSET 21 9" ∷ codes "DECK" ∷ codes "PLOT 4" ∷ codes "PROFILE 9" ∷ codes "BACK"
    ∷ codes "DECK" ∷ []

-- the plot of the third link with that offset: in five steps no more than a unit may leave, since it gives way
abbrev pub plot_in_trial : List (List ℕ)
plot_in_trial =
    codes "PLOT 4 SCALE 1511666"
    ∷ codes "000 IIII................|....................|...................."
    ∷ codes "001 IIII................|....................|...................."
    ∷ codes "002 III.................|....................|...................."
    ∷ codes "003 III.................|GGGGGGGGGGGGGGGGGGGG|OOOOOOOOOOOOOOOOOOOO"
    ∷ codes "004 III.................|GGGGGGGGGGGGGGGGGGGG|OOOOOOOOO..........."
    ∷ codes "005 III.................|GGGGGGGGGGGGGGGGGGGG|OOO................."
    ∷ codes "006 IIIII...............|GGGGGGGGGGGGGGGGGGGG|OOOOO..............."
    ∷ codes "007 IIIIII..............|GGGGGGGGGGGGGGGGGGGG|OOOOOO.............."
    ∷ codes "008 IIIIII..............|GGGGGGGGGGGGGGGGGGGG|OOOOOO.............."
    ∷ codes "009 IIIIII..............|GGGGGGGGGGGGGGGGGGGG|OOOOOO.............."
    ∷ codes "010 IIIIII..............|GGGGGGGGGGGGGGGGGGGG|OOOOOO.............."
    ∷ codes "011 IIIIII..............|GGGGGGGGGGGGGGGGGGGG|OOOOOO.............."
    ∷ codes "012 IIIII...............|GGGGGGGGGGGGGGGGGGGG|OOOOO..............."
    ∷ codes "013 IIIII...............|....................|...................."
    ∷ codes "014 IIII................|....................|...................."
    ∷ []

-- the profiles of the second link with that offset
abbrev pub profile_in_trial : List (List ℕ)
profile_in_trial =
    codes "IN 9 164574 949967 1378363 1611990 1739466 1409501 842303 532922 364169 272122 221914 194528 179590 171442 166998"
    ∷ codes "GO 9 2698333 2698333 2698333 2698333 0 0 0 0 0 0 0 0 0 2698333 2698333"
    ∷ codes "OUT 9 862863 949967 1378363 1611990 0 0 0 0 0 0 0 0 0 2698333 2698333"
    ∷ []

-- the answers to END and to them
abbrev pub trial_answers : List (List ℕ)
trial_answers =
    codes "ACCEPTED 2 3" ∷ codes "DONE" ∷ codes "DONE"
    ∷ (two_junctions (codes "9") ++ (plot_in_trial ++ (profile_in_trial ++ codes "DONE" ∷ two_junctions (codes "4"))))
