-- Worked codes: what may follow what, how many numbers each card has, and each code before the next.
use Rattle.std.specs.Prelude.{ℕ, List, [], ◌∷◌, ◌++◌, codes, map, replicate, Option}
use Rattle.std.specs.Option.{option_map_or}
use Rattle.transyt_syntax.specs.declared.code.Code.{Code}
use Rattle.transyt_syntax.specs.Codes.{number}

-- a deck of form 2 up to its frame
abbrev pub upto_frame : List (List ℕ)
upto_frame = codes "FORM 2" ∷ codes "CYCLE 90 18 3 45 37 40" ∷ []

-- up to its node
abbrev pub upto_node : List (List ℕ)
upto_node = upto_frame ++ codes "NODE 21 4" ∷ []

-- up to its stages
abbrev pub upto_stages : List (List ℕ)
upto_stages = upto_node ++ codes "STAGE 2 1 3" ∷ codes "STAGE 8 2 4" ∷ []

-- up to its links
abbrev pub upto_links : List (List ℕ)
upto_links = upto_stages ++ codes "LINK 5 21 431 1733 3 2 1 2 1" ∷ codes "LINK 2 21 97 1619 5 7 0 1 2" ∷ []

-- up to a feed
abbrev pub upto_feed : List (List ℕ)
upto_feed = upto_links ++ codes "FEED 5 5 311 23" ∷ []

-- up to a rule
abbrev pub upto_rule : List (List ℕ)
upto_rule = upto_links ++ codes "YIELD 5 2 150" ∷ []

-- up to its plan
abbrev pub upto_plan : List (List ℕ)
upto_plan = upto_links ++ codes "STEPS 250 4 1 7" ∷ []

-- a deck of form 1 with one node of two stages
abbrev pub of_form_one : List (List ℕ)
of_form_one = codes "CYCLE 90 18 3 45 37" ∷ codes "NODE 21 4" ∷ codes "STAGE 2 1 3" ∷ codes "STAGE 8 2 4" ∷ []

-- the number of a code, 0 for none
abbrev pub numbered : Option Code → ℕ
numbered found = option_map_or number found 0

-- the cards in the order of the table of places
abbrev pub each_card : List (List ℕ)
each_card =
    codes "FORM 1" ∷ codes "CYCLE 90 18 3 45 37 40" ∷ codes "NODE 7 17" ∷ codes "STAGE 15 0 1"
    ∷ codes "LINK 9 21 613 1877 2 11 2 0 2" ∷ codes "FEED 5 2 173 38" ∷ codes "YIELD 2 5 35" ∷ codes "STEPS 250 4 1 7"
    ∷ codes "END" ∷ []

-- the table of places: what stands before, and the code of each card after it
abbrev pub places : List (List (List ℕ) × List ℕ)
places =
    ([], 0 ∷ 0 ∷ 15 ∷ 15 ∷ 15 ∷ 15 ∷ 15 ∷ 15 ∷ 15 ∷ [])
    ∷ (codes "FORM 1" ∷ [], 15 ∷ 0 ∷ 15 ∷ 15 ∷ 15 ∷ 15 ∷ 15 ∷ 15 ∷ 15 ∷ [])
    ∷ (upto_frame, 15 ∷ 15 ∷ 0 ∷ 15 ∷ 17 ∷ 17 ∷ 17 ∷ 0 ∷ 0 ∷ [])
    ∷ (upto_node, 15 ∷ 15 ∷ 0 ∷ 0 ∷ 17 ∷ 17 ∷ 17 ∷ 0 ∷ 22 ∷ [])
    ∷ (upto_stages, 15 ∷ 15 ∷ 0 ∷ 0 ∷ 0 ∷ 17 ∷ 17 ∷ 0 ∷ 0 ∷ [])
    ∷ (upto_links, 15 ∷ 15 ∷ 15 ∷ 15 ∷ 0 ∷ 0 ∷ 0 ∷ 0 ∷ 0 ∷ [])
    ∷ (upto_feed, 15 ∷ 15 ∷ 15 ∷ 15 ∷ 15 ∷ 0 ∷ 0 ∷ 0 ∷ 0 ∷ [])
    ∷ (upto_rule, 15 ∷ 15 ∷ 15 ∷ 15 ∷ 15 ∷ 0 ∷ 0 ∷ 0 ∷ 0 ∷ [])
    ∷ (upto_plan, 15 ∷ 15 ∷ 15 ∷ 15 ∷ 15 ∷ 15 ∷ 15 ∷ 15 ∷ 0 ∷ [])
    ∷ []

-- a node with eight stages
abbrev pub upto_eight : List (List ℕ)
upto_eight = upto_node ++ replicate 8 (codes "STAGE 0 0 1")

-- nine links, and eight feeds of the first
abbrev pub upto_feeds : List (List ℕ)
upto_feeds =
    upto_stages
    ++ map (λ digit. codes "LINK " ++ digit ∷ codes " 21 0 1800 1 1 0 0 1") (codes "123456789")
    ++ map (λ digit. codes "FEED 1 " ++ digit ∷ codes " 0 1") (codes "12345678")

-- lines after others, each with its code: a number past its limit, too few and too many numbers, and lines that have the
-- next code of their card too
abbrev pub coded : List (List (List ℕ) × List ℕ × ℕ)
coded =
    ([], codes "FORM 0", 14) ∷ ([], codes "FORM", 12) ∷ ([], codes "FORM 1 1", 12)
    ∷ ([], codes "* FORM 0", 0) ∷ ([], codes "CYCLE 29 18 3 45 37 40", 14)
    ∷ ([], codes "CYCLE 90 18 3 45", 12) ∷ ([], codes "CYCLE 90 18 3 45 37 40 1", 12)
    ∷ (upto_frame, codes "NODE 7 18", 14) ∷ (upto_frame, codes "NODE 7", 12)
    ∷ (upto_frame, codes "NODE 7 11 1", 12)
    ∷ (upto_frame, codes "STEPS 1 1 2 3 4 5 6 7 8 9 10 11 12 13 14 15 16", 0)
    ∷ (upto_frame, codes "STEPS 1 1 2 3 4 5 6 7 8 9 10 11 12 13 14 15 16 17", 12)
    ∷ (upto_node, codes "STAGE 2 1", 12) ∷ (upto_node, codes "STAGE 2 1 3 4", 12)
    ∷ (upto_stages, codes "LINK 9 21 613 1877 2 11 18 3 2", 14)
    ∷ (upto_stages, codes "LINK 9 21 613 1877 2 11 2 18 2", 14)
    ∷ (upto_stages, codes "LINK 9 21 613 1877 2 11 2 3", 12)
    ∷ (upto_stages, codes "LINK 9 21 613 1877 2 11 2 3 0", 17)
    ∷ (upto_stages, codes "LINK 9 21 613 1877 2 11 2 3 1 2 3 4 5 6 7 8 9", 12)
    ∷ (of_form_one, codes "LINK 9 21 613 1877 2 11", 12) ∷ (of_form_one, codes "LINK 9 21 613 1877 2 11 2", 0)
    ∷ (upto_links, codes "FEED 5 2 173", 12) ∷ (upto_links, codes "FEED 5 2 173 38 1", 12)
    ∷ (upto_links, codes "YIELD 5 2 401", 14) ∷ (upto_links, codes "YIELD 5 2", 12)
    ∷ (upto_links, codes "YIELD 5 2 35 1", 12) ∷ (upto_links, codes "STEPS 250 18 7", 14)
    ∷ (upto_links, codes "STEPS 1", 12) ∷ (upto_links, codes "END 1", 12)
    ∷ (upto_links, codes "FORM x", 13) ∷ (upto_links, codes "FORM 3", 15)
    ∷ (upto_links, codes "CYCLE 29 18 3 45 37 40", 15) ∷ (upto_links, codes "NODE 21 18", 15)
    ∷ (upto_node, codes "NODE 21 18", 16) ∷ (upto_links, codes "STAGE 18 1 3", 15)
    ∷ (upto_eight, codes "STAGE 18 1 3", 14) ∷ (upto_eight, codes "STAGE 2 1 3", 20)
    ∷ (upto_feed, codes "LINK 5 21 431 1733 3 2 1 2 1", 15) ∷ (upto_links, codes "LINK 5 9 431 1733 3 2 1 2 1", 16)
    ∷ (upto_links, codes "LINK 9 7 10000 1733 3 2 1 2 1", 17)
    ∷ (upto_links, codes "LINK 9 21 10000 1733 3 2 1 2 3", 17) ∷ (upto_plan, codes "FEED 5 5 311 23", 15)
    ∷ (upto_feed, codes "FEED 5 5 10000 23", 16) ∷ (upto_links, codes "FEED 5 9 10000 23", 17)
    ∷ (upto_links, codes "FEED 9 5 10000 23", 17) ∷ (upto_feeds, codes "FEED 1 9 10000 1", 14)
    ∷ (upto_feeds, codes "FEED 1 9 0 1", 20) ∷ (upto_plan, codes "YIELD 5 2 150", 15)
    ∷ (upto_rule, codes "YIELD 5 9 150", 16) ∷ (upto_links, codes "YIELD 5 9 401", 17)
    ∷ (upto_links, codes "YIELD 9 2 401", 17) ∷ (upto_plan, codes "STEPS 0 4", 15)
    ∷ (upto_node ++ codes "STAGE 2 9 18" ∷ [], codes "END", 22)
    ∷ (upto_stages ++ codes "STAGE 5 9 9" ∷ [], codes "END", 18)
    ∷ (upto_node ++ codes "STAGE 2 1 3" ∷ codes "STAGE 16 2 3" ∷ codes "NODE 7 0" ∷ [], codes "END", 19)
    ∷ []
