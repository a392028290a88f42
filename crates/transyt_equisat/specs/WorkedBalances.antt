-- Worked balances of the nodes of a town. No number is neutral.
use Rattle.std.specs.Prelude.{ℕ, List, [], ◌∷◌}
use Rattle.transyt_parts.specs.declared.node.Stage.{Stage}
use Rattle.transyt_parts.specs.Parts.{LinkValue}
use Rattle.transyt_parts.specs.Made.{new_stage, new_link, new_feed, add_feed}
use Rattle.transyt_net.specs.Parts.{Network}
use Rattle.transyt_net.specs.WorkedNets.{frame, of, signals}
use Rattle.transyt_equisat.specs.declared.greens.Share.{Share}
use Rattle.transyt_equisat.specs.Balance.{GreensValue}

-- links with these entry flows of link 5 and of link 4: one in the first stage of node 21 and one in its third, one in
-- each stage of node 7, and one in the first two stages of node 21, which doesn't count
abbrev pub worked_links : ℕ → ℕ → List LinkValue
worked_links five four =
    add_feed (new_feed 9 173 38) (new_link 5 21 five 1733 3 2 1 2 (1 ∷ []))
    ∷ new_link 2 21 297 1619 5 7 0 1 (3 ∷ [])
    ∷ new_link 9 7 613 1877 2 11 2 0 (2 ∷ [])
    ∷ add_feed (new_feed 2 77 61) (add_feed (new_feed 5 311 23) (new_link 4 7 four 1451 4 1 0 0 (1 ∷ [])))
    ∷ new_link 11 21 951 907 9 4 0 0 (1 ∷ 2 ∷ [])
    ∷ []

-- the town, in a cycle of 18 steps
abbrev pub worked_town : Network
worked_town = of (signals 4 8) (worked_links 431 0)

-- the same without traffic at node 7
abbrev pub empty_town : Network
empty_town = of (signals 4 8) (new_link 5 21 431 1733 3 2 1 2 (1 ∷ []) ∷ [])

-- and the same with a link there that has no traffic
abbrev pub quiet_town : Network
quiet_town = of (signals 4 8) (new_link 4 7 0 1451 4 1 0 0 (1 ∷ []) ∷ [])

-- a town in which a first and a third stage of node 21 are alike: link 5 has at 6 steps of green what link 2 has at 4
abbrev pub even_town : Network
even_town =
    of (signals 4 8) (new_link 5 21 735 1750 3 2 1 2 (1 ∷ []) ∷ new_link 2 21 455 1625 5 7 0 1 (3 ∷ []) ∷ [])

-- a stage of an answer
abbrev pub share : ℕ → ℕ → ℕ → Share
share change green need = record { change = change; green = green; need = need }

-- the balance of node 21, whose peak is that of link 5 at 7 steps of green: 604 · 18 of 1733 · 7
abbrev pub balance_of_21 : GreensValue
balance_of_21 =
    record { top = 10872; base = 12131; link = 5; stages = share 2 7 8 ∷ share 10 4 4 ∷ share 16 4 4 ∷ [] }

-- the balance of node 7: 388 · 18 of 1451 · 6
abbrev pub balance_of_7 : GreensValue
balance_of_7 = record { top = 6984; base = 8706; link = 4; stages = share 5 6 7 ∷ share 14 8 8 ∷ [] }

-- the balance of node 7 without traffic: all that is left of the cycle goes to the first stage
abbrev pub balance_without_traffic : GreensValue
balance_without_traffic = record { top = 0; base = 1; link = 0; stages = share 5 9 0 ∷ share 17 5 0 ∷ [] }

-- the balance of node 21 without traffic: of three stages too the first gets all that is left
abbrev pub three_without_traffic : GreensValue
three_without_traffic =
    record { top = 0; base = 1; link = 0; stages = share 2 10 0 ∷ share 13 4 0 ∷ share 1 1 0 ∷ [] }

-- and where both links are at the peak with 6, 4 and 4 steps: the first stage gets the one step that is left, so that
-- link 2 alone has the peak, 455 · 18 of 1625 · 4
abbrev pub balance_of_even : GreensValue
balance_of_even =
    record { top = 8190; base = 6500; link = 2; stages = share 2 7 7 ∷ share 10 4 4 ∷ share 16 4 5 ∷ [] }

-- two stages with an intergreen of 1 and a least green of 2
abbrev pub two_stages : List Stage
two_stages = new_stage 0 1 2 ∷ new_stage 5 1 2 ∷ []

-- their greens in a cycle of 10 steps
abbrev pub greens_in_ten : List (List ℕ)
greens_in_ten = (2 ∷ 6 ∷ []) ∷ (3 ∷ 5 ∷ []) ∷ (4 ∷ 4 ∷ []) ∷ (5 ∷ 3 ∷ []) ∷ (6 ∷ 2 ∷ []) ∷ []

-- a town of these links with one node, whose greens fill a cycle of 10 steps in one way alone: 4 and 3
abbrev pub equal_town : List LinkValue → Network
equal_town links = record (of (record {
  number = 7;
  offset = 6;
  stages = new_stage 7 1 4 ∷ new_stage 2 2 3 ∷ [];
} ∷ []) links) { frame = record frame { step_count = 10 } }

-- two links there that both have a half of what their greens let pass
abbrev pub four_at_peak : LinkValue
four_at_peak = new_link 4 7 311 1555 3 2 0 0 (1 ∷ [])

abbrev pub nine_at_peak : LinkValue
nine_at_peak = new_link 9 7 219 1460 5 8 0 0 (2 ∷ [])

-- the balance where link 4 comes first: 311 · 10 of 1555 · 4
abbrev pub balance_by_four : GreensValue
balance_by_four = record { top = 3110; base = 6220; link = 4; stages = share 7 4 5 ∷ share 2 3 4 ∷ [] }

-- and where link 9 does: 219 · 10 of 1460 · 3
abbrev pub balance_by_nine : GreensValue
balance_by_nine = record balance_by_four { top = 2190; base = 4380; link = 9 }
