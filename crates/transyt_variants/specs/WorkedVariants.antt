-- Worked starts and cycle times of a town of two nodes. No number is neutral.
use Rattle.std.specs.Prelude.{ℕ, List, [], ◌∷◌, None, Some}
use Rattle.transyt_parts.specs.Parts.{NodeValue}
use Rattle.transyt_parts.specs.Made.{new_stage, new_plan, new_link}
use Rattle.transyt_net.specs.Parts.{Network}
use Rattle.transyt_net.specs.WorkedNets.{frame, of, signals}
use Rattle.transyt_equisat.specs.WorkedBalances.{even_town, worked_town, worked_links}
use Rattle.transyt_variants.specs.declared.cycles.AtCycle.{AtCycle}
use Rattle.transyt_variants.specs.declared.cycles.AtCycle.TheVariants.{NoPlan, Barred, Plan}

-- the nodes of the town, by the offset and the changes of each
abbrev pub nodes_at : ℕ → List ℕ → ℕ → List ℕ → List NodeValue
nodes_at offset (a ∷ b ∷ c ∷ []) other (d ∷ e ∷ []) = record {
  number = 21;
  offset = offset;
  stages = new_stage a 1 3 ∷ new_stage b 2 4 ∷ new_stage c 0 1 ∷ [];
} ∷ record {
  number = 7;
  offset = other;
  stages = new_stage d 3 2 ∷ new_stage e 1 5 ∷ [];
} ∷ []
nodes_at _ _ _ _ = []

-- the town with these offsets
abbrev pub town_with : ℕ → ℕ → Network
town_with offset other = of (nodes_at offset (2 ∷ 8 ∷ 15 ∷ []) other (5 ∷ 16 ∷ [])) (worked_links 431 0)

-- its first five starts from seed 7, whose draws modulo 18 are 16, 14, 14, 12, 5, 17, 12 and 2: the town, and two draws
-- for each other start
abbrev pub worked_starts : List Network
worked_starts = town_with 4 17 ∷ town_with 16 14 ∷ town_with 14 12 ∷ town_with 5 17 ∷ town_with 12 2 ∷ []

-- the town at a cycle time of so many steps
abbrev pub town_at : ℕ → ℕ → List NodeValue → AtCycle
town_at cycle steps nodes =
    Plan (record worked_town { frame = record frame { cycle = cycle; step_count = steps }; nodes = nodes })

-- the bare nodes at 135 seconds, 27 steps
abbrev pub bare_at_135 : List NodeValue
bare_at_135 = nodes_at 6 (3 ∷ 23 ∷ 2 ∷ []) 25 (7 ∷ 1 ∷ [])

-- the town at 135 seconds; and at 55, where intergreens and least greens fill the cycle of both nodes
abbrev pub town_at_135 : AtCycle
town_at_135 = town_at 135 27 (nodes_at 6 (3 ∷ 17 ∷ 23 ∷ []) 25 (7 ∷ 20 ∷ []))

abbrev pub town_at_55 : AtCycle
town_at_55 = town_at 55 11 (nodes_at 2 (1 ∷ 5 ∷ 0 ∷ []) 10 (3 ∷ 8 ∷ []))

-- the town at its own 90 seconds: not as it stands, but with its balance
abbrev pub town_at_90 : AtCycle
town_at_90 = town_at 90 18 (nodes_at 4 (2 ∷ 10 ∷ 16 ∷ []) 17 (5 ∷ 14 ∷ []))

-- the town with a first and a third stage that are alike, at 140 seconds, 28 steps: 12, 4 and 8 steps of green are
-- enough for node 21, and the first of its three stages gets the one that is left, as that of node 7 all that are
abbrev pub even_town_at_140 : AtCycle
even_town_at_140 =
    Plan (record even_town {
      frame = record frame { cycle = 140; step_count = 28 };
      nodes = nodes_at 6 (3 ∷ 17 ∷ 23 ∷ []) 26 (7 ∷ 1 ∷ []);
    })

-- the town with steps a third as long
abbrev pub fast_town : Network
fast_town = record worked_town { frame = record frame { cycle = 30 } }

-- a network of the town's nodes and one link with these lags
abbrev pub lagged : ℕ → ℕ → Network
lagged start finish = of (signals 4 8) (new_link 5 21 431 1733 3 2 start finish (1 ∷ []) ∷ [])

-- the town with this size in its climb plan
abbrev pub sized : ℕ → Network
sized size = record worked_town { plan = Some (new_plan 250 (4 ∷ size ∷ 7 ∷ [])) }

-- the town with a shorter first node
abbrev pub short_town : Network
short_town = record worked_town {
  nodes = record { number = 21; offset = 4; stages = new_stage 2 1 3 ∷ new_stage 8 2 3 ∷ new_stage 15 0 1 ∷ [] }
      ∷ record { number = 7; offset = 17; stages = new_stage 5 3 2 ∷ new_stage 16 1 5 ∷ [] } ∷ [];
}

-- the town with another least green of this stage: node 21's second, and node 7's second
abbrev pub with_least : ℕ → ℕ → Network
with_least second other = record worked_town {
  nodes = record { number = 21; offset = 4; stages = new_stage 2 1 3 ∷ new_stage 8 2 second ∷ new_stage 15 0 1 ∷ [] }
      ∷ record { number = 7; offset = 17; stages = new_stage 5 3 2 ∷ new_stage 16 1 other ∷ [] } ∷ [];
}

-- the town without a climb plan
abbrev pub planless : Network
planless = record worked_town { plan = None }

-- a network without nodes and links, of this cycle time and number of steps
abbrev pub empty_at : ℕ → ℕ → Network
empty_at cycle steps = record (of [] []) { frame = record frame { cycle = cycle; step_count = steps } }

-- a cycle time of a network, and what it comes to
pub record Case : Type 0 where
  pub net : Network
  pub cycle : ℕ
  pub comes_to : AtCycle

abbrev pub case_of : Network → ℕ → AtCycle → Case
case_of net cycle comes_to = record { net = net; cycle = cycle; comes_to = comes_to }

-- no whole number of steps; 9 steps; 144; a start lag, an end lag and a size of 10 in 10 steps; and each of 9, where
-- the 11 steps that the first node takes bar it; the first barred node is the second
abbrev pub unplanned : List Case
unplanned =
    case_of worked_town 92 NoPlan ∷ case_of worked_town 45 NoPlan ∷ case_of fast_town 240 NoPlan
    ∷ case_of (lagged 10 2) 50 NoPlan ∷ case_of (lagged 1 10) 50 NoPlan ∷ case_of (sized 10) 50 NoPlan
    ∷ case_of (lagged 9 9) 50 (Barred 21) ∷ case_of (sized 9) 50 (Barred 21)
    ∷ case_of short_town 50 (Barred 7) ∷ []

-- two barred nodes, of which the second needs more, and of which the first does: the first in card order is named;
-- without a climb plan no size is too long; and 9, 10, 120 and 121 steps
abbrev pub bounds : List Case
bounds =
    case_of (with_least 4 6) 50 (Barred 21) ∷ case_of (with_least 5 5) 50 (Barred 21)
    ∷ case_of planless 50 (Barred 21)
    ∷ case_of (empty_at 120 40) 30 (Plan (empty_at 30 10)) ∷ case_of (empty_at 120 20) 54 NoPlan
    ∷ case_of (empty_at 120 120) 120 (Plan (empty_at 120 120)) ∷ case_of (empty_at 120 120) 121 NoPlan
    ∷ []
