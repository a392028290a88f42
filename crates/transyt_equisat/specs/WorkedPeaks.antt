-- Worked fractions, plans and answers: such as are right, and such as are wrong in one thing.
use Rattle.std.specs.Prelude.{ℕ, Bool, true, false, List, [], ◌∷◌}
use Rattle.transyt_parts.specs.declared.node.Stage.{Stage}
use Rattle.transyt_parts.specs.Parts.{NodeValue}
use Rattle.transyt_parts.specs.Made.{new_stage, new_link}
use Rattle.transyt_net.specs.Parts.{Network, node_of}
use Rattle.transyt_equisat.specs.declared.fraction.Fraction.{Fraction}
use Rattle.transyt_equisat.specs.Balance.{GreensValue}
use Rattle.transyt_equisat.specs.WorkedBalances.{share, equal_town, four_at_peak}

-- a fraction
abbrev pub fraction : ℕ → ℕ → Fraction
fraction top base = record { top = top; base = base }

-- two fractions, and whether the first is above the second
abbrev pub compared : List (Fraction × Fraction × Bool)
compared =
    (fraction 6 14, fraction 3 7, false)
    ∷ (fraction 7 14, fraction 3 7, true)
    ∷ (fraction 5 14, fraction 3 7, false)
    ∷ []

-- the stages of node 21, with these changes
abbrev pub stages_of_21 : ℕ → ℕ → ℕ → List Stage
stages_of_21 first second third =
    new_stage first 1 3 ∷ new_stage second 2 4 ∷ new_stage third 0 1 ∷ []

-- the stages of node 7, with these changes
abbrev pub stages_of_7 : ℕ → ℕ → List Stage
stages_of_7 first second = new_stage first 3 2 ∷ new_stage second 1 5 ∷ []

-- None of these is a plan of node 21: another least green, another intergreen, two turns, and a stage too short.
abbrev pub unplanned : List (List Stage)
unplanned =
    (new_stage 2 1 3 ∷ new_stage 10 2 5 ∷ new_stage 16 0 1 ∷ [])
    ∷ (new_stage 2 1 3 ∷ new_stage 10 1 4 ∷ new_stage 16 0 1 ∷ [])
    ∷ stages_of_21 10 2 16
    ∷ stages_of_21 2 5 16
    ∷ []

-- a town whose greens fill the cycle in one way alone, with a link in each stage, and its node
abbrev pub tight_town : Network
tight_town = equal_town (four_at_peak ∷ new_link 9 7 103 1451 5 8 0 0 (2 ∷ []) ∷ [])

abbrev pub tight_node : NodeValue
tight_node = node_of tight_town 0

-- an answer for that node, of which the right one is 311 · 10 of 1555 · 4, greens of 4 and 3 and needs of 5 and 3
abbrev pub tight : ℕ → ℕ → ℕ → ℕ → ℕ → ℕ → GreensValue
tight top base green need other_green other_need =
    record { top = top; base = base; link = 4; stages = share 7 green need ∷ share 2 other_green other_need ∷ [] }

-- None of these is worth as much: a plan whose second stage is too short, greens that aren't those of the plan, a peak
-- that isn't, and needs that leave no step over, also where the peak is told in lowest terms.
abbrev pub worthless : List GreensValue
worthless =
    record { top = 3110; base = 7775; link = 4; stages = share 7 5 9 ∷ share 23 2 9 ∷ [] }
    ∷ tight 3110 6220 4 5 4 3
    ∷ tight 3110 6221 4 5 3 3
    ∷ tight 3110 6220 4 4 3 3
    ∷ tight 1 2 4 4 3 3
    ∷ []

-- an answer for node 7 with a plan of it whose peak isn't the least
abbrev pub not_least : GreensValue
not_least = record { top = 6984; base = 7255; link = 4; stages = share 5 5 9 ∷ share 13 9 8 ∷ [] }
