-- Figures in the units of an engineer that were worked out apart, with their links. No number of them is neutral.
use Rattle.std.specs.Prelude.{ℕ, List, [], ◌∷◌, codes}
use Rattle.transyt_parts.specs.Made.{new_link}
use Rattle.transyt_net.specs.Parts.{Network}
use Rattle.transyt_sweep.specs.WorkedSweeps.{one_node}
use Rattle.transyt_report.specs.declared.measures.LinkFigures.{LinkFigures}
use Rattle.transyt_report.specs.WorkedTexts.{ended}

-- arrivals and GO of a cycle, with the degree of saturation: below and above 1,000, without arrivals, without GO, and
-- at the greatest degree that is written
abbrev pub worked_degrees : List ((ℕ × ℕ) × ℕ)
worked_degrees =
    ((13599728, 14441664), 941) ∷ ((21924990, 6672220), 3286)
    ∷ ((0, 7), 0) ∷ ((0, 0), 0) ∷ ((5, 0), 999999)
    ∷ ((999998, 1000), 999998) ∷ ((999999, 1000), 999999) ∷ ((1000000, 1000), 999999) ∷ ((40000000, 3), 999999) ∷ []

-- cycle, waiting vehicles and arrivals of a cycle, with the mean delay
abbrev pub worked_delays : List ((ℕ × ℕ × ℕ) × ℕ)
worked_delays =
    ((90, 9845398, 13599728), 651) ∷ ((90, 232102771, 21924990), 9527) ∷ ((60, 1878618, 6000000), 187)
    ∷ ((240, 7, 0), 0) ∷ ((37, 2, 740), 1) ∷ ((37, 2, 741), 0) ∷ []

-- cycle, stops in a second and arrivals of a cycle, with the vehicles that stop
abbrev pub worked_stops : List ((ℕ × ℕ × ℕ) × ℕ)
worked_stops =
    ((90, 140944, 13599728), 932) ∷ ((90, 70016, 21924990), 287) ∷ ((60, 70000, 6000000), 700)
    ∷ ((31, 5, 0), 0) ∷ ((31, 1, 31000), 1) ∷ ((31, 1, 31001), 0) ∷ []

-- a link of this number and degree of saturation
abbrev pub some_link : ℕ → ℕ → LinkFigures
some_link number saturation = record {
  link = number;
  flow = 604;
  sent = 311;
  saturation = saturation;
  delay = 651;
  stopped = 932;
  queue = 9004625;
}

-- links with the number of the worst: the first of two equals, the last link, the only one, and none
abbrev pub worked_worst : List (List LinkFigures × ℕ)
worked_worst =
    (some_link 9 416 ∷ some_link 2 500 ∷ some_link 11 499 ∷ some_link 1 500 ∷ [], 2)
    ∷ (some_link 9 0 ∷ some_link 2 3 ∷ some_link 7 4 ∷ [], 7)
    ∷ (some_link 6 0 ∷ some_link 5 0 ∷ [], 6) ∷ ([], 0) ∷ []

-- the card numbers of the three junctions' links, each with the flow that all feeds have from it
abbrev pub sent_of_three : List (ℕ × ℕ)
sent_of_three =
    (5, 311) ∷ (2, 77) ∷ (9, 402) ∷ (4, 88) ∷ (8, 173) ∷ (3, 279) ∷ (6, 41) ∷ (11, 0) ∷ []

-- one link whose queue is greatest at step 0: 3,600,000, and then 1,200,000
abbrev pub longest_at_first : Network
longest_at_first = one_node 0 5 1 (new_link 1 1 360 1800 1 1 0 0 (1 ∷ []) ∷ [])

-- FIGURES of the three junctions
abbrev pub report_of_three : List ℕ
report_of_three =
    ended
    (
    codes "LINK 5 FLOW 604 SENT 311 SATURATION 941 DELAY 651 STOPPED 932 QUEUE 9004625"
    ∷ codes "LINK 2 FLOW 97 SENT 77 SATURATION 98 DELAY 97 STOPPED 388 QUEUE 943054"
    ∷ codes "LINK 9 FLOW 613 SENT 402 SATURATION 1469 DELAY 4642 STOPPED 642 QUEUE 8110480"
    ∷ codes "LINK 4 FLOW 388 SENT 88 SATURATION 553 DELAY 329 STOPPED 679 QUEUE 5542873"
    ∷ codes "LINK 8 FLOW 850 SENT 173 SATURATION 1021 DELAY 1081 STOPPED 946 QUEUE 8842101"
    ∷ codes "LINK 3 FLOW 877 SENT 279 SATURATION 3286 DELAY 9527 STOPPED 287 QUEUE 5189492"
    ∷ codes "LINK 6 FLOW 94 SENT 41 SATURATION 318 DELAY 428 STOPPED 725 QUEUE 1705649"
    ∷ codes "LINK 11 FLOW 299 SENT 0 SATURATION 413 DELAY 172 STOPPED 666 QUEUE 2953803"
    ∷ codes "TOTAL DELAY 343891562 STOPS 612708 INDEX 556223009 WORST 3"
    ∷ []
    )
