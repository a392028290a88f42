-- Worked answers of `starts` and `cycles`. No number is neutral but the index of a network without links.
use Rattle.std.specs.Prelude.{ℕ, ◌+◌, ◌==◌, List, [], ◌∷◌, Some, codes, if◌then◌else◌}
use Rattle.transyt_parts.specs.Made.{new_stage, new_plan}
use Rattle.transyt_net.specs.Parts.{Network}
use Rattle.transyt_climbs.specs.declared.networks.NetworkAt.TheVariants as plan
use Rattle.transyt_climbs.specs.Climbs.{NetworkListValue}
use Rattle.transyt_climb.specs.WorkedTurns.{idle}
use Rattle.transyt_climbs.specs.WorkedClimbs.{junction}
use Rattle.transyt_words.specs.Answer.{LineValue, line_of}

-- the least that `starts` may be asked for in each place, and the greatest: workers, seed, count, number of the first
abbrev pub starts_in_range : List (ℕ × ℕ × ℕ × ℕ)
starts_in_range = (1, 0, 1, 0) ∷ (8, 999999999, 1000, 0) ∷ (2, 5, 1, 999) ∷ (2, 5, 300, 700) ∷ []

-- one number out of its range in each
abbrev pub starts_out_of_range : List (ℕ × ℕ × ℕ × ℕ)
starts_out_of_range =
    (0, 5, 7, 3) ∷ (9, 5, 7, 3) ∷ (2, 1000000000, 7, 3) ∷ (2, 5, 0, 3) ∷ (2, 5, 1001, 0) ∷ (2, 5, 300, 701)
    ∷ (2, 5, 1, 1000) ∷ []

-- one junction without links, in 15 steps of 6 seconds, whose stages take 11 steps at least
abbrev pub unlinked : Network
unlinked = record {
  frame = record { cycle = 90; step_count = 15; sweeps = 2; period = 45; stop_penalty = 37; dispersion = 40 };
  nodes = record { number = 21; offset = 4; stages = new_stage 2 1 3 ∷ new_stage 6 2 5 ∷ [] } ∷ [];
  links = [];
  plan = Some (new_plan 7 (2 ∷ []));
}

-- the same in 11 steps of 6 seconds
abbrev pub unlinked_at_66 : Network
unlinked_at_66 =
    record unlinked {
      frame = record { cycle = 66; step_count = 11; sweeps = 2; period = 45; stop_penalty = 37; dispersion = 40 };
      nodes = record { number = 21; offset = 2; stages = new_stage 1 1 3 ∷ new_stage 5 2 5 ∷ [] } ∷ [];
    }

-- the line of a climb without a step that ended LOCAL, where the index is 0: of a start, and of a cycle time
abbrev pub start : ℕ → LineValue
start number = line_of (codes "* START # FROM # TOOK # LOCAL # TO #") (number ∷ 0 ∷ 0 ∷ 6 ∷ 0 ∷ [])

abbrev pub cycle : ℕ → LineValue
cycle number = line_of (codes "* CYCLE # FROM # TOOK # LOCAL # TO #") (number ∷ 0 ∷ 0 ∷ 6 ∷ 0 ∷ [])

-- the line of a cycle time that a node bars, and that of one without a plan
abbrev pub barred : ℕ → ℕ → LineValue
barred number node = line_of (codes "* CYCLE # BARRED #") (number ∷ node ∷ [])

abbrev pub no_plan : ℕ → LineValue
no_plan number = line_of (codes "* CYCLE # NONE") (number ∷ [])

-- the last line
abbrev pub best : ℕ → ℕ → LineValue
best number after = line_of (codes "* BEST # #") (number ∷ after ∷ [])

-- the lines of three starts of which none is better than another, and of the two after the first of these
abbrev pub three_starts : List LineValue
three_starts = start 0 ∷ start 1 ∷ start 2 ∷ best 0 0 ∷ []

abbrev pub later_starts : List LineValue
later_starts = start 1 ∷ start 2 ∷ best 1 0 ∷ []

-- the network of that first of two: its offset is the first draw from seed 5, modulo 15
abbrev pub idle_start : Network
idle_start = record idle {
  nodes = record { number = 21; offset = 10; stages = new_stage 2 1 3 ∷ new_stage 6 2 4 ∷ [] } ∷ [];
}

-- the lines of 60, 63 and 66 seconds, of which the last alone has a plan
abbrev pub three_cycles : List LineValue
three_cycles = barred 60 21 ∷ no_plan 63 ∷ cycle 66 ∷ best 66 0 ∷ []

-- the lines of 57, 60 and 63 seconds, of which none has
abbrev pub no_cycles : List LineValue
no_cycles = no_plan 57 ∷ barred 60 21 ∷ no_plan 63 ∷ line_of (codes "* NONE") [] ∷ []

-- two places, of which the second has a junction that a climb betters
abbrev pub two_plans : NetworkListValue
two_plans = record {
  count = 2;
  number = λ place. 17 + place;
  network = λ net place. if place == 0 then plan.NoPlan else plan.Plan (junction 16);
}

-- their lines
abbrev pub two_plan_lines : List LineValue
two_plan_lines =
    no_plan 17
    ∷ line_of (codes "* CYCLE # FROM # TOOK # BUDGET # TO #") (18 ∷ 13935199 ∷ 1 ∷ 3 ∷ 8632377 ∷ [])
    ∷ best 18 8632377 ∷ []
