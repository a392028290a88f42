-- Worked climbs over cycle times.
use Rattle.std.specs.Prelude.{ℕ, Bool, true, false, List, [], ◌∷◌, Option}
use Rattle.transyt_parts.specs.Parts.{PlanValue}
use Rattle.transyt_net.specs.Parts.{Network, with_cycle}
use Rattle.transyt_climb.specs.WorkedTurns.{idle}
use Rattle.transyt_climbs.specs.declared.times.CycleTimes.{CycleTimes}
use Rattle.transyt_climbs.specs.Times.{times_of}
use Rattle.transyt_climbs.specs.WorkedClimbs.{junction}
use Rattle.transyt_climbs.specs.declared.scan_word.ScanWord.{ScanWord}
use Rattle.transyt_climbs.specs.declared.scan_row.ScanRow.{ScanRow}
use Rattle.transyt_climbs.specs.Scan.{asking}

-- from 44 to 51 seconds by 7, which meets the highest
abbrev pub from_44 : CycleTimes
from_44 = times_of 44 51 7

-- the network without links, whose list has six places, with another climb plan or with none
abbrev pub idle_with : Option PlanValue → Network
idle_with plan = record idle { plan = plan }

-- the row of a climb that takes no step where the index is 0
abbrev pub stayed : ℕ → Bool → ℕ → ScanRow
stayed cycle local looked = record { cycle = cycle; from = 0; took = 0; local = local; looked = looked; to = 0 }

-- a junction with one link at 61 seconds; of the three looks of its climb plan the third lowers the index
abbrev pub junction_at_61 : Network
junction_at_61 = with_cycle (junction 16) 61

-- a climb at a cycle time
abbrev pub climbed_at : ℕ → ℕ → ℕ → Bool → ℕ → ℕ → ScanRow
climbed_at cycle from took local looked to =
    record { cycle = cycle; from = from; took = took; local = local; looked = looked; to = to }

-- rows of which the second and the third have the least index at the end
abbrev pub three_rows : List ScanRow
three_rows = climbed_at 50 9 1 true 11 7 ∷ climbed_at 58 8 2 false 20 3 ∷ climbed_at 66 5 4 true 13 3 ∷ []

-- the least that may be asked for in each place, and the greatest
abbrev pub in_range : List ScanWord
in_range = asking 1 30 30 1 ∷ asking 8 240 240 210 ∷ []

-- one number out of its range in each: no worker, nine, too low a cycle time, too high, none at all, no step, too
-- long a one
abbrev pub out_of_range : List ScanWord
out_of_range =
    asking 0 60 120 17 ∷ asking 9 60 120 17 ∷ asking 2 29 120 17 ∷ asking 2 60 241 17 ∷ asking 2 61 60 17
    ∷ asking 2 60 120 0 ∷ asking 2 60 120 211 ∷ []
