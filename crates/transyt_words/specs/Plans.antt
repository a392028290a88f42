-- The answers of `starts` and `cycles` to a network: a table of plans, each line a comment of a deck.
use Rattle.std.specs.Prelude.{ℕ, ◌≤◌, ◌+◌, Bool, nat_le, ◌&&◌, if◌then◌else◌, Option, Some, None, ◌++◌, List, [], ◌∷◌, codes}
use Rattle.std.specs.Prelude.{map}
use Rattle.transyt_words.specs.declared.starts.StartsWord.{StartsWord}
use Rattle.transyt_climbs.specs.declared.row.Climbed.{Climbed}
use Rattle.transyt_climbs.specs.declared.row.NetworkRow.{NetworkRow}
use Rattle.transyt_climbs.specs.declared.ranking.BestRow.{BestRow}
use Rattle.transyt_climbs.specs.Climbs.{best, NetworkListValue, end_of, table}
use Rattle.transyt_words.specs.declared.table.Numbered.{Numbered}
use Rattle.transyt_words.specs.declared.table.Numbered.TheVariants.{Starts, Cycles}
use Rattle.transyt_words.specs.Answer.{LineValue, line_of, AnswerValue, with_deck}
use Rattle.transyt_words.specs.Case.{CaseValue}
use Rattle.transyt_net.specs.Parts.{Network}
use Rattle.transyt_climbs.specs.declared.times.CycleTimes.{CycleTimes}
use Rattle.transyt_climbs.specs.declared.networks.NetworkAt.{NetworkAt}
use Rattle.transyt_climbs.specs.Times.{cycle_at, cycle_count}
use Rattle.transyt_variants.specs.Starts.{start_at}
use Rattle.transyt_variants.specs.Cycles.{at_cycle}
use Rattle.transyt_variants.specs.declared.cycles.AtCycle.{AtCycle}
use Rattle.transyt_climbs.specs.declared.row.NetworkRow.TheVariants as row
use Rattle.transyt_climbs.specs.declared.networks.NetworkAt.TheVariants as plan
use Rattle.transyt_variants.specs.declared.cycles.AtCycle.TheVariants as at

-- one to eight workers, a seed of at most nine digits, and 1 to 1,000 starts, whose numbers are below 1,000
pub record IsStarts (asked : StartsWord) : Type 0 where
  pub some_workers : 1 ≤ asked.workers
  pub few_workers : asked.workers ≤ 8
  pub seed : asked.seed ≤ 999999999
  pub some : 1 ≤ asked.count
  pub few : asked.from + asked.count ≤ 1000

-- whether such may be asked for
abbrev pub are_starts : ℕ → ℕ → ℕ → ℕ → Bool
are_starts workers seed count from =
    nat_le 1 workers && nat_le workers 8 && nat_le seed 999999999 && nat_le 1 count && nat_le (from + count) 1000

-- the question of these numbers, where they may be
abbrev pub starts_of : ℕ → ℕ → ℕ → ℕ → Option StartsWord
starts_of workers seed count from =
    if are_starts workers seed count from
    then Some (record { workers = workers; seed = seed; count = count; from = from })
    else None

-- the form of a climb's line, by whether it ended LOCAL
abbrev pub climbed_form : Numbered → Bool → List ℕ
climbed_form Starts local =
    if local then codes "* START # FROM # TOOK # LOCAL # TO #" else codes "* START # FROM # TOOK # BUDGET # TO #"
climbed_form Cycles local =
    if local then codes "* CYCLE # FROM # TOOK # LOCAL # TO #" else codes "* CYCLE # FROM # TOOK # BUDGET # TO #"

-- the line of a climb: its number, the index before it, the steps taken, the places looked at, and the index after it
abbrev pub climbed_line : Numbered → Climbed → LineValue
climbed_line by c = line_of (climbed_form by c.local) (c.number ∷ c.from ∷ c.took ∷ c.looked ∷ c.to ∷ [])

-- the line of a row: a climb, or why there is none
abbrev pub row_line : Numbered → NetworkRow → LineValue
row_line by (row.NoPlan number) = line_of (codes "* CYCLE # NONE") (number ∷ [])
row_line by (row.Barred number node) = line_of (codes "* CYCLE # BARRED #") (number ∷ node ∷ [])
row_line by (row.Climbed climbed) = climbed_line by climbed

-- the last line: the number of the best row and its index at the end, or that there is none
abbrev pub best_line : Option BestRow → LineValue
best_line None = line_of (codes "* NONE") []
best_line (Some best) = line_of (codes "* BEST # #") (best.number ∷ best.to ∷ [])

-- a line for each row, and then the last
abbrev pub table_lines : Numbered → List NetworkRow → List LineValue
table_lines by rows = map (row_line by) rows ++ best_line (best rows) ∷ []

-- so many starts, numbered from the number of the first; each is the network that it is in the list of all starts
abbrev pub starts : ℕ → ℕ → ℕ → NetworkListValue
starts seed count from = record {
  count = count;
  number = λ place. from + place;
  network = λ net place. plan.Plan (start_at net seed (from + place));
}

-- the network of a cycle time to climb on, or the reason why there is none
abbrev pub network_at : AtCycle → NetworkAt
network_at (at.Plan net) = plan.Plan net
network_at (at.Barred node) = plan.Barred node
network_at at.NoPlan = plan.NoPlan

-- the cycle times, each with its network
abbrev pub cycles : CycleTimes → NetworkListValue
cycles times = record {
  count = cycle_count times;
  number = cycle_at times;
  network = λ net place. network_at (at_cycle net (cycle_at times place));
}

-- the network at the end of the climb of the best row, if there is a best row
abbrev pub deck_of : NetworkListValue → Network → Option BestRow → Option Network
deck_of asked net None = None
deck_of asked net (Some best) = end_of (asked.network net best.place)

-- the answer by the rows of the table: its lines, and the deck text of the network at the end of the best climb
abbrev pub answer_by : Numbered → NetworkListValue → Network → List NetworkRow → AnswerValue
answer_by by asked net rows = with_deck (table_lines by rows) (deck_of asked net (best rows))

-- the answer to a network, by what is asked for
abbrev pub plans_answer : Numbered → NetworkListValue → Network → AnswerValue
plans_answer by asked net = answer_by by asked net (table asked net)

-- the answer of `starts` to a case, whatever the number of workers; the table isn't looked at
abbrev pub starts_answer : ℕ → ℕ → ℕ → CaseValue → AnswerValue
starts_answer seed count from case = plans_answer Starts (starts seed count from) case.net

-- the same of `cycles`
abbrev pub cycles_answer : CycleTimes → CaseValue → AnswerValue
cycles_answer times case = plans_answer Cycles (cycles times) case.net
