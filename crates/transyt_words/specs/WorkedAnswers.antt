-- Worked answers of the words that take their input whole. No number is neutral.
use Rattle.std.specs.Prelude.{ℕ, ◌+◌, ◌*◌, List, [], ◌∷◌, codes, length, Result, Ok, Err}
use Rattle.transyt_syntax.specs.declared.code.Code.TheVariants as code
use Rattle.transyt_net.specs.Parts.{Network}
use Rattle.transyt_net.specs.declared.edit.Edit.TheVariants.{Entry, Part}
use Rattle.transyt_net.specs.WorkedNets.{town}
use Rattle.transyt_deck.specs.declared.cut.Cut.{Cut}
use Rattle.transyt_deck.specs.declared.reader.CardStop.{CardStop}
use Rattle.transyt_deck.specs.declared.reader.CardStop.TheVariants as deck_stop
use Rattle.transyt_counts.specs.Counts.{CountsValue}
use Rattle.transyt_counts.specs.declared.counts.CountStop.{CountStop}
use Rattle.transyt_counts.specs.declared.counts.CountStop.TheVariants as stop
use Rattle.transyt_words.specs.Answer.{AnswerValue, done, refusal, LineValue, line_of}
use Rattle.transyt_words.specs.Case.{CaseValue}
use Rattle.transyt_words.specs.Counts.{counted_line}

-- the command of an entry flow, that of a fed flow, and the line of a refused row
abbrev pub entry : ℕ → ℕ → LineValue
entry link flow = line_of (codes "ENTRY # #") (link ∷ flow ∷ [])

abbrev pub part : ℕ → ℕ → ℕ → LineValue
part link feeder flow = line_of (codes "PART # # #") (link ∷ feeder ∷ flow ∷ [])

abbrev pub refused : ℕ → ℕ → LineValue
refused row code = line_of (codes "ROW # REFUSED #") (row ∷ code ∷ [])

-- tables, each with its answer
abbrev pub worked_tables : List (Result CountsValue CountStop × AnswerValue)
worked_tables = (
  Ok (record { rows = 4; edits = Entry 5 133 ∷ Part 4 9 150 ∷ Part 4 5 102 ∷ [] }),
  done (entry 5 133 ∷ part 4 9 150 ∷ part 4 5 102 ∷ line_of (codes "* COUNTS # #") (4 ∷ 3 ∷ []) ∷ []),
)
    ∷ (Err (stop.Refused 3 code.CountedFlow), refusal (refused 3 27 ∷ []))
    ∷ []

-- the first line of a node, and that of a stage
abbrev pub node : ℕ → ℕ → ℕ → ℕ → LineValue
node number top base link = line_of (codes "NODE # PEAK # OF # LINK #") (number ∷ top ∷ base ∷ link ∷ [])

abbrev pub stage : ℕ → ℕ → ℕ → ℕ → LineValue
stage number change green need =
    line_of (codes "STAGE # CHANGE # GREEN # NEED #") (number ∷ change ∷ green ∷ need ∷ [])

-- the lines of the balance of two nodes
abbrev pub balance_lines : List LineValue
balance_lines =
    node 21 10872 12131 5 ∷ stage 1 2 7 8 ∷ stage 2 10 4 4 ∷ stage 3 16 4 4 ∷ node 7 6984 8706 4 ∷ stage 1 5 6 7
    ∷ stage 2 14 8 8 ∷ line_of (codes "END EQUISAT") [] ∷ []

-- an answer that tells the number of END's line and how many bytes stand after it, and steps that do so
abbrev pub said_rest : CaseValue → AnswerValue
said_rest case = done (counted_line case.line (length case.table) ∷ [])

abbrev pub steps_of_rest : CaseValue → ℕ
steps_of_rest case = case.line * 100 + length case.table

-- a network with a table of one byte after END, line 17
abbrev pub at_seventeen : Network → CaseValue
at_seventeen net = record { net = net; line = 17; table = 5 ∷ [] }

-- a deck that ends at line 17, after three bytes
abbrev pub cut_after_three : Result Cut CardStop
cut_after_three = Ok (record { net = town; line = 17; rest = 3 })

-- a deck whose card 7 is refused
abbrev pub refused_at_seven : Result Cut CardStop
refused_at_seven = Err (deck_stop.Refused 7 code.Unknown)

-- the line of a climb at a cycle time that ended LOCAL
abbrev pub cycle : ℕ → ℕ → ℕ → ℕ → ℕ → LineValue
cycle number before took looked after =
    line_of (codes "CYCLE # FROM # TOOK # LOCAL # TO #") (number ∷ before ∷ took ∷ looked ∷ after ∷ [])

-- the lines of three climbs, of which the second ended BUDGET and is the best
abbrev pub scan_lines : List LineValue
scan_lines =
    cycle 50 9 1 11 7 ∷ line_of (codes "CYCLE # FROM # TOOK # BUDGET # TO #") (58 ∷ 8 ∷ 2 ∷ 20 ∷ 3 ∷ [])
    ∷ cycle 66 5 4 13 3 ∷ line_of (codes "BEST # #") (58 ∷ 3 ∷ []) ∷ []

-- the lines of two climbs without a step, of which none is better than the other
abbrev pub idle_lines : List LineValue
idle_lines = cycle 44 0 0 6 0 ∷ cycle 51 0 0 6 0 ∷ line_of (codes "BEST # #") (44 ∷ 0 ∷ []) ∷ []
