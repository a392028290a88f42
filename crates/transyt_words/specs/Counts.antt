-- The answer of `counts` to a deck and the table after it.
use Rattle.std.specs.Prelude.{ℕ, ◌++◌, List, [], ◌∷◌, codes, length, Result, Ok, Err}
use Rattle.std.specs.List.{flat_map}
use Rattle.transyt_syntax.specs.declared.code.Code.{Code}
use Rattle.transyt_syntax.specs.Codes.{number}
use Rattle.transyt_net.specs.declared.edit.Edit.{Edit}
use Rattle.transyt_net.specs.declared.edit.Edit.TheVariants as edit
use Rattle.transyt_counts.specs.Counts.{CountsValue, counts_of}
use Rattle.transyt_counts.specs.declared.counts.CountStop.{CountStop}
use Rattle.transyt_counts.specs.declared.counts.CountStop.TheVariants as stop
use Rattle.transyt_words.specs.Answer.{AnswerValue, done, refusal, LineValue, line_of}
use Rattle.transyt_words.specs.Case.{CaseValue}

-- a row is refused: its number and the code
abbrev pub refused_row : ℕ → Code → LineValue
refused_row row code = line_of (codes "ROW # REFUSED #") (row ∷ number code ∷ [])

-- the command of an edit of a flow, in vehicles per hour; a table comes to no other edits
abbrev pub command_lines : Edit → List LineValue
command_lines (edit.Entry link flow) = line_of (codes "ENTRY # #") (link ∷ flow ∷ []) ∷ []
command_lines (edit.Part link feeder flow) = line_of (codes "PART # # #") (link ∷ feeder ∷ flow ∷ []) ∷ []
command_lines _ = []

-- how many rows the table has, and how many flows it counts
abbrev pub counted_line : ℕ → ℕ → LineValue
counted_line rows flows = line_of (codes "* COUNTS # #") (rows ∷ flows ∷ [])

-- a command for each edit, and then how many rows and flows there are
abbrev pub counts_lines : CountsValue → List LineValue
counts_lines c = flat_map command_lines c.edits ++ counted_line c.rows (length c.edits) ∷ []

-- the answer to what a table comes to; a refused one is answered by its row (no table is a want of memory)
abbrev pub answer_of_counts : Result CountsValue CountStop → AnswerValue
answer_of_counts (Ok c) = done (counts_lines c)
answer_of_counts (Err (stop.Refused row code)) = refusal (refused_row row code ∷ [])
answer_of_counts (Err stop.Memory) = refusal []

-- the answer to a case
abbrev pub counts_answer : CaseValue → AnswerValue
counts_answer case = answer_of_counts (counts_of case.net case.table)
