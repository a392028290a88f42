-- The answer of `audit` to a deck and the table after it.
use Rattle.std.specs.Prelude.{ℕ, ◌+◌, ◌*◌, [], ◌∷◌, codes, length}
use Rattle.transyt_syntax.specs.Codes.{number}
use Rattle.transyt_moves.specs.Moves.{move_count}
use Rattle.transyt_audit.specs.declared.verdict.Verdict.{Verdict}
use Rattle.transyt_audit.specs.declared.verdict.Verdict.TheVariants.{Yes, No}
use Rattle.transyt_audit.specs.Verdict.{verdict}
use Rattle.transyt_words.specs.Answer.{AnswerValue, done, LineValue, line_of}
use Rattle.transyt_words.specs.Case.{CaseValue}

-- the line of a verdict: the number of places and the index, or the number of the line that shows it and the code
abbrev pub audit_line : Verdict → LineValue
audit_line (Yes places index) = line_of (codes "AUDIT YES # INDEX #") (places ∷ index ∷ [])
audit_line (No line code) = line_of (codes "AUDIT NO # #") (line ∷ number code ∷ [])

-- the answer to a case: one line, and no input is refused
abbrev pub audit_answer : CaseValue → AnswerValue
audit_answer case = done (audit_line (verdict case.net case.table case.line) ∷ [])

-- how many steps it takes at most: an evaluation of the network, and one for each place of its list of moves
abbrev pub audit_most : CaseValue → ℕ
audit_most case = case.net.frame.sweeps * length case.net.links * (move_count case.net + 1)
