-- The worked verdicts: what a certificate's lines come to over the worked networks, computed from the definitions.
use Rattle.std.proofs.Common.{[], ◌∷◌, ◌++◌, codes, refl}
use Rattle.std.specs.Fmt.{digits}
use Rattle.transyt_moves.specs.Moves.{move}
use Rattle.transyt_audit.specs.Certificate.{lines_text}
use Rattle.transyt_audit.specs.WorkedVerdicts.{bare_lines, other_moves, first_line, spaced_line, changed_line, note}
use Rattle.transyt_audit.proofs.Worked.{on_bare, on_other}
use Rattle.transyt_audit.proofs.laws.worked_verdicts.Goals as goal

pub returns-clause-skipped : goal.returns-clause-skipped
unfolding move digits
returns-clause-skipped c = on_bare (lines_text (note ∷ [] ∷ spaced_line ∷ bare_lines))

pub returns-clause-wrong : goal.returns-clause-wrong
unfolding move digits
returns-clause-wrong c = on_bare (lines_text (note ∷ [] ∷ changed_line ∷ bare_lines))

pub returns-clause-surplus : goal.returns-clause-surplus
unfolding move digits
returns-clause-surplus c = on_bare (lines_text (first_line ∷ bare_lines ++ first_line ∷ []))

pub returns-clause-missing : goal.returns-clause-missing
unfolding move digits
returns-clause-missing c = on_bare (lines_text (first_line ∷ note ∷ []))

pub returns-clause-no_plan : goal.returns-clause-no_plan
returns-clause-no_plan c = refl

pub returns-clause-lower : goal.returns-clause-lower
unfolding move digits
returns-clause-lower c = on_other (lines_text (note ∷ other_moves ++ codes "CERT 6 INDEX 10773335" ∷ []))

-- a wrong line, and a missing one, come before a lower index
pub returns-clause-wrong_first : goal.returns-clause-wrong_first
unfolding move digits
returns-clause-wrong_first c = on_other (lines_text (other_moves ++ codes "CERT 6 INDEX 10773336" ∷ []))

pub returns-clause-missing_first : goal.returns-clause-missing_first
unfolding move digits
returns-clause-missing_first c = on_other (lines_text (other_moves ++ note ∷ []))

-- lines agree with a true one as it is written
pub returns-clause-agreements : goal.returns-clause-agreements
returns-clause-agreements c = refl
