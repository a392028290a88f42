-- The words that are left of both lines compare as all of them did.
use Rattle.std.proofs.Common.{◌≡◌, length}
use Rattle.transyt_io.specs.Lines.{words}
use Rattle.transyt_audit.specs.Verdict.{same_words}
use Rattle.transyt_audit.proofs.words.same_words.Given as goal

abbrev pub invariant-loop-word : goal.invariant-loop-word
invariant-loop-word l = same_words (words l.rest) (words l.left) ≡ same_words (words l.line) (words l.truth)

-- how many bytes are left
abbrev pub decreases-loop-word : goal.decreases-loop-word
decreases-loop-word l = length l.rest
