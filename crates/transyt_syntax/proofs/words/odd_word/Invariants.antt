-- Each turn goes past a word.
use Rattle.std.proofs.Common.{length}
use Rattle.transyt_syntax.proofs.words.odd_word.Given as goal

abbrev pub decreases-loop-word : goal.decreases-loop-word
decreases-loop-word l = length l.rest
