-- The words that were counted and those of the rest are the words of the line.
use Rattle.std.proofs.Common.{◌≡◌, ◌≤◌, length, ◌+◌}
use Rattle.transyt_io.specs.Lines.{words}
use Rattle.transyt_syntax.proofs.words.word_count.Given as goal

abbrev pub invariant-loop-word : goal.invariant-loop-word
invariant-loop-word l = record {
  counted : l.count + length (words l.rest) ≡ length (words l.line);
  fits : l.count + length l.rest ≤ length l.line;
}

abbrev pub decreases-loop-word : goal.decreases-loop-word
decreases-loop-word l = length l.rest
