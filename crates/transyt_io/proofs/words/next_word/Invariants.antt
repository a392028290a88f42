-- Blanks before a word change no words.
use Rattle.std.proofs.Common.{◌≡◌, ◌≤◌, length}
use Rattle.transyt_io.specs.Lines.{words}
use Rattle.transyt_io.proofs.words.next_word.Given as goal

-- the blanks that were passed have no word
abbrev pub invariant-loop-rest : goal.invariant-loop-rest
invariant-loop-rest l = record { same : words l.rest ≡ words l.line; less : length l.rest ≤ length l.line }

-- how many bytes are left
abbrev pub decreases-loop-rest : goal.decreases-loop-rest
decreases-loop-rest l = length l.rest
