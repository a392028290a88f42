-- The bytes passed are no blanks.
use Rattle.std.proofs.Common.{◌≡◌, ℕ, ◌<◌, get_or, false}
use Rattle.transyt_io.specs.Lines.{is_blank}
use Rattle.transyt_io.proofs.words.first_word.Given as goal

-- no byte before i is a blank
abbrev pub invariant-loop-i : goal.invariant-loop-i
invariant-loop-i l = (k : ℕ) → k < l.i → is_blank (get_or l.rest k 0) ≡ false
