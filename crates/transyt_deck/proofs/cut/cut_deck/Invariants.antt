-- The lines that the reader has taken and those of the rest are the lines of the input.
use Rattle.std.proofs.Common.{◌≡◌, length, true}
use Rattle.transyt_deck.specs.Deck.{is_open}
use Rattle.transyt_deck.proofs.Cutting.{HasTaken}
use Rattle.transyt_deck.proofs.cut.cut_deck.Given as goal

abbrev pub invariant-loop-line : goal.invariant-loop-line
invariant-loop-line l = record {
  live : l.reader.live ≡ true;
  unended : is_open l.reader.deck ≡ true;
  taken : HasTaken l.input l.rest l.reader.deck;
}

abbrev pub decreases-loop-line : goal.decreases-loop-line
decreases-loop-line l = length l.rest
