-- Each call has the first size of the last no more.
use Rattle.std.proofs.Common.{length}
use Rattle.transyt_deck.proofs.card.+sizes_in_range.Given as goal

abbrev pub decreases-sizes_in_range : goal.decreases-sizes_in_range
decreases-sizes_in_range l = length l.sizes.now
