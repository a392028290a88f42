-- Each call has one number fewer.
use Rattle.std.proofs.Common.{length}
use Rattle.transyt_parts.proofs.range.+all_differ.Given as goal

abbrev pub decreases-all_differ : goal.decreases-all_differ
decreases-all_differ l = length l.numbers.now
