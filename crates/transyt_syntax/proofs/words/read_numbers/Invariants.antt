-- The numbers that were read and those of the rest are the numbers of the line.
use Rattle.std.proofs.Common.{◌≡◌, ◌≤◌, length, ◌+◌, ◌++◌, take}
use Rattle.std.specs.Option.{option_map}
use Rattle.transyt_io.specs.Lines.{words}
use Rattle.transyt_syntax.specs.Syntax.{all_numbers}
use Rattle.transyt_syntax.proofs.words.read_numbers.Given as goal

abbrev pub invariant-loop-word : goal.invariant-loop-word
invariant-loop-word l = record {
  read : option_map (λ ns. take l.count l.out ++ ns) (all_numbers (words l.rest)) ≡ all_numbers (words l.line);
  room : l.count + length (words l.rest) ≤ 17;
  count : l.count + length (words l.rest) ≡ length (words l.line);
  size : length l.out ≡ 17;
}

abbrev pub decreases-loop-word : goal.decreases-loop-word
decreases-loop-word l = length l.rest
