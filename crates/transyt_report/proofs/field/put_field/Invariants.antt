-- The characters of the places passed stand at the end of the line.
use Rattle.std.proofs.Common.{◌≡◌, ◌+◌, ◌++◌, length, map}
use Rattle.std.specs.List.{range_with_len}
use Rattle.transyt_report.specs.Plot.{mark}
use Rattle.transyt_report.proofs.field.put_field.Given as goal

abbrev pub invariant-loop-place : goal.invariant-loop-place
invariant-loop-place l = record {
  text : l.line ≡ l.fn.line ++ map (mark l.letter l.count) (range_with_len 0 l.place);
  room : length l.line ≡ length l.fn.line + l.place;
}
