-- The lines of the nodes stand one after another.
use Rattle.std.proofs.Common.{◌≡◌}
use Rattle.std.specs.List.{flat_map, range_with_len}
use Rattle.transyt_words.specs.Equisat.{lines_at}
use Rattle.transyt_words.proofs.equisat.equisat_lines.Given as goal

-- the lines of the nodes before this one
abbrev pub invariant-loop-place : goal.invariant-loop-place
invariant-loop-place l = l.lines.items ≡ flat_map (lines_at l.net) (range_with_len 0 l.place)
