-- The lines so far.
use Rattle.std.proofs.Common.{◌≡◌, ◌++◌, map, drop}
use Rattle.transyt_words.specs.Plans.{row_line}
use Rattle.transyt_words.proofs.table.table_lines.Given as goal

-- those of the rows before this one, and those to come, are all
abbrev pub invariant-loop-row : goal.invariant-loop-row
invariant-loop-row l =
    l.lines.items ++ map (row_line l.by) (drop l.row-index l.rows) ≡ map (row_line l.by) l.rows
