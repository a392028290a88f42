-- The commands of the edits stand one after another.
use Rattle.std.proofs.Common.{◌≡◌, ◌++◌, drop}
use Rattle.std.specs.List.{flat_map}
use Rattle.transyt_words.specs.Counts.{command_lines}
use Rattle.transyt_words.proofs.counts.counts_lines.Given as goal

-- the lines so far and those to come are all
abbrev pub invariant-loop-edit : goal.invariant-loop-edit
invariant-loop-edit l =
    l.lines.items ++ flat_map command_lines (drop l.edit-index l.counts.edits) ≡ flat_map command_lines l.counts.edits
