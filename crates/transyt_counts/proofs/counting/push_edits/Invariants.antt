-- The edits of the entries passed, none of which has too great a flow.
use Rattle.std.proofs.Common.{◌≡◌, map, take, drop}
use Rattle.std.specs.List.{find}
use Rattle.transyt_counts.proofs.EntryLaws.{edit_by, is_too_great}
use Rattle.transyt_counts.proofs.counting.push_edits.Given as goal

abbrev pub invariant-loop-place : goal.invariant-loop-place
invariant-loop-place l = record {
  edits : l.edits.items ≡ map edit_by (take l.place l.tally.entries);
  passed : find is_too_great (drop l.place l.tally.entries) ≡ find is_too_great l.tally.entries;
}
