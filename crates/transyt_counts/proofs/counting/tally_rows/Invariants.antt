-- The rows before the number were read.
use Rattle.std.proofs.Common.{Some}
use Rattle.transyt_counts.specs.Progress.{IsReading}
use Rattle.transyt_counts.proofs.ProgressLaws.{HasRead}
use Rattle.transyt_counts.proofs.counting.tally_rows.Given as goal

abbrev pub invariant-loop-row : goal.invariant-loop-row
invariant-loop-row l = record {
  reading : IsReading l.reader;
  read : HasRead (λ s. Some s.now) l.net l.table l.reader l.tally.entries l.row;
}
