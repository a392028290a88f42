-- The bytes of a source are taken block by block.
use Rattle.std.proofs.Common.{◌≤◌, ◌-◌, length, vec_capacity}
use Rattle.transyt_io.specs.Streams.{Takes}
use Rattle.transyt_io.proofs.intake.Intake.take_all.Given as goal

-- the bytes so far are those taken
abbrev pub invariant-loop-n : goal.invariant-loop-n
invariant-loop-n g l = record {
  takes : Takes (g.S.Source.left l.fn.source) (g.S.Source.left l.source) l.self-inside.bytes.items;
  most : length l.self-inside.bytes.items ≤ 4194304;
  room : 4194304 ≤ vec_capacity l.self-inside.bytes;
  later : g.S.Source.faults l.fn.source ≤ g.S.Source.faults l.source;
}

-- how many bytes may still come, with the one too many
abbrev pub decreases-loop-n : goal.decreases-loop-n
decreases-loop-n g l = 4194305 - length l.self-inside.bytes.items
