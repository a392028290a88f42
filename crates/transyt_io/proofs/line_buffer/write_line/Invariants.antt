-- The bytes before `at` are written; what is left gets shorter.
use Rattle.std.proofs.Common.{◌≤◌, ◌-◌, length, take}
use Rattle.transyt_io.specs.Streams.{Adds}
use Rattle.transyt_io.proofs.line_buffer.write_line.Given as goal

-- the bytes before `at` were written
abbrev pub invariant-loop-at : goal.invariant-loop-at
invariant-loop-at g l =
    let written = g.K.Sink.written in
    let faults = g.K.Sink.faults in record {
      inside : l.at ≤ length l.bytes;
      so_far : Adds (written l.fn.sink) (written l.sink) (take l.at l.bytes);
      later : faults l.fn.sink ≤ faults l.sink;
    }

-- how many bytes are left to write
abbrev pub decreases-loop-at : goal.decreases-loop-at
decreases-loop-at g l = length l.bytes - l.at
