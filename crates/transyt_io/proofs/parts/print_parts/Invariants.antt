-- The parts before this place are written, and no more.
use Rattle.std.proofs.Common.{take, flat_map}
use Rattle.std.specs.List.{range_with_len}
use Rattle.transyt_io.specs.Prints.{Printed}
use Rattle.transyt_io.proofs.parts.print_parts.Given as goal

-- the texts of the parts before this one are written
abbrev pub invariant-loop-place : goal.invariant-loop-place
invariant-loop-place g l =
    Printed (g.K.Sink.written l.fn.sink) (g.K.Sink.written l.sink) (g.K.Sink.faults l.fn.sink) (g.K.Sink.faults l.sink)
    (flat_map (g.P.Parts.text l.parts) (take l.place (range_with_len 0 (g.P.Parts.number l.parts))))
