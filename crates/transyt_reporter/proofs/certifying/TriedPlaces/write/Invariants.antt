-- The lines of the first places are written.
use Rattle.std.proofs.Common.{take, flat_map, length}
use Rattle.std.specs.List.{range_with_len}
use Rattle.transyt_audit.specs.Certificate.{place_text}
use Rattle.transyt_io.specs.Prints.{Printed}
use Rattle.transyt_reporter.proofs.certifying.TriedPlaces.write.Given as goal

-- the text so far
abbrev pub invariant-loop-number : goal.invariant-loop-number
invariant-loop-number g l =
    Printed (g.K.Sink.written l.fn.sink) (g.K.Sink.written l.sink) (g.K.Sink.faults l.fn.sink) (g.K.Sink.faults l.sink)
    (flat_map (place_text l.self.session.now.net) (take l.number (range_with_len l.self.from (length l.self.tries.now))))
