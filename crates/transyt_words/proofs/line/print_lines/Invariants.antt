-- The lines are written one after another.
use Rattle.std.proofs.Common.{take, flat_map}
use Rattle.transyt_io.specs.Prints.{Printed}
use Rattle.transyt_words.specs.Answer.{line_text}
use Rattle.transyt_words.proofs.line.print_lines.Given as goal

-- the lines before this one are written
abbrev pub invariant-loop-said : goal.invariant-loop-said
invariant-loop-said g l =
    Printed (g.K.Sink.written l.fn.sink) (g.K.Sink.written l.sink) (g.K.Sink.faults l.fn.sink) (g.K.Sink.faults l.sink)
    (flat_map line_text (take l.said-index l.lines))
