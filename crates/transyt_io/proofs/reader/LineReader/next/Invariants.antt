-- What was held or read before the bytes held now begins the line.
use Rattle.std.proofs.Common.{◌≡◌, ◌≤◌, ◌-◌, true, false}
use Rattle.transyt_io.specs.Lines.{has_end}
use Rattle.transyt_io.proofs.Searching.{Searches}
use Rattle.transyt_io.proofs.reader.LineReader.next.Given as goal

-- the bytes held are searched next, and the reader is not live until a line ends
abbrev pub invariant-loop-self : goal.invariant-loop-self
invariant-loop-self g l =
    let source = g.S.Source in
    let reader = l.self-inside in record {
      searches : Searches l.fn.self (source.left l.fn.source) (source.left l.source) (source.last l.fn.source)
          (source.last l.source) reader.line reader.block reader.taken;
      quiet : (reader.ended ≡ false) × (reader.live ≡ false) × (reader.has_line ≡ false);
      unread : has_end l.fn.self.held ≡ true → l.source ≡ l.fn.source;
      later : source.faults l.fn.source ≤ source.faults l.source;
    }

-- how many bytes may still come, with the one too many
abbrev pub decreases-loop-self : goal.decreases-loop-self
decreases-loop-self g l = 4194305 - l.self-inside.taken
