-- The line with the rest of the form filled in is the whole.
use Rattle.std.proofs.Common.{◌≡◌, ◌+◌, ◌*◌, ◌≤◌, ◌++◌, length, drop}
use Rattle.transyt_io.specs.Forms.{filled}
use Rattle.transyt_io.proofs.forms.put_form.Given as goal

-- the line with the form from this byte on is the whole
abbrev pub invariant-loop-byte : goal.invariant-loop-byte
invariant-loop-byte l = record {
  text : l.line ++ filled (drop l.byte-index l.form) (drop l.used l.numbers) ≡ l.fn.line ++ filled l.form l.numbers;
  used : l.used ≤ length l.numbers;
  room : length l.line ≤ length l.fn.line + l.byte-index + 39 * l.used;
}
