-- The line with the values to come is the whole.
use Rattle.std.proofs.Common.{◌≡◌, ◌+◌, ◌*◌, ◌≤◌, ◌++◌, length, drop}
use Rattle.transyt_io.specs.Forms.{values_text}
use Rattle.transyt_io.proofs.forms.put_values.Given as goal

-- the line with the values from this one on is the whole
abbrev pub invariant-loop-value : goal.invariant-loop-value
invariant-loop-value l = record {
  text : l.line ++ values_text (drop l.value-index l.values) ≡ l.fn.line ++ values_text l.values;
  room : length l.line ≤ length l.fn.line + 21 * l.value-index;
}
