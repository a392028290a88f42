-- The line so far, with the text of the numbers still to come, is the whole text.
use Rattle.std.proofs.Common.{◌≡◌, ◌+◌, ◌*◌, ◌≤◌, ◌++◌, length, drop}
use Rattle.transyt_io.specs.Forms.{values_text}
use Rattle.transyt_deck.proofs.card_line.put_list.Given as goal

abbrev pub invariant-loop-number : goal.invariant-loop-number
invariant-loop-number l = record {
  text : l.line ++ values_text (drop l.number-index l.list) ≡ l.fn.line ++ values_text l.list;
  room : length l.line ≤ length l.fn.line + 40 * l.number-index;
}
