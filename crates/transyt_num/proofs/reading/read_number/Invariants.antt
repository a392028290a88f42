-- A word is read from its first byte on.
use Rattle.std.proofs.Common.{◌≡◌, ◌<◌, ◌^◌, take, true}
use Rattle.std.specs.List.{list_all}
use Rattle.std.specs.Char.{is_ascii_digit}
use Rattle.transyt_num.specs.Number.{word_value}
use Rattle.transyt_num.proofs.reading.read_number.Given as goal

-- the bytes so far are digits, and the value is theirs
abbrev pub invariant-loop-byte : goal.invariant-loop-byte
invariant-loop-byte l = record {
  digits : list_all is_ascii_digit (take l.byte-index l.word) ≡ true;
  value : l.value ≡ word_value (take l.byte-index l.word);
  small : l.value < 10 ^ l.byte-index;
}
