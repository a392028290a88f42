-- The cut of bytes, by the deck of the lines that were taken.
use Rattle.std.proofs.Common.{◌≡◌, ◌<◌, ◌≤◌, ℕ, suc, ◌+◌, ◌-◌, ◌∷◌, List, length, true, Result, Ok, Err, sym, ◌∙◌, ap}
use Rattle.std.proofs.Common.{IfOk, arith}
use Rattle.std.specs.List.{fold}
use Rattle.transyt_io.specs.Lines.{after_first_line, lines}
use Rattle.transyt_deck.specs.declared.reader.CardStop.{CardStop}
use Rattle.transyt_deck.specs.declared.reader.CardStop.TheVariants as stop
use Rattle.transyt_deck.specs.declared.cut.Cut.{Cut}
use Rattle.transyt_deck.specs.Deck.{RefusesDeck, after_lines, cut_at, cut_of, Complete, Deck, Open, Refused, deck}
use Rattle.transyt_deck.specs.Deck.{is_complete, is_open, line_count, next, Answers}
use Rattle.transyt_deck.proofs.Adding.{after_more, count_next, stays_complete, stays_refused}

-- the lines of the input that were taken, and those of the rest
pub record HasTaken (input rest : List ℕ) (d : Deck) : Type 0 where
  pub whole : fold next d (lines rest) ≡ deck (lines input)
  pub few : line_count d + length rest ≤ length input
  pub left : rest ≡ after_lines (line_count d) input

-- one line more is taken
pub takes_one : (input rest after line : List ℕ) (d e : Deck) → HasTaken input rest d → is_open d ≡ true
    → e ≡ next d line → lines rest ≡ line ∷ lines after → length after < length rest → after ≡ after_first_line rest
    → HasTaken input after e
takes_one input rest after line d e h still is first less left =
    let count : line_count e ≡ line_count d + 1 = ap line_count is ∙ count_next d line still in
    let one : suc (line_count d) ≡ line_count e = omega arith in
    record {
      whole = ap (λ (d : Deck). fold next d (lines after)) is ∙ sym (ap (fold next d) first) ∙ h.whole;
      few = omega (arith, h.few);
      left = left ∙ ap after_first_line h.left ∙ sym (after_more (line_count d) input)
          ∙ ap (λ (k : ℕ). after_lines k input) one;
    }

-- a line that is refused refuses the bytes
pub refuses_by : (input rest after line : List ℕ) (d : Deck) (s : CardStop) → HasTaken input rest d
    → lines rest ≡ line ∷ lines after → Answers (next d line) (Err s) → RefusesDeck input s
refuses_by input rest after line d stop.Memory h first answer = tt
refuses_by input rest after line d (stop.Refused card code) h first answer =
    let refused : deck (lines input) ≡ Refused card code = sym h.whole ∙ ap (fold next d) first
    ∙ ap (λ (d : Deck). fold next d (lines after)) answer ∙ stays_refused card code (lines after) in
    ap (λ (d : Deck). cut_at d (length input - length (after_lines (line_count d) input))) refused

-- a complete deck gives the cut
pub cut_complete : (input after : List ℕ) (d : Deck) → HasTaken input after d → is_complete d ≡ true
    → cut_of input ≡ cut_at d (length input - length after)
cut_complete input after d h ended =
    ap (λ (d : Deck). cut_at d (length input - length (after_lines (line_count d) input)))
    (sym h.whole ∙ stays_complete d (lines after) ended)
    ∙ ap (λ (l : List ℕ). cut_at d (length input - length l)) (sym h.left)

-- the cut is that of the result
pub ok_of : (x r : Result Cut CardStop) → x ≡ r → IfOk r (λ cut. x ≡ Ok cut)
ok_of x (Ok cut) is = is
ok_of x (Err s) is = tt

-- END's line is among the lines
pub line_within : (d : Deck) (rest k : ℕ) → line_count d ≤ k → IfOk (cut_at d rest) (λ cut. cut.line ≤ k)
line_within (Complete n net) rest k within = within
line_within (Open n state) rest k within = tt
line_within (Refused n code) rest k within = tt
