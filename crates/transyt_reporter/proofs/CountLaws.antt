-- How many lines a deck is read from.
use Rattle.std.proofs.Common.{◌≡◌, ℕ, ◌+◌, ◌<◌, ◌≤◌, List, ap, arith}
use Rattle.transyt_deck.specs.State.{state_after}
use Rattle.transyt_deck.specs.Deck.{ReaderValue, Deck, Refused, Complete, Open, next, line_count}
use Rattle.transyt_deck.proofs.Adding.{count_by}
use Rattle.transyt_reporter.specs.Reporter.{ReporterValue, IsReporter, reporter_of}

-- one line more at most
pub count_next : (deck : Deck) (line : List ℕ) → line_count (next deck line) ≤ line_count deck + 1
count_next (Refused number code) line = omega arith
count_next (Complete number net) line = omega arith
count_next (Open count state) line = let is = count_by (count + 1) (state_after state line) in omega (arith, is)

-- a reporter whose reader has taken one line more, where it has counted it
pub taken_reporter : (r : ReporterValue) (after : ReaderValue) (line : List ℕ) → IsReporter r → line_count r.cards.deck < r.lines
    → after.deck ≡ next r.cards.deck line → IsReporter (reporter_of r.workers r.lines after r.desks)
taken_reporter r after line is counted taken = record {
  workers = is.workers;
  some = is.some;
  cards = omega (arith, counted, count_next r.cards.deck line, ap line_count taken);
  desks = is.desks;
}
