-- How a line of the deck is answered, by the deck with it.
use Rattle.std.proofs.Common.{◌≡◌, ℕ, ◌+◌, ◌≤◌, List, [], Option, None, Ok, Err, IsTrue, refl, ◌∙◌, ap, arith}
use Rattle.transyt_io.proofs.Told.{adds_nothing}
use Rattle.transyt_net.specs.Parts.{Network}
use Rattle.transyt_deck.specs.Deck.{Deck, Open, Complete, Refused, is_open, is_complete}
use Rattle.transyt_session.specs.Session.{SessionValue, opened}
use Rattle.transyt_io.specs.Prints.{Prints}
use Rattle.transyt_io.proofs.PrintLaws.{prints_same}
use Rattle.transyt_outcome.specs.declared.ending.Stop.TheVariants as stop
use Rattle.transyt_line_answers.specs.Report.{InSession, accepted, deck_said, deck_ends, deck_steps, run_of}
use Rattle.transyt_reporter.specs.Conditions.{AnswersDeck}

-- without memory nothing was written, and the steps are no more than those of END
pub no_memory : (deck : Deck) (steps steps_new : ℕ) (written : Option (List ℕ)) (faults : ℕ)
    → steps_new ≤ steps + deck_steps deck
    → AnswersDeck deck (Err stop.Memory) written written faults faults steps steps_new
no_memory deck steps steps_new written faults few = record {
  ok = tt;
  err = record { front = []; back = deck_said deck; whole = refl; adds = adds_nothing written };
  later = omega arith;
  fault = λ e. absurd (cc);
  ends = tt;
  steps_ok = tt;
  steps_err = few;
}

-- a line after which the deck is open writes nothing
pub open_answered : (deck : Deck) (steps : ℕ) (written : Option (List ℕ)) (faults : ℕ) → IsTrue (is_open deck)
    → AnswersDeck deck (Ok None) written written faults faults steps steps
open_answered (Open count state) steps written faults is = record {
  ok = adds_nothing written;
  err = tt;
  later = omega arith;
  fault = λ e. absurd (cc);
  ends = refl;
  steps_ok = omega arith;
  steps_err = tt;
}
open_answered (Complete number net) steps written faults is = absurd (cc)
open_answered (Refused number code) steps written faults is = absurd (cc)

-- the text of a complete deck is that of its network
accepted_is : (deck : Deck) (zero : SessionValue) (net : Network) → IsTrue (is_complete deck)
    → run_of deck ≡ InSession zero → net ≡ zero.net → (accepted net ≡ deck_said deck) × (None ≡ deck_ends deck)
accepted_is (Complete number n) zero net whole is at =
    let same : zero ≡ opened n = cc in (ap accepted (at ∙ ap (λ (s : SessionValue). s.net) same), refl)
accepted_is (Open count state) zero net whole is at = absurd (cc)
accepted_is (Refused number code) zero net whole is at = absurd (cc)

-- the line of an accepted END
module _ {T E : Type 0} {w v : Option (List ℕ)} {f g : ℕ} (deck : Deck) (zero : SessionValue) (net : Network)
    (steps steps_new : ℕ) (whole : IsTrue (is_complete deck)) (is : run_of deck ≡ InSession zero) (at : net ≡ zero.net)
    (made : steps_new ≡ steps + deck_steps deck) where
  -- was written
  pub accepted_told : {u : T} → Prints {T = T} {E = E} w v f g (Ok u) (accepted net)
      → AnswersDeck deck (Ok None) w v f g steps steps_new
  accepted_told {u} printed =
      let same = accepted_is deck zero net whole is at in
      let told = prints_same w v (Ok u) _ _ printed same.0 in
      record {
        ok = told.ok;
        err = tt;
        later = told.cause.later;
        fault = λ e. absurd (cc);
        ends = same.1;
        steps_ok = made;
        steps_err = tt;
      }

  -- or it broke off
  pub accepted_broken : {u : E} → Prints {T = T} {E = E} w v f g (Err u) (accepted net)
      → AnswersDeck deck (Err stop.Write) w v f g steps steps_new
  accepted_broken {u} printed =
      let told = prints_same w v (Err u) _ _ printed (accepted_is deck zero net whole is at).0 in
      record {
        ok = tt;
        err = told.err;
        later = told.cause.later;
        fault = λ _. told.cause.failed;
        ends = tt;
        steps_ok = tt;
        steps_err = omega (arith, made);
      }
