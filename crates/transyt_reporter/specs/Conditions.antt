-- The desks between two lines and before a climb, and the places of a certificate.
-- No clause of the top call cites it.
use Rattle.std.specs.Prelude.{ℕ, ◌+◌, ◌≡◌, ◌<◌, ◌≤◌, true, length, Option, IfSome, List, Result, OnOk, OnErr, IfOk}
use Rattle.std.specs.Prelude.{IsErrOf, ◌-◌, ◌^◌, None, flat_map}
use Rattle.transyt_io.specs.Streams.{Adds, AddsFront, Rose}
use Rattle.transyt_deck.specs.Deck.{Deck}
use Rattle.transyt_outcome.specs.declared.ending.Ending.{Ending}
use Rattle.transyt_outcome.specs.declared.ending.Stop.{Stop}
use Rattle.transyt_outcome.specs.declared.ending.Stop.TheVariants.{Write}
use Rattle.transyt_line_answers.specs.Report.{deck_said, deck_ends, deck_steps}
use Rattle.transyt_net.specs.Parts.{SameShape, Network}
use Rattle.transyt_session.specs.Session.{SessionValue}
use Rattle.transyt_climb.specs.declared.turn.Turn.{Turn}
use Rattle.transyt_climb.specs.declared.turn.Turn.TheVariants.{Took}
use Rattle.transyt_desks.specs.Desks.{desk_zero, AreAlike}
use Rattle.transyt_report.specs.Texts.{is_move}
use Rattle.std.specs.List.{range_with_len}
use Rattle.transyt_track.specs.Due.{cert_work}
use Rattle.transyt_audit.specs.Certificate.{place_text}

-- desks between two lines: each has the shape of desk 0, and so has the network before an open trial
pub record AreReady (desks : List SessionValue) : Type 0 where
  pub some : 0 < length desks
  pub alike : AreAlike desks
  pub before : IfSome (desk_zero desks).before (λ net. SameShape (desk_zero desks).net net)

-- desks that are ready for a climb or a certificate: no trial is open, and there is little work
pub record AreIdle (desks : List SessionValue) : Type 0 where
  pub ready : AreReady desks
  pub closed : (desk_zero desks).before ≡ None
  pub room : (desk_zero desks).work ≤ 2 ^ 60

-- the edit of a step is one of an offset or a change
abbrev pub IsStep : Turn → Type 0
IsStep (Took place edit index) = is_move edit ≡ true
IsStep _ = Unit {0}

-- desks and steps after an answer, also one whose text broke off: the desks are ready, the work rose by no more than a
-- limit and not past that of the whole answer, and with one worker the steps rose as it did
pub record LeavesReady (most : ℕ) (answered : SessionValue) (old new : List SessionValue) (steps steps_new : ℕ) : Type 0 where
  pub ready : AreReady new
  pub len : length new ≡ length old
  pub few : (desk_zero new).work ≤ (desk_zero old).work + most
  pub work : (desk_zero new).work ≤ answered.work
  pub made : length old ≡ 1 → steps_new + (desk_zero old).work ≡ steps + (desk_zero new).work

-- a line before END or END was answered, where this is the deck with it: its text was written whole, or a front of it; its
-- steps were taken, or no more than they; and it ends the run where the deck does
pub record AnswersDeck (deck : Deck) (result : Result (Option Ending) Stop) (written written_new : Option (List ℕ))
    (faults faults_new steps steps_new : ℕ) : Type 0 where
  pub ok : OnOk result (Adds written written_new (deck_said deck))
  pub err : OnErr result (AddsFront written written_new (deck_said deck))
  pub later : faults ≤ faults_new
  pub fault : IsErrOf result Write → Rose faults faults_new
  pub ends : IfOk result (λ end. end ≡ deck_ends deck)
  pub steps_ok : OnOk result (steps_new ≡ steps + deck_steps deck)
  pub steps_err : OnErr result (steps_new ≤ steps + deck_steps deck)

-- the lines of so many places from one on
abbrev pub places_text : Network → ℕ → ℕ → List ℕ
places_text net from count = flat_map (place_text net) (range_with_len from count)

-- their work
abbrev pub places_work : Network → ℕ → ℕ → ℕ
places_work net from count = cert_work net (from + count) - cert_work net from
