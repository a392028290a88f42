-- A climb on its way on desks: what is written of it, its desks and its steps, from round to round.
use Rattle.std.proofs.Common.{◌≡◌, ℕ, ◌+◌, ◌≤◌, false, List, [], length, Option, None, Ok, refl, ◌∙◌, ap, subst, arith}
use Rattle.transyt_net.specs.Parts.{Network}
use Rattle.transyt_moves.specs.Moves.{move_count}
use Rattle.transyt_session.specs.Session.{SessionValue}
use Rattle.transyt_climb.specs.Turns.{Counters, machine, start_at, step_then, is_end}
use Rattle.transyt_climb.proofs.CountedLaws.{climb_starts}
use Rattle.transyt_desks.specs.declared.turns.Round.{Round}
use Rattle.transyt_desks.specs.Desks.{desk_zero, AreAlike}
use Rattle.transyt_desks.specs.Rounds.{MakesRound}
use Rattle.transyt_io.specs.Prints.{Prints}
use Rattle.transyt_line_answers.specs.declared.answer.Answer.TheVariants as a
use Rattle.transyt_line_answers.specs.Commands.{after_answer, budget_of, steps_text}
use Rattle.transyt_reporter.specs.Conditions.{AreReady, LeavesReady}
use Rattle.transyt_reporter.proofs.ClimbTexts.{ClimbWritten, writes_nothing, climb_work, climb_few, step_written}
use Rattle.transyt_reporter.proofs.ReadyLaws.{ready_closed}

-- a climb that began on these desks and has come to those: its lines, its budget, its desks, its steps with one worker
pub record IsOnWay (desks now : List SessionValue) (c : Counters) (w v : Option (List ℕ)) (f g begun spent : ℕ) : Type 0
  where
    pub written : ClimbWritten (budget_of (desk_zero desks).net.plan) (desk_zero desks) (machine c (desk_zero now))
        w v f g
    pub few : budget_of (desk_zero desks).net.plan ≤ 1000000
    pub alike : AreAlike now
    pub len : length now ≡ length desks
    pub steps : length desks ≡ 1 → spent + (desk_zero desks).work ≡ begun + (desk_zero now).work

-- the climb is at its start, by the plan of desk 0's network
pub way_begins : {desks : List SessionValue} {c : Counters} {net : Network} → net ≡ (desk_zero desks).net
    → c ≡ start_at (budget_of net.plan) (move_count net) → budget_of net.plan ≤ 1000000
    → (desk_zero desks).before ≡ None → AreAlike desks → (w : Option (List ℕ)) (f steps : ℕ)
    → IsOnWay desks desks c w w f f steps steps
way_begins {desks} {c} at start few closed alike w f steps = record {
  written = writes_nothing (climb_starts (budget_of (desk_zero desks).net.plan) (desk_zero desks) c
      (start ∙ ap (λ (n : Network). start_at (budget_of n.plan) (move_count n)) at) closed) w f;
  few = subst (λ (n : Network). budget_of n.plan ≤ 1000000) at few;
  alike = alike;
  len = refl;
  steps = λ one. refl;
}

-- a round of such a climb
module _ {desks now news : List SessionValue} {c : Counters} {w v : Option (List ℕ)} {f g begun spent places : ℕ}
    {result : Round} (d : Counters) (after : ℕ) (so : IsOnWay desks now c w v f g begun spent)
    (made : MakesRound places (machine c (desk_zero now)) (machine d (desk_zero news)) result) (alike : AreAlike news)
    (workers : length news ≡ length now)
    (steps : length now ≡ 1 → after + (desk_zero now).work ≡ spent + (desk_zero news).work) where
  -- with one worker the steps rose as the work did
  rose : length desks ≡ 1 → after + (desk_zero desks).work ≡ begun + (desk_zero news).work
  rose one = omega (arith, so.steps one, steps (so.len ∙ one))

  -- the line of its step is written, and the climb goes on
  pub way_on : {T E : Type 0} (u : T) {x : Option (List ℕ)} {h : ℕ} → is_end result.last ≡ false
      → Prints {T = T} {E = E} v x g h (Ok u) (steps_text (step_then result.last []))
      → IsOnWay desks news d w x f h begun after
  way_on u going told = record {
    written = step_written so.written made u _ _ going told;
    few = so.few;
    alike = alike;
    len = workers ∙ so.len;
    steps = rose;
  }

  -- the desks and the steps that it leaves where it is the last, or its line broke off
  pub way_leaves : AreReady desks → LeavesReady 8000072000 (after_answer a.Climb (desk_zero desks)) desks news begun after
  way_leaves ready = record {
    ready = ready_closed desks news ready alike (workers ∙ so.len) made.closed;
    len = workers ∙ so.len;
    few = omega (arith, so.few, climb_few so.written made);
    work = climb_work so.written made;
    made = rose;
  }
