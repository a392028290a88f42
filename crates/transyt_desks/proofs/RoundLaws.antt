-- A round: a turn that is no end is a look, so the round is the turns of a stretch, and one more where a move lowers.
use Rattle.std.proofs.Common.{◌≤◌, ◌≡◌, ℕ, ◌+◌, ◌-◌, ◌*◌, ◌<◌, Bool, true, false, Some, None, List, length, slice_set, refl, ap, sym, ◌∙◌, subst, arith}
use Rattle.std.proofs.lemmas.Bool.{cond-true, cond-false}
use Rattle.std.proofs.lemmas.List.{length-set}
use Rattle.transyt_net.specs.Parts.{SameShape}
use Rattle.transyt_moves.specs.Moves.{move, move_count}
use Rattle.transyt_sweep.specs.Climb.{lowers, moved}
use Rattle.transyt_sweep.specs.Sweeps.{index}
use Rattle.transyt_session.specs.Session.{SessionValue, credited, standing_for}
use Rattle.transyt_climb.specs.declared.turn.Turn.{Turn}
use Rattle.transyt_climb.specs.declared.turn.Turn.TheVariants.{Took, Passed, Local, Budget}
use Rattle.transyt_climb.specs.Turns.{Counters, Machine, machine, after_answer, answer_of, turned, turns, is_end, noted as noted_by}
use Rattle.transyt_climb.proofs.TurnLaws.{by_look}
use Rattle.transyt_climb.proofs.WayLaws.{turns_more}
use Rattle.transyt_desks.specs.declared.turns.Round.{Round}
use Rattle.transyt_desks.specs.declared.results.MadeMove.{MadeMove}
use Rattle.transyt_desks.specs.declared.stretch.Stretch.{Stretch}
use Rattle.transyt_desks.specs.Stretches.{IsStretch, net_made, place_at}
use Rattle.transyt_desks.specs.Desks.{desk_zero, AreAlike}
use Rattle.transyt_desks.specs.Rounds.{each_of, goes_alone, is_took, passed_by, places_of, room_of, trying_of, turns_of, turns_up_to}
use Rattle.transyt_desks.specs.Rounds.{CanRound, MakesRound, RoundsDesks}
use Rattle.transyt_desks.proofs.TriedLaws.{IsMade, answers_look, count_made, lowered_made, made_is, some_lowers}
use Rattle.transyt_desks.proofs.LeastLaws.{up_to_all, up_to_one, up_to_took}
use Rattle.transyt_desks.proofs.PassingLaws.{ArePassing, are_passing, passed_state}
use Rattle.transyt_desks.proofs.DeskLaws.{alike_lent, zero_set}

-- a look is no end, so a round has the turns up to and with the first that takes a step
turns_number : (places : ℕ) (m : Machine) → m.counters.since < m.counters.count
    → m.counters.looked < m.counters.budget → turns_of places m ≡ turns_up_to (room_of places m.counters) m
turns_number places m since looked =
    cond-false (is_end (answer_of m)) _ _
    (ap is_end (answers_look m since looked) ∙ by_look m (λ a. is_end a ≡ false) (λ _. refl) (λ _. refl))

-- one place has one turn
pub turns_one : (m : Machine) → m.counters.since < m.counters.count → m.counters.looked < m.counters.budget
    → turns_of 1 m ≡ 1
turns_one m since looked =
    let room : room_of 1 m.counters ≡ 1 = omega arith in
    turns_number 1 m since looked ∙ ap (λ n. turns_up_to n m) room ∙ up_to_one m

-- a turn that is a whole round
pub makes_turn : (places : ℕ) (before after : Machine) (last : Turn) → turns_of places before ≡ 1 → last ≡ answer_of before
    → after ≡ turned before → after.counters.count ≡ move_count after.session.net → after.session.before ≡ None
    → after.session.work ≤ before.session.work + 8000 → MakesRound places before after (record { turns = 1; last = last })
makes_turn places before after last one is turned_is kept closed few = record {
  round = record {
    some = omega arith;
    after_is = turned_is;
    passed = λ k less. absurd (omega (arith, less));
    last_is = is;
  };
  turns = sym one;
  kept = kept;
  closed = closed;
  few = omega (arith, few);
}

-- an end changes nothing
end_stays : (a : Turn) (m : Machine) → is_end a ≡ true → m ≡ after_answer a m
end_stays (Took place edit found) m end = absurd (cc)
end_stays Passed m end = absurd (cc)
end_stays Local m end = refl
end_stays Budget m end = refl

-- and is a round of desks alone
pub rounds_end : (places : ℕ) (c : Counters) (desks : List SessionValue) (last : Turn) → CanRound c (desk_zero desks)
    → last ≡ answer_of (machine c (desk_zero desks)) → is_end last ≡ true
    → RoundsDesks places c desks c desks (record { turns = 1; last = last })
rounds_end places c desks last ready is end =
    let m : Machine = machine c (desk_zero desks) in
    let ends : is_end (answer_of m) ≡ true = ap is_end (sym is) ∙ end in
    record {
      made = makes_turn places m m last (cond-true (is_end (answer_of m)) _ _ ends) is (end_stays (answer_of m) m ends)
          ready.count ready.closed (omega arith);
      alike = λ are. are;
      workers = refl;
    }

module _ (places : ℕ) (m : Machine) (s : Stretch) (ready : CanRound m.counters m.session)
    (place : m.counters.place < m.counters.count) (since : m.counters.since < m.counters.count)
    (looked : m.counters.looked < m.counters.budget)
    (tried : IsStretch m.session.net m.counters.place m.counters.count (room_of places m.counters) s) where
  -- the places that pass are turns
  passing : ArePassing m s.passed
  passing = are_passing m s.passed place ready.closed (omega (arith, tried.inside)) (omega (arith, tried.inside)) tried.passes

  none_took : (k : ℕ) → k < s.passed → is_took (answer_of (turns k m)) ≡ false
  none_took k less = ap is_took (passing.passed k less)

  -- after which climber and session are these
  passed_is : turns s.passed m ≡ passed_state s.passed s.work m
  passed_is = passing.state ∙ ap (λ w. passed_state s.passed w m) (sym tried.work)

  -- places that all pass are a round
  pub makes_passed : (c : Counters) (after : SessionValue) → 0 < places → s.made ≡ None → c ≡ passed_by s.passed m.counters
      → after ≡ credited s.work (standing_for (net_made s.made m.session.net) m.session)
      → MakesRound places m (machine c after) (record { turns = s.passed; last = Passed })
  makes_passed c after some none counters is =
      let all : s.passed ≡ room_of places m.counters = tried.whole none in
      let session = is ∙ ap (λ o. credited s.work (standing_for (net_made o m.session.net) m.session)) none in
      let state : machine c after ≡ passed_state s.passed s.work m = (λ i. machine (counters i) (session i)) in
      let work = ap (λ (x : Machine). x.session.work) state in
      record {
        round = record {
          some = omega (arith, all);
          after_is = state ∙ sym passed_is;
          passed = λ k fewer. passing.passed k (omega (arith, fewer));
          last_is = sym (passing.passed (s.passed - 1) (omega (arith, all)));
        };
        turns = sym (up_to_all s.passed m none_took) ∙ ap (λ n. turns_up_to n m) all ∙ sym (turns_number places m since looked);
        kept = ap (λ (x : Machine). x.counters.count) state ∙ ready.count
            ∙ sym (ap (λ (x : Machine). move_count x.session.net) state);
        closed = ap (λ (x : Machine). x.session.before) state;
        few = omega (arith, work, tried.few);
      }

  -- places that pass before one that lowers the index and is made are a round with it
  pub makes_step : (made : MadeMove) (c : Counters) (after : SessionValue) → s.made ≡ Some made
      → c ≡ noted_by true (passed_by s.passed m.counters)
      → after ≡ credited made.work (credited s.work (standing_for (net_made s.made m.session.net) m.session))
      → MakesRound places m (machine c after) (record {
        turns = s.passed + 1;
        last = Took (place_at m.counters.place m.counters.count s.passed) made.edit made.index;
      })
  unfolding moved
  makes_step made c after some counters is =
      let net = m.session.net in
      let now = place_at m.counters.place m.counters.count s.passed in
      let there = passed_state s.passed s.work m in
      let less : s.passed < room_of places m.counters = tried.next made some in
      let its_made : IsMade net (move net now) made = made_is net (index net) now made (tried.found made some) in
      let lower : lowers net now ≡ true = some_lowers net now made (tried.found made some) in
      let takes : Took now made.edit made.index ≡ answer_of there =
      (λ i. Took now (its_made.edit i) (its_made.index_is i))
      ∙ sym (answers_look there (omega (arith, less)) (omega (arith, less)) ∙ cond-true (lowers net now) _ _ lower) in
      let last : Took now made.edit made.index ≡ answer_of (turns s.passed m) = takes ∙ ap answer_of (sym passed_is) in
      let session = is ∙ ap (λ o. credited made.work (credited s.work (standing_for (net_made o net) m.session))) some in
      let state : machine c after ≡ after_answer (Took now made.edit made.index) there =
      (λ i. machine (counters i) ((session ∙ lowered_made now made s.work m.session its_made lower) i)) in
      let work = ap (λ (t : SessionValue). t.work) is in
      let end : s.passed ≡ s.passed + 1 - 1 = omega arith in
      record {
        round = record {
          some = omega arith;
          after_is = state ∙ ap (λ a. after_answer a there) takes ∙ ap turned (sym passed_is) ∙ sym (turns_more s.passed m);
          passed = λ k fewer. passing.passed k (omega (arith, fewer));
          last_is = last ∙ ap (λ k. answer_of (turns k m)) end;
        };
        turns = sym (up_to_took (room_of places m.counters) s.passed m less none_took (ap is_took (sym last)))
            ∙ sym (turns_number places m since looked);
        kept = ap (λ (x : Counters). x.count) counters ∙ ready.count ∙ sym (count_made net now made its_made)
            ∙ sym (ap (λ (t : SessionValue). move_count t.net) session);
        closed = ap (λ (t : SessionValue). t.before) is;
        few = omega (arith, work, tried.few, tried.small made some);
      }

-- a round at the session that desks lend is a round of the desks, if its network has kept its shape
pub rounds_lent : (places : ℕ) (before after : Counters) (olds lent : List SessionValue) (t : SessionValue) (result : Round)
    → 0 < length olds → length lent ≡ length olds → (AreAlike olds → AreAlike lent) → SameShape t.net (desk_zero lent).net
    → MakesRound places (machine before (desk_zero olds)) (machine after t) result
    → RoundsDesks places before olds after (slice_set lent 0 t) result
rounds_lent places before after olds lent t result some count alike same made =
    let any : 0 < length lent = omega (arith, some, count) in
    record {
      made = subst (λ u. MakesRound places (machine before (desk_zero olds)) (machine after u) result) (sym (zero_set lent t any)) made;
      alike = λ were. alike_lent lent t any (alike were) same;
      workers = length-set lent 0 t ∙ count;
    }

-- what so many desks are told of whether desk 0 goes on alone
module _ (desks count : ℕ) (c : Counters) (told : Bool) (is : count ≡ desks) (by : told ≡ goes_alone count c) where
  answer : goes_alone desks c ≡ told
  answer = ap (λ n. goes_alone n c) (sym is) ∙ sym by

  -- it has one place then
  pub places_alone : told ≡ true → 1 ≡ places_of desks c
  places_alone alone = sym (cond-true (goes_alone desks c) _ _ (answer ∙ alone))

  -- otherwise each desk that tries has its part
  pub places_together : (again trying each : ℕ) → told ≡ false → again ≡ desks → trying ≡ trying_of again c
      → each ≡ each_of (trying_of again c) c → trying * each ≡ places_of desks c
  places_together again trying each others same these part =
      (λ i. (these ∙ ap (λ n. trying_of n c) same) i * (part ∙ ap (λ n. each_of (trying_of n c) c) same) i)
      ∙ sym (cond-false (goes_alone desks c) _ _ (answer ∙ others))
