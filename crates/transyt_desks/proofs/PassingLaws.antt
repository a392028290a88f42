-- Turns that pass, one after another: each adds its look and its work, and nothing else changes.
use Rattle.std.proofs.Common.{◌≡◌, ℕ, zero, suc, ◌+◌, ◌%◌, ◌<◌, ◌≤◌, false, if◌then◌else◌, None, ap, sym, ◌∙◌, arith}
use Rattle.std.proofs.lemmas.Bool.{cond-false}
use Rattle.std.proofs.Math.Nat.{mod-add-mod, mod-eq_of_lt, mod-zero}
use borrow.Author.Count.{below_more}
use Rattle.transyt_net.specs.Edits.{with_edit}
use Rattle.transyt_climb.specs.declared.turn.Turn.TheVariants.{Passed}
use Rattle.transyt_moves.specs.Moves.{move}
use Rattle.transyt_sweep.specs.Climb.{lowers}
use Rattle.transyt_track.specs.Due.{edit_work}
use Rattle.transyt_session.specs.Session.{credited, standing_for}
use Rattle.transyt_climb.specs.Turns.{Counters, Machine, machine, after_answer, answer_of, noted, turned, turns}
use Rattle.transyt_climb.proofs.LookLaws.{lowers_is}
use Rattle.transyt_climb.proofs.WayLaws.{turns_more}
use Rattle.transyt_desks.specs.Rounds.{passed_by}
use Rattle.transyt_desks.specs.Stretches.{place_at, work_before}
use Rattle.transyt_desks.proofs.TriedLaws.{answers_look}

-- one look more
pub noted_more : (n : ℕ) (c : Counters) → noted false (passed_by n c) ≡ passed_by (n + 1) c
noted_more n c =
    let place : ((c.place + n) % c.count + 1) % c.count ≡ (c.place + (n + 1)) % c.count =
    mod-add-mod (c.place + n) c.count 1 ∙ ap (λ p. p % c.count) (omega arith) in
    let since : c.since + n + 1 ≡ c.since + (n + 1) = omega arith in
    let looked : c.looked + n + 1 ≡ c.looked + (n + 1) = omega arith in
    λ i. record { place = place i; since = since i; looked = looked i; budget = c.budget; count = c.count }

-- a place in a list that has any
in_list : (count place : ℕ) → (0 < count → place < count) → place ≡ place % count
in_list zero place inside = sym (mod-zero place)
in_list (suc n) place inside = sym (mod-eq_of_lt (inside (omega arith)))

-- no look yet
pub noted_none : (c : Counters) → (0 < c.count → c.place < c.count) → c ≡ passed_by 0 c
noted_none c inside =
    let place : c.place ≡ c.place + 0 = omega arith in
    let since : c.since ≡ c.since + 0 = omega arith in
    let looked : c.looked ≡ c.looked + 0 = omega arith in
    let within = in_list c.count c.place inside ∙ ap (λ p. p % c.count) place in
    λ i. record { place = within i; since = since i; looked = looked i; budget = c.budget; count = c.count }

-- a climber and its session after n looks, with some work, at moves that don't lower the index
abbrev pub passed_state : ℕ → ℕ → Machine → Machine
passed_state n work m = machine (passed_by n m.counters) (credited work (standing_for m.session.net m.session))

-- n turns that all pass, and the state after them
pub record ArePassing (m : Machine) (n : ℕ) : Type 0 where
  pub passed : (k : ℕ) → k < n → answer_of (turns k m) ≡ Passed
  pub state : turns n m ≡ passed_state n (work_before m.session.net m.counters.place m.counters.count n) m

-- turns pass at places whose moves don't lower the index
pub are_passing : (m : Machine) (n : ℕ) → m.counters.place < m.counters.count → m.session.before ≡ None
    → m.counters.since + n ≤ m.counters.count → m.counters.looked + n ≤ m.counters.budget
    → ((k : ℕ) → k < n → lowers m.session.net (place_at m.counters.place m.counters.count k) ≡ false) → ArePassing m n
are_passing m zero inside closed since looked all =
    let work : m.session.work ≡ m.session.work + 0 = omega arith in
    record {
      passed = λ k less. absurd (omega arith);
      state = λ i. machine (noted_none m.counters (λ _. inside) i)
          (record { net = m.session.net; before = closed i; work = work i });
    }
are_passing m (suc n) inside closed since looked all =
    let net = m.session.net in
    let place = place_at m.counters.place m.counters.count n in
    let before = work_before net m.counters.place m.counters.count n in
    let now = passed_state n before m in
    let so = are_passing m n inside closed (omega (arith, since)) (omega (arith, looked)) (λ k less. all k (omega arith)) in
    let passes : answer_of now ≡ Passed =
    answers_look now (omega (arith, since)) (omega (arith, looked)) ∙ cond-false (lowers net place) _ _ (all n (omega arith)) in
    let more : suc n ≡ n + 1 = omega arith in
    let counters = noted_more n m.counters ∙ ap (λ k. passed_by k m.counters) (sym more) in
    let stays = sym (lowers_is net place) ∙ all n (omega arith) in
    let work : m.session.work + before + edit_work net (move net place) ≡ m.session.work + (before + edit_work net (move net place)) =
    omega arith in
    record {
      passed = λ k less. below_more (λ k. answer_of (turns k m) ≡ Passed) n so.passed (ap answer_of so.state ∙ passes) k
          (omega (arith, less));
      state = ap (λ k. turns k m) more ∙ turns_more n m ∙ ap turned so.state ∙ ap (λ a. after_answer a now) passes
          ∙ (λ i. machine (counters i) (record {
            net = if stays i then with_edit net (move net place) else net;
            before = None;
            work = work i;
          }));
    }
