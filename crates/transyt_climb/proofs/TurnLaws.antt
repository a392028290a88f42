-- A turn goes on with the climb that a state has before it, by its answer; and the climber still fits the network.
use Rattle.std.proofs.Common.{◌≡◌, ℕ, suc, ◌+◌, ◌-◌, ◌%◌, ◌<◌, Bool, true, false, [], ◌∷◌, refl, ap, sym, ◌∙◌, arith}
use Rattle.std.proofs.Common.{if◌then◌else◌, ◌==◌}
use Rattle.std.proofs.Math.Nat.{mod-eq_of_lt, mod-lt}
use Rattle.std.proofs.lemmas.Bool.{cond_both}
use Rattle.std.proofs.lemmas.Bool.Decides.{nat_tests}
use Rattle.transyt_net.specs.Parts.{Network}
use Rattle.transyt_sweep.specs.Sweeps.{index}
use Rattle.transyt_moves.specs.Moves.{move, move_count}
use Rattle.transyt_sweep.specs.Climb.{Climb, Look, Step, moved, lowers, tried_at, climb, step_at}
use Rattle.transyt_sweep.proofs.ClimbLaws.{climb_is}
use Rattle.transyt_session.specs.Session.{SessionValue}
use Rattle.transyt_climb.specs.declared.turn.Turn.{Turn}
use Rattle.transyt_climb.specs.declared.turn.Turn.TheVariants.{Took, Passed, Local, Budget}
use Rattle.transyt_climb.specs.Turns.{Machine, started, look_answer, answer_of, after_look, after_answer, turned}
use Rattle.transyt_climb.specs.Way.{IsReady, climb_left, onward}
use Rattle.transyt_climb.proofs.CountLaws.{count_moved}
use Rattle.transyt_climb.proofs.LookLaws.{count_looked}
use Rattle.transyt_climb.proofs.OnwardLaws.{looked, onward_local, onward_budget, onward_passes, onward_takes}

-- the look of a state
abbrev pub look_of : Machine → Look
look_of m = record { net = m.session.net; place = m.counters.place }

-- a climb with a step and its look before it
abbrev pub taken : Step → Look → Climb → Climb
taken step l c = record { steps = step ∷ c.steps; local = c.local; looks = l ∷ c.looks; net = c.net }

-- a climb that is over
abbrev pub over : Bool → Network → Climb
over local net = record { steps = []; local = local; looks = []; net = net }

-- the climb from a state whose next turn answers this
abbrev pub goes : Turn → Machine → Climb
goes (Took place edit index) m =
    taken (record { place = place; edit = edit; index = index }) (look_of m) (climb_left (after_look true m))
goes Passed m = looked (look_of m) (climb_left (after_look false m))
goes Local m = over true m.session.net
goes Budget m = over false m.session.net

-- a fact of each answer that a turn may give is one of its answer
pub by_answer : (m : Machine) (P : Turn → Type 0) → ((m.counters.since == m.counters.count) ≡ true → P Local)
    → ((m.counters.since == m.counters.count) ≡ false → (m.counters.looked == m.counters.budget) ≡ true → P Budget)
    → ((m.counters.since == m.counters.count) ≡ false → (m.counters.looked == m.counters.budget) ≡ false
    → P (look_answer m.session.net m.counters.place))
    → P (answer_of m)
by_answer m P gone spent looks =
    let look = look_answer m.session.net m.counters.place in
    cond_both (m.counters.since == m.counters.count) Local
    (if m.counters.looked == m.counters.budget then Budget else look) P gone (λ some. cond_both (m.counters.looked == m.counters.budget) Budget look P (spent some) (looks some))

-- and of the answer of its look
pub by_look : (m : Machine) (P : Turn → Type 0)
    → (lowers m.session.net m.counters.place ≡ true
    → P (Took m.counters.place (move m.session.net m.counters.place) (index (moved m.session.net m.counters.place))))
    → (lowers m.session.net m.counters.place ≡ false → P Passed) → P (look_answer m.session.net m.counters.place)
by_look m P lower higher =
    cond_both (lowers m.session.net m.counters.place)
    (Took m.counters.place (move m.session.net m.counters.place) (index (moved m.session.net m.counters.place)))
    Passed P lower higher

-- the climb after a lowering move is that of the state after it
after_took : (m : Machine) → IsReady m → lowers m.session.net m.counters.place ≡ true
    → climb (moved m.session.net m.counters.place) m.counters.place (m.counters.budget - (m.counters.looked + 1))
    ≡ climb_left (after_look true m)
unfolding climb_left lowers tried_at moved
after_took m ready lower =
    let net = moved m.session.net m.counters.place in
    let left = m.counters.budget - (m.counters.looked + 1) in
    let count : move_count net ≡ m.counters.count = count_moved m.session.net m.counters.place ∙ sym ready.count in
    let all : m.counters.count ≡ m.counters.count - 0 = omega arith in
    climb_is net m.counters.place left ∙ ap (λ n. onward net m.counters.place n left) (count ∙ all)
    ∙ sym (ap (λ b. onward (if b then net else m.session.net) m.counters.place (m.counters.count - 0) left) lower)

-- the search after a place that was passed is that of the state after it
after_passed : (m : Machine) → IsReady m → lowers m.session.net m.counters.place ≡ false
    → onward m.session.net ((m.counters.place + 1) % move_count m.session.net)
    (m.counters.count - (m.counters.since + 1)) (m.counters.budget - (m.counters.looked + 1))
    ≡ climb_left (after_look false m)
unfolding climb_left lowers tried_at moved
after_passed m ready higher =
    let n = m.counters.count - (m.counters.since + 1) in
    let left = m.counters.budget - (m.counters.looked + 1) in
    ap (λ count. onward m.session.net ((m.counters.place + 1) % count) n left) (sym ready.count)
    ∙ sym (ap (λ b. onward (if b then moved m.session.net m.counters.place else m.session.net)
    ((m.counters.place + 1) % m.counters.count) n left) higher)

-- where a place is looked at, a place and a look are left
left_more : (m : Machine) → m.counters.since < m.counters.count → m.counters.looked < m.counters.budget
    → climb_left m ≡ onward m.session.net m.counters.place (suc (m.counters.count - (m.counters.since + 1)))
    (suc (m.counters.budget - (m.counters.looked + 1)))
unfolding climb_left
left_more m some left =
    let n : m.counters.count - m.counters.since ≡ suc (m.counters.count - (m.counters.since + 1)) = omega arith in
    let l : m.counters.budget - m.counters.looked ≡ suc (m.counters.budget - (m.counters.looked + 1)) = omega arith in
    λ i. onward m.session.net m.counters.place (n i) (l i)

-- a look at a place
look_goes : (m : Machine) → IsReady m → m.counters.since < m.counters.count → m.counters.looked < m.counters.budget
    → climb_left m ≡ goes (look_answer m.session.net m.counters.place) m
look_goes m ready some left =
    let net = m.session.net in
    let k = m.counters.place in
    let n = m.counters.count - (m.counters.since + 1) in
    let l = m.counters.budget - (m.counters.looked + 1) in
    let P : Turn → Type 0 = λ a. climb_left m ≡ goes a m in
    let here : k % move_count net ≡ k =
    ap (λ x. k % x) (sym ready.count) ∙ mod-eq_of_lt (ready.place (omega arith)) in
    by_look m P
    (λ lower. left_more m some left ∙ onward_takes net k n l (ap (lowers net) here ∙ lower)
    ∙ ap (λ p. taken (step_at net p) (record { net = net; place = p }) (climb (moved net p) p l)) here
    ∙ ap (taken (step_at net k) (look_of m)) (after_took m ready lower))
    (λ higher. left_more m some left ∙ onward_passes net k n l (ap (lowers net) here ∙ higher)
    ∙ ap (λ p. looked (record { net = net; place = p }) (onward net ((k + 1) % move_count net) n l)) here
    ∙ ap (looked (look_of m)) (after_passed m ready higher))

-- where a whole round of the list was looked at, nothing is left
left_local : (m : Machine) → (m.counters.since == m.counters.count) ≡ true → climb_left m ≡ over true m.session.net
unfolding climb_left
left_local m gone =
    let none : m.counters.count - m.counters.since ≡ 0 = grind (arith, nat_tests, gone) in
    ap (λ n. onward m.session.net m.counters.place n (m.counters.budget - m.counters.looked)) none
    ∙ onward_local m.session.net m.counters.place (m.counters.budget - m.counters.looked)

-- nor where no look is left
left_budget : (m : Machine) → m.counters.since < m.counters.count → (m.counters.looked == m.counters.budget) ≡ true
    → climb_left m ≡ over false m.session.net
unfolding climb_left
left_budget m some spent =
    let n : m.counters.count - m.counters.since ≡ suc (m.counters.count - (m.counters.since + 1)) = omega arith in
    let none : m.counters.budget - m.counters.looked ≡ 0 = grind (arith, nat_tests, spent) in
    (λ i. onward m.session.net m.counters.place (n i) (none i))
    ∙ onward_budget m.session.net m.counters.place (m.counters.count - (m.counters.since + 1))

-- the tests of a turn, as orders
since_less : (m : Machine) → IsReady m → (m.counters.since == m.counters.count) ≡ false
    → m.counters.since < m.counters.count
since_less m ready some = grind (arith, nat_tests, some, ready.since)

looked_less : (m : Machine) → IsReady m → (m.counters.looked == m.counters.budget) ≡ false
    → m.counters.looked < m.counters.budget
looked_less m ready left = grind (arith, nat_tests, left, ready.looked)

-- one turn goes on with the climb
pub turn_goes : (m : Machine) → IsReady m → climb_left m ≡ goes (answer_of m) m
turn_goes m ready =
    let P : Turn → Type 0 = λ a. climb_left m ≡ goes a m in
    by_answer m P (left_local m) (λ some spent. left_budget m (since_less m ready some) spent)
    (λ some left. look_goes m ready (since_less m ready some) (looked_less m ready left))

-- a climber still belongs to its session's network after a turn
pub ready_turned : (m : Machine) → IsReady m → IsReady (turned m)
ready_turned m ready =
    let P : Turn → Type 0 = λ a. IsReady (after_answer a m) in
    let count = ready.count ∙ sym (count_looked m.counters.place m.session) in
    by_answer m P (λ gone. ready) (λ some spent. ready) (λ some left.
    let since = since_less m ready some in
    let few = looked_less m ready left in
    by_look m P
    (λ lower. record { count = count; since = omega arith; looked = omega (arith, few); place = ready.place })
    (λ higher. record {
      count = count;
      since = omega (arith, since);
      looked = omega (arith, few);
      place = λ positive. mod-lt (m.counters.place + 1) positive;
    }))

-- a climber at its start has the whole climb before it
pub left_start : (budget : ℕ) (s : SessionValue) → climb_left (started budget s) ≡ climb s.net 0 budget
unfolding climb_left
left_start budget s =
    let n : move_count s.net - 0 ≡ move_count s.net = omega arith in
    let l : budget - 0 ≡ budget = omega arith in
    (λ i. onward s.net 0 (n i) (l i)) ∙ sym (climb_is s.net 0 budget)

-- a climber at its start belongs to its session's network
pub start_ready : (budget : ℕ) (s : SessionValue) → IsReady (started budget s)
start_ready budget s = record { count = refl; since = omega arith; looked = omega arith; place = λ positive. positive }
