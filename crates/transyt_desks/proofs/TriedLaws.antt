-- The try of a move tells what a turn at its place does.
use Rattle.std.proofs.Common.{◌≡◌, ◌+◌, ◌<◌, ◌≤◌, ℕ, Bool, true, false, Option, Some, None, IfSome, ◌≢◌, is_some, nat_lt, refl, ap, sym, ◌∙◌, arith}
use Rattle.std.proofs.Common.{if◌then◌else◌, ◌==◌}
use Rattle.std.proofs.lemmas.Bool.Decides.{nat_tests}
use Rattle.std.proofs.lemmas.Option.{cond_some}
use Rattle.transyt_net.specs.declared.edit.Edit.{Edit}
use Rattle.transyt_net.specs.declared.edit.EditFault.{EditFault}
use Rattle.transyt_net.specs.Parts.{Network, SameShape, shape as shape_word}
use Rattle.transyt_net.specs.EditFaults.{edit_fault}
use Rattle.transyt_moves.specs.Moves.{move, move_count}
use Rattle.transyt_sweep.specs.Sweeps.{index}
use Rattle.transyt_sweep.specs.Climb.{lowers, moved, is_below, index_with}
use Rattle.transyt_track.specs.Due.{due, edit_work, work_with}
use Rattle.transyt_net.specs.Edits.{with_edit}
use Rattle.transyt_session.specs.Session.{SessionValue, credited, edit_lowers, standing_for, tried_below, try_of, tried_with}
use Rattle.transyt_climb.specs.declared.turn.Turn.TheVariants.{Local, Budget}
use Rattle.transyt_climb.specs.Turns.{Machine, looked_at, look_answer, answer_of}
use Rattle.transyt_climb.proofs.CountLaws.{count_moved, shape_moved}
use Rattle.transyt_climb.proofs.LookLaws.{lowers_is}
use Rattle.transyt_desks.specs.declared.results.MadeMove.{MadeMove}
use Rattle.transyt_desks.specs.Stretches.{made_at, made_by, net_made, work_found}

-- what isn't there
pub none_made : (o : Option MadeMove) → is_some o ≡ false → o ≡ None
none_made None is = refl
none_made (Some made) is = absurd (cc)

-- and what is
pub some_told : (o : Option MadeMove) → is_some o ≡ true → o ≢ None
some_told None is = absurd (cc)
some_told (Some made) is = λ same. absurd (cc)

-- nor is what never is
pub none_by : (o : Option MadeMove) → ((made : MadeMove) → o ≡ Some made → ⊥) → o ≡ None
none_by None never = refl
none_by (Some made) never = absurd (never made refl)

-- the work that a try results is that of its edit, by its fault
work_by : (net : Network) (e : Edit) (fault : Option EditFault) → work_found (tried_with net e fault) ≡ work_with net e fault
work_by net e None = refl
work_by net e (Some fault) = refl

-- and so of any edit
pub try_work : (net : Network) (e : Edit) → work_found (try_of net e) ≡ edit_work net e
try_work net e = work_by net e (edit_fault net e)

-- an edit that brings the index below a bound is made, and no other, by its fault
made_fault : (net : Network) (bound : ℕ) (e : Edit) (fault : Option EditFault)
    → ((if is_below bound (index_with net e fault) then with_edit net e else net)
    ≡ net_made (made_by bound e (tried_with net e fault)) net)
    × (is_some (made_by bound e (tried_with net e fault)) ≡ is_below bound (index_with net e fault))
made_fault net bound e None = by (nat_lt (index (with_edit net e)) bound)
  where
    made : MadeMove
    made = record { edit = e; index = index (with_edit net e); work = due net (with_edit net e) }

    by : (b : Bool) → ((if b then with_edit net e else net) ≡ net_made (if b then Some made else None) net)
        × (is_some (if b then Some made else None) ≡ b)
    by true = (refl, refl)
    by false = (refl, refl)
made_fault net bound e (Some fault) = (refl, refl)

-- a session after a try with a bound stands for the network with the edit made, if it was
pub after_try : (bound : ℕ) (e : Edit) (s : SessionValue)
    → tried_below bound e s ≡ standing_for (net_made (made_by bound e (try_of s.net e)) s.net) s
after_try bound e s = ap (λ net. standing_for net s) (made_fault s.net bound e (edit_fault s.net e)).0

-- a move is made below the index of the network exactly where it lowers the index
pub made_lowers : (net : Network) (place : ℕ) → is_some (made_at net (index net) place) ≡ lowers net place
made_lowers net place =
    (made_fault net (index net) (move net place) (edit_fault net (move net place))).1 ∙ sym (lowers_is net place)

-- so what isn't made doesn't lower it, and what is made does
pub none_lowers : (net : Network) (place : ℕ) → made_at net (index net) place ≡ None → lowers net place ≡ false
none_lowers net place is = sym (made_lowers net place) ∙ ap is_some is

pub lowers_none : (net : Network) (place : ℕ) → lowers net place ≡ false → made_at net (index net) place ≡ None
lowers_none net place higher = none_made (made_at net (index net) place) (made_lowers net place ∙ higher)

pub some_lowers : (net : Network) (place : ℕ) (made : MadeMove) → made_at net (index net) place ≡ Some made
    → lowers net place ≡ true
some_lowers net place made is = sym (made_lowers net place) ∙ ap is_some is

-- what is made is the edit, with its index and its work
pub record IsMade (net : Network) (e : Edit) (made : MadeMove) : Type 0 where
  pub edit : made.edit ≡ e
  pub index_is : made.index ≡ index (with_edit net e)
  pub work : made.work ≡ edit_work net e

made_fields : (net : Network) (bound : ℕ) (e : Edit) (fault : Option EditFault) (made : MadeMove)
    → edit_fault net e ≡ fault → made_by bound e (tried_with net e fault) ≡ Some made → IsMade net e made
made_fields net bound e None made allowed is =
    let same : made ≡ record { edit = e; index = index (with_edit net e); work = due net (with_edit net e) } =
    sym (cond_some (nat_lt (index (with_edit net e)) bound) _ made is).1 in
    record {
      edit = ap (λ (m : MadeMove). m.edit) same;
      index_is = ap (λ (m : MadeMove). m.index) same;
      work = ap (λ (m : MadeMove). m.work) same ∙ ap (work_with net e) (sym allowed);
    }
made_fields net bound e (Some fault) made allowed is = absurd (cc)

pub made_is : (net : Network) (bound place : ℕ) (made : MadeMove) → made_at net bound place ≡ Some made
    → IsMade net (move net place) made
made_is net bound place made is =
    made_fields net bound (move net place) (edit_fault net (move net place)) made refl is

-- the network with what is made, if it is, has the same shape
pub made_shape : (net : Network) (bound place : ℕ) (o : Option MadeMove)
    → ((made : MadeMove) → o ≡ Some made → made_at net bound place ≡ Some made) → SameShape (net_made o net) net
unfolding moved
made_shape net bound place None found = refl
made_shape net bound place (Some made) found =
    ap (λ e. shape_word (with_edit net e)) (made_is net bound place made (found made refl)).edit ∙ shape_moved net place

-- and as many moves
pub count_made : (net : Network) (place : ℕ) (made : MadeMove) → IsMade net (move net place) made
    → move_count (with_edit net made.edit) ≡ move_count net
unfolding moved
count_made net place made is = ap (λ e. move_count (with_edit net e)) is.edit ∙ count_moved net place

-- a session that has made it, credited with other work and its own, is one that has looked at the place
pub lowered_made : (place : ℕ) (made : MadeMove) (work : ℕ) (s : SessionValue) → IsMade s.net (move s.net place) made
    → lowers s.net place ≡ true
    → credited made.work (credited work (standing_for (with_edit s.net made.edit) s)) ≡ looked_at place (credited work s)
lowered_made place made work s is lower =
    let e = move s.net place in
    let makes : true ≡ edit_lowers s.net e = sym lower ∙ lowers_is s.net place in
    λ i. record {
      net = (ap (with_edit s.net) is.edit ∙ ap (λ b. if b then with_edit s.net e else s.net) makes) i;
      before = None;
      work = s.work + work + is.work i;
    }

-- its work is small
pub made_small : (net : Network) (bound : ℕ) (e : Edit) → edit_work net e ≤ 8000
    → IfSome (made_by bound e (try_of net e)) (λ made. made.work ≤ 8000)
made_small net bound e few = by (made_by bound e (try_of net e)) refl
  where
    by : (o : Option MadeMove) → made_by bound e (try_of net e) ≡ o → IfSome o (λ made. made.work ≤ 8000)
    by None is = tt {0}
    by (Some made) is = omega (arith, (made_fields net bound e (edit_fault net e) made refl is).work, few)

-- a turn that is no end answers as the look does
pub answers_look : (m : Machine) → m.counters.since < m.counters.count → m.counters.looked < m.counters.budget
    → answer_of m ≡ look_answer m.session.net m.counters.place
answers_look m since looked =
    let some : (m.counters.since == m.counters.count) ≡ false = grind (arith, nat_tests) in
    let left : (m.counters.looked == m.counters.budget) ≡ false = grind (arith, nat_tests) in
    λ i. if some i then Local else if left i then Budget else look_answer m.session.net m.counters.place
