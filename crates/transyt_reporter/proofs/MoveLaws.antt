-- Each listed move is of an offset or of a change, and a round has no more turns than places are left, or one.
use Rattle.std.proofs.Common.{◌+◌, ◌≡◌, ℕ, zero, suc, ◌-◌, ◌≤◌, Bool, true, List, [], ◌∷◌, ◌++◌, length, Option, None, Some, IfSome}
use Rattle.std.proofs.Common.{refl, sym, subst, arith, slice_index_or}
use Rattle.std.specs.List.{flat_map, range_with_len}
use Rattle.std.proofs.lemmas.Bool.{cond_both}
use Rattle.transyt_parts.specs.Parts.{NodeValue, PlanValue}
use Rattle.transyt_net.specs.Parts.{Network}
use Rattle.transyt_net.specs.declared.edit.Edit.{Edit}
use Rattle.transyt_parts.specs.Valid.{IsPlan}
use Rattle.transyt_net.specs.Valid.{IsValid}
use Rattle.transyt_line_answers.specs.Commands.{budget_of}
use Rattle.transyt_moves.specs.Moves.{offset_moves, change_moves, node_moves, size_moves, sizes_of, moves, move, move_count, no_move}
use Rattle.transyt_sweep.specs.Climb.{least}
use Rattle.transyt_climb.specs.declared.turn.Turn.{Turn}
use Rattle.transyt_climb.specs.Way.{IsRound}
use Rattle.transyt_climb.proofs.TurnLaws.{by_answer, by_look}
use Rattle.transyt_climb.specs.Turns.{Counters, start_at, start_of, Machine, answer_of, turns, is_end}
use Rattle.transyt_desks.specs.Rounds.{is_took, up_to, turns_up_to, room_of, turns_of}
use Rattle.transyt_report.specs.Texts.{is_move}
use Rattle.transyt_reporter.specs.Conditions.{IsStep}
use Rattle.transyt_line_answers.proofs.StepLaws.{least_some}

-- moves of an offset or of a change
abbrev AreMoves : List Edit → Type 0
AreMoves [] = Unit {0}
AreMoves (e ∷ edits) = (is_move e ≡ true) × AreMoves edits

both : (xs ys : List Edit) → AreMoves xs → AreMoves ys → AreMoves (xs ++ ys)
both [] ys h k = k
both (x ∷ xs) ys h k = (h.0, both xs ys h.1 k)

each : {A : Type 0} (f : A → List Edit) → ((x : A) → AreMoves (f x)) → (xs : List A) → AreMoves (flat_map f xs)
each f h [] = tt
each f h (x ∷ xs) = both (f x) (flat_map f xs) (h x) (each f h xs)

of_node : (steps size : ℕ) (n : NodeValue) → AreMoves (node_moves steps size n)
of_node steps size n =
    both (offset_moves steps size n) (flat_map (change_moves steps size n) (range_with_len 0 (length n.stages)))
    (refl, (refl, tt))
    (each (change_moves steps size n) (λ k. (refl, (refl, tt))) (range_with_len 0 (length n.stages)))

all_moves : (net : Network) → AreMoves (moves net)
all_moves net =
    each (size_moves net.frame.step_count net.nodes)
    (λ size. each (node_moves net.frame.step_count size) (of_node net.frame.step_count size) net.nodes)
    (sizes_of net.plan)

at_place : (edits : List Edit) (place : ℕ) → AreMoves edits → is_move (slice_index_or edits place no_move) ≡ true
at_place [] place h = refl
at_place (e ∷ edits) zero h = h.0
at_place (e ∷ edits) (suc place) h = at_place edits place h.1

-- the move at a place
pub move_is : (net : Network) (place : ℕ) → is_move (move net place) ≡ true
unfolding move
move_is net place = at_place (moves net) place (all_moves net)

-- the answer of a turn is a step with such a move, or none
pub answer_steps : (m : Machine) → IsStep (answer_of m)
answer_steps m =
    by_answer m IsStep (λ gone. tt) (λ some spent. tt)
    (λ some left. by_look m IsStep (λ lower. move_is m.session.net m.counters.place) (λ higher. tt))

-- the last turn of a round is a step with such a move, or none
pub steps_round : (before after : Machine) (count : ℕ) (last : Turn) → IsRound before after count last → IsStep last
steps_round before after count last round = subst IsStep (sym round.last_is) (answer_steps (turns (count - 1) before))

-- at most so many turns
few_up_to : (test : ℕ → Bool) (n : ℕ) (o : Option ℕ) → least test n ≡ o → up_to o n ≤ n
few_up_to test n None is = omega arith
few_up_to test n (Some r) is = let below = (least_some test n r is).1 in omega (arith, below)

few_turns : (n : ℕ) (m : Machine) → turns_up_to n m ≤ n
unfolding turns_up_to
few_turns n m =
    few_up_to (λ r. is_took (answer_of (turns r m))) n (least (λ r. is_took (answer_of (turns r m))) n) refl

-- a climb plan's budget is at most 1,000,000
budget_at_most : (steps : ℕ) (o : Option PlanValue) → IfSome o (IsPlan steps) → budget_of o ≤ 1000000
budget_at_most steps None h = omega arith
budget_at_most steps (Some plan) h = let most = h.budget.1 in omega (arith, most)

-- and so that of a valid network
pub budget_small : (net : Network) → IsValid net → budget_of net.plan ≤ 1000000
budget_small net valid = budget_at_most net.frame.step_count net.plan valid.sound.plan

-- counters at the start by the climb plan
pub start_is : (net : Network) (o : Option PlanValue) (c : Counters) → Some c ≡ start_of net o
    → c ≡ start_at (budget_of o) (move_count net)
start_is net None c h = absurd (cc)
start_is net (Some plan) c h = cc

-- a round has no more turns than places may still be looked at, or one
pub turns_left : (m : Machine) (places : ℕ) {turns : ℕ} → turns ≡ turns_of places m
    → m.counters.looked ≤ m.counters.budget → m.counters.looked + turns ≤ m.counters.budget + 1
turns_left m places is inside =
    let up = few_turns (room_of places m.counters) m in
    let room : room_of places m.counters ≤ m.counters.budget - m.counters.looked = omega arith in
    let most = cond_both (is_end (answer_of m)) 1 (turns_up_to (room_of places m.counters) m)
    (λ n. m.counters.looked + n ≤ m.counters.budget + 1) (λ end. omega (arith, inside)) (λ on. omega (arith, up, room, inside)) in
    omega (arith, is, most)
