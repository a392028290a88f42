-- The worked turns, and the moves of the worked networks, computed from the definitions.
use Rattle.std.proofs.Common.{◌≡◌, ℕ, zero, suc, Bool, true, false, [], ◌∷◌, Option, Some, None, refl, sym, ap, ◌∙◌}
use Rattle.std.proofs.Common.{sum, if◌then◌else◌, arith, lit<, lit≤}
use Rattle.transyt_delay.specs.declared.figures.Figures.{Figures}
use Rattle.transyt_delay.specs.declared.terms.Terms.{Terms}
use Rattle.transyt_profile.specs.Platoon.{smoothed}
use Rattle.transyt_profile.specs.StopLine.{sum_back, greatest}
use Rattle.transyt_net.specs.declared.edit.Edit.TheVariants.{Offset, Change}
use Rattle.transyt_net.specs.Edits.{with_edit}
use Rattle.transyt_parts.specs.Made.{new_weights}
use Rattle.transyt_net.specs.Parts.{Network}
use Rattle.transyt_moves.specs.Moves.{move, move_count}
use Rattle.transyt_stage.specs.ThreeJunctions.{three_junctions}
use Rattle.transyt_sweep.specs.Cell.{terms_frame}
use Rattle.transyt_sweep.specs.Sweeps.{seen, out_of, evaluated, index}
use Rattle.transyt_sweep.specs.Climb.{tried_at, is_below, lowers, moved}
use Rattle.transyt_sweep.specs.WorkedLinks.{new_figures}
use Rattle.transyt_sweep.proofs.WorkedFigures.{figures_by_root}
use Rattle.transyt_sweep.proofs.WorkedMove.{tried_first, lowers_first}
use Rattle.transyt_track.specs.Due.{differs, due_in, due_through, due}
use Rattle.transyt_climb.specs.declared.turn.Turn.TheVariants.{Took, Passed}
use Rattle.transyt_climb.specs.Turns.{machine, answer_of, look_answer, found_at, turns, certified}
use Rattle.transyt_climb.specs.Way.{IsLocal}
use Rattle.transyt_climb.specs.WorkedTurns.{idle, idle_session, junctions_session, way, three_session, before_step, by_last}

-- three turns, round the end of the list
pub three : turns 3 (way 9) ≡ machine (record { place = 1; since = 4; looked = 6; budget = 9; count = 6 }) idle_session
unfolding move_count move tried_at lowers moved due due_through due_in
three = refl

-- a certified place
pub certificate : certified 0 junctions_session ≡ record junctions_session { work = 11 }
unfolding sum_back greatest smoothed seen out_of differs due_in due_through due move
certificate = refl

-- the three junctions after their first move
abbrev after_move : Network
after_move = with_edit three_junctions (Offset 21 8)

-- the number that is there, if there is one
abbrev number_of : Option ℕ → ℕ
number_of None = 0
number_of (Some n) = n

-- the index after that move
pub index_after : index after_move ≡ 554272112
unfolding tried_at move
index_after = ap number_of tried_first

-- a look at the first place takes it
pub look_first : look_answer three_junctions 0 ≡ Took 0 (Offset 21 8) 554272112
unfolding move moved
look_first =
    ap (λ (b : Bool). if b then Took 0 (Offset 21 8) (index after_move) else Passed) lowers_first
    ∙ ap (Took 0 (Offset 21 8)) index_after

-- and so does a turn there
pub took : answer_of (machine before_step three_session) ≡ Took 0 (Offset 21 8) 554272112
took = look_first

-- an equal index isn't lower
pub tied : found_at idle 0 ≡ None
unfolding move tried_at lowers moved
tied = refl

-- no move of a network without links lowers
pub local : IsLocal idle
unfolding move_count move tried_at lowers
local zero less = refl
local (suc zero) less = refl
local (suc (suc zero)) less = refl
local (suc (suc (suc zero))) less = refl
local (suc (suc (suc (suc zero)))) less = refl
local (suc (suc (suc (suc (suc zero))))) less = refl
local (suc (suc (suc (suc (suc (suc k)))))) less = absurd (omega (arith, less))

-- the terms of the other network's link, of these sums
abbrev pub its_terms : ℕ → ℕ → ℕ → ℕ → Terms
its_terms arrivals room queued stopped = record {
  arrivals = arrivals;
  room = room;
  queued = queued;
  stopped = stopped;
  frame = terms_frame by_last.frame;
  weights = new_weights 3 2;
}

-- the network after its last move
abbrev pub after_last : Network
after_last = with_edit by_last (Change 21 3 8)

-- the figures before that move and after it
figures_before : (evaluated by_last 0).figures ≡ new_figures 365997 106712 13555 1445237
unfolding sum_back greatest smoothed seen out_of evaluated
figures_before = figures_by_root (its_terms 1016660 5776666 3659976 813328) 286027208 (lit≤ tt) (lit< tt)

figures_after : (evaluated after_last 0).figures ≡ new_figures 284664 66443 11861 1077043
unfolding sum_back greatest smoothed seen out_of evaluated
figures_after = figures_by_root (its_terms 1016660 8664999 2846648 711662) 459166114 (lit≤ tt) (lit< tt)

-- the indexes
pub index_before : index by_last ≡ 1445237
index_before = ap (λ (f : Figures). sum (f.index ∷ [])) figures_before

pub index_last : index after_last ≡ 1077043
index_last = ap (λ (f : Figures). sum (f.index ∷ [])) figures_after

-- so it lowers the index
tried_last : tried_at by_last 7 ≡ Some 1077043
unfolding tried_at move
tried_last = ap Some index_last

lowers_last : lowers by_last 7 ≡ true
unfolding lowers
lowers_last = λ j. is_below (index_before j) (tried_last j)

pub not_local : IsLocal by_last → ⊥
unfolding move_count
not_local is = let both : true ≡ false = sym lowers_last ∙ is 7 (lit< tt) in cc
