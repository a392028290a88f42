-- The worked tries, computed from the definitions.
use Rattle.std.proofs.Common.{◌≡◌, ◌+◌, ◌<◌, ◌≤◌, ℕ, zero, suc, slice_index_or, refl, ◌∙◌, arith, lit<, lit≤}
use Rattle.transyt_moves.specs.Moves.{move}
use Rattle.transyt_track.specs.Due.{due_in, due_through, due, edit_work}
use Rattle.transyt_session.specs.declared.answers.Tried.{Tried}
use Rattle.transyt_session.specs.declared.answers.Tried.TheVariants.{Barred, Index}
use Rattle.transyt_session.specs.Session.{try_of}
use Rattle.transyt_climb.specs.WorkedTurns.{idle}
use Rattle.transyt_desks.specs.Stretches.{AreTriesOf}
use Rattle.transyt_desks.specs.WorkedDesks.{idle_tries}

-- each try
try_is : (k : ℕ) (d : Tried) → k < 4 → slice_index_or idle_tries k d ≡ try_of idle (move idle (2 + k))
unfolding move due due_through due_in
try_is zero d less = refl
try_is (suc zero) d less = refl
try_is (suc (suc zero)) d less = refl
try_is (suc (suc (suc zero))) d less = refl
try_is (suc (suc (suc (suc k)))) d less = absurd (omega (arith, less))

-- and its work
work_few : (k : ℕ) → k < 4 → edit_work idle (move idle (2 + k)) ≤ 8000
unfolding move due due_through due_in
work_few zero less = lit≤ tt
work_few (suc zero) less = lit≤ tt
work_few (suc (suc zero)) less = lit≤ tt
work_few (suc (suc (suc zero))) less = lit≤ tt
work_few (suc (suc (suc (suc k)))) less = absurd (omega (arith, less))

pub tries : AreTriesOf idle 2 4 idle_tries
tries = record { each = try_is; few = work_few }

-- the second move is allowed
second_is : try_of idle (move idle 1) ≡ Index 0 0
unfolding move due due_through due_in
second_is = refl

pub not_earlier : AreTriesOf idle 1 4 idle_tries → ⊥
not_earlier are = let both : Barred ≡ Index 0 0 = are.each 0 Barred (lit< tt) ∙ second_is in cc
