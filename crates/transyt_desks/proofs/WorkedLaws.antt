-- The worked rounds, computed from the definitions.
use Rattle.std.proofs.Common.{◌≡◌, ◌<◌, ◌+◌, ℕ, zero, suc, map, refl, ap, ◌∙◌, arith}
use Rattle.std.proofs.Common.{Some, if◌then◌else◌}
use Rattle.std.specs.Option.{option_map}
use Rattle.transyt_moves.specs.Moves.{move_count, move}
use Rattle.transyt_sweep.specs.Climb.{tried_at, lowers, moved, least}
use Rattle.transyt_track.specs.Due.{due_in, due_through, due}
use Rattle.transyt_desks.specs.Desks.{AreAligned, desk_zero, session_at}
use Rattle.transyt_climb.specs.declared.turn.Turn.{Turn}
use Rattle.transyt_climb.specs.declared.turn.Turn.TheVariants.{Passed}
use Rattle.transyt_climb.specs.Turns.{Machine, machine, answer_of, is_end, turned, turns}
use Rattle.transyt_climb.specs.WorkedTurns.{three_session}
use Rattle.transyt_climb.proofs.WorkedLaws.{look_first}
use Rattle.transyt_desks.specs.Rounds.{is_took, turns_of, turns_up_to, up_to}
use Rattle.transyt_desks.specs.WorkedDesks.{seven_left}
use Rattle.transyt_desks.specs.WorkedRounds.{three_desks, worked_rounds}

-- each round is as long as it is written
pub rounds : map (λ row. turns_of row.0 row.1) worked_rounds ≡ map (λ row. row.2) worked_rounds
unfolding turns_up_to move_count move tried_at lowers moved due due_through due_in
rounds = refl

-- the desks stand for one network
same_at : (k : ℕ) → k < 3 → (session_at three_desks k).net ≡ (desk_zero three_desks).net
same_at zero below = refl
same_at (suc zero) below = refl
same_at (suc (suc zero)) below = refl
same_at (suc (suc (suc k))) below = absurd (omega (arith, below))

pub are_aligned : AreAligned three_desks
are_aligned = record { same = same_at }

-- the last move is barred
last_passes : answer_of seven_left ≡ Passed
unfolding move tried_at lowers
last_passes = refl

-- a climber after that turn
abbrev six_left : Machine
six_left = machine (record { place = 0; since = 2; looked = 3; budget = 9; count = 72 }) three_session

last_passed : turned seven_left ≡ six_left
unfolding move tried_at lowers
last_passed = refl

-- so a round is two turns, of which the second takes a step
pub step_round : turns_of 8 seven_left ≡ 2
unfolding turns_up_to
step_round =
    ap (λ (a : Turn). if is_end a then 1
    else up_to (if is_took a then Some 0
    else option_map (λ r. r + 1) (least (λ r. is_took (answer_of (turns (r + 1) seven_left))) 6)) 7) last_passes
    ∙ ap (λ (m : Machine). up_to (option_map (λ r. r + 1) (if is_took (answer_of m) then Some 0
    else option_map (λ r. r + 1) (least (λ r. is_took (answer_of (turns (r + 1 + 1) seven_left))) 5))) 7) last_passed
    ∙ ap (λ (a : Turn). up_to (option_map (λ r. r + 1) (if is_took a then Some 0
    else option_map (λ r. r + 1) (least (λ r. is_took (answer_of (turns (r + 1 + 1) seven_left))) 5))) 7) look_first
