-- The worked networks, computed from the definitions.
use Rattle.std.proofs.Common.{◌≡◌, map, refl}
use Rattle.transyt_profile.specs.Platoon.{smoothed}
use Rattle.transyt_profile.specs.StopLine.{sum_back, greatest}
use Rattle.transyt_sweep.specs.Sweeps.{seen, out_of}
use Rattle.transyt_moves.specs.Moves.{move}
use Rattle.transyt_track.specs.Due.{differs, is_due, due_in, due_through, due, edit_work, work_of, cert_work}
use Rattle.transyt_track.specs.WorkedWork.{junctions, worked_edits, worked_looks, loop_of_three, fed_by_two}
use Rattle.transyt_track.specs.WorkedWork.{due_of_three}

-- each edit has the work that is written beside it
pub edits : map (λ row. edit_work junctions row.0) worked_edits ≡ map (λ row. row.1) worked_edits
unfolding sum_back greatest smoothed seen out_of differs due_in due_through due
edits = refl

-- a climb has the work of the places that it looks at
pub looks : work_of worked_looks ≡ 16
unfolding sum_back greatest smoothed seen out_of differs due_in due_through due move
looks = refl

-- the certificate of its twelve moves
pub certificate : cert_work junctions 12 ≡ 66
unfolding sum_back greatest smoothed seen out_of differs due_in due_through due move
certificate = refl

-- the third link of the loop is due at each sweep for itself, the second for the share that it has of it, and the first
-- at the last sweep, the first at which the departures of the second differ
pub loop_work : due (loop_of_three 360) (loop_of_three 3420) ≡ 7
unfolding sum_back greatest smoothed seen out_of differs due_in due_through due
loop_work = refl

-- departures of the second link differ, and the first is as it was
pub due_by_one : map (λ row. is_due (fed_by_two 1800) (fed_by_two 300) 1 row.0) due_of_three
    ≡ map (λ row. row.1) due_of_three
unfolding sum_back greatest smoothed seen out_of differs
due_by_one = refl
