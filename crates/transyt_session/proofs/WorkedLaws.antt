-- The worked session, computed from the definitions.
use Rattle.std.proofs.Common.{◌≡◌, ℕ, ◌+◌, Bool, true, false, None, nat_lt, if◌then◌else◌, map, refl, ap, arith}
use Rattle.std.proofs.lemmas.Bool.Decides.{nat_tests}
use Rattle.transyt_profile.specs.Platoon.{smoothed}
use Rattle.transyt_profile.specs.StopLine.{sum_back, greatest}
use Rattle.transyt_net.specs.declared.edit.Edit.TheVariants.{Offset}
use Rattle.transyt_sweep.specs.Sweeps.{seen, out_of, index}
use Rattle.transyt_track.specs.Due.{differs, due_in, due_through, due}
use Rattle.transyt_track.specs.WorkedWork.{junctions}
use Rattle.transyt_session.specs.declared.answers.Tried.TheVariants.{Index}
use Rattle.transyt_session.specs.Session.{SessionValue, edited, reply_to, tried_below, try_of, trial_of}
use Rattle.transyt_session.specs.WorkedSessions.{shifted, begun, in_trial, worked_replies}

-- an allowed edit in a trial
pub trial : edited (Offset 21 9) (trial_of begun) ≡ in_trial
unfolding sum_back greatest smoothed seen out_of differs due_in due_through due
trial = refl

-- the answer to each edit
pub replies : map (λ row. reply_to junctions row.0) worked_replies ≡ map (λ row. row.1) worked_replies
unfolding sum_back greatest smoothed seen out_of differs due_in due_through due
replies = refl

-- the find of a try
pub tried : try_of junctions (Offset 21 9) ≡ Index (index shifted) 6
unfolding sum_back greatest smoothed seen out_of differs due_in due_through due
tried = ap (Index (index shifted)) work
  where
    work : due junctions shifted ≡ 6
    work = refl

-- the session begun, with the offset made or not
begun_with : Bool → SessionValue
begun_with made = record { net = if made then shifted else junctions; before = None; work = 5 }

-- a try whose index is the bound leaves all as it is
pub at_bound : tried_below (index shifted) (Offset 21 9) begun ≡ begun
unfolding begun_with
at_bound = ap begun_with (same (index shifted))
  where
    same : (x : ℕ) → nat_lt x x ≡ false
    same x = grind (arith, nat_tests)

-- one whose index is below it is made, and the work stays
pub below_bound : tried_below (index shifted + 1) (Offset 21 9) begun ≡ record begun { net = shifted }
unfolding begun_with
below_bound = ap begun_with (less (index shifted))
  where
    less : (x : ℕ) → nat_lt x (x + 1) ≡ true
    less x = grind (arith, nat_tests)
