-- A look at a place is a look at the move there.
use Rattle.std.proofs.Common.{◌≡◌, ℕ, Bool, true, false, refl, if◌then◌else◌}
use Rattle.transyt_net.specs.Parts.{Network}
use Rattle.transyt_moves.specs.Moves.{move, move_count}
use Rattle.transyt_net.specs.EditFaults.{edit_fault}
use Rattle.transyt_sweep.specs.Sweeps.{index}
use Rattle.transyt_sweep.specs.Climb.{lowers, moved, is_below, index_with, tried_at}
use Rattle.transyt_session.specs.Session.{SessionValue, edit_lowers}
use Rattle.transyt_climb.specs.Turns.{looked_at}
use Rattle.transyt_climb.proofs.CountLaws.{count_moved}

-- the meaning of a move at a place that lowers the index
pub lowers_is : (net : Network) (place : ℕ)
    → lowers net place ≡ is_below (index net) (index_with net (move net place) (edit_fault net (move net place)))
unfolding lowers tried_at
lowers_is net place = refl

-- a look keeps the number of moves
pub count_looked : (place : ℕ) (s : SessionValue) → move_count (looked_at place s).net ≡ move_count s.net
unfolding moved
count_looked place s = by (edit_lowers s.net (move s.net place))
  where
    by : (b : Bool) → move_count (if b then moved s.net place else s.net) ≡ move_count s.net
    by true = count_moved s.net place
    by false = refl
