-- The desks so far stand for the network.
use Rattle.std.proofs.Common.{◌≡◌, ◌<◌, ℕ}
use Rattle.transyt_desks.specs.Desks.{session_at, sessions_of}
use Rattle.transyt_desks.proofs.desk.all_stand.Given as goal

-- each of them
abbrev pub invariant-loop-i : goal.invariant-loop-i
invariant-loop-i l = (k : ℕ) → k < l.i → (session_at (sessions_of l.desks) k).net ≡ l.net
