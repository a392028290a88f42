-- The finding on a given line, the verdict on lines of which none was wrong, and the steps of the moves to come.
-- No public clause cites this.
use Rattle.std.specs.Prelude.{ℕ, ◌-◌, ◌*◌, Bool, true, false, ◌&&◌, nat_le, nat_lt, List, [], length}
use Rattle.std.specs.Prelude.{Option, Some, None, slice_index_or, if◌then◌else◌}
use Rattle.transyt_syntax.specs.declared.code.Code.TheVariants as code
use Rattle.transyt_net.specs.Parts.{Network}
use Rattle.transyt_moves.specs.Moves.{move_count}
use Rattle.transyt_sweep.specs.Sweeps.{index}
use Rattle.transyt_sweep.specs.Climb.{lowers}
use Rattle.transyt_audit.specs.Certificate.{cert_texts}
use Rattle.transyt_audit.specs.declared.truth.Finding.{Finding}
use Rattle.transyt_audit.specs.declared.truth.Finding.TheVariants.{Wrong, Right, Lower}
use Rattle.transyt_audit.specs.Verdict.{agrees, Verdict, Yes, no_or}

-- the finding on a line that agrees with the true one or not, where a move stands that lowers the index or not
abbrev pub finding_of : Bool → Bool → Finding
finding_of false lower = Wrong
finding_of true false = Right
finding_of true true = Lower

-- the finding on a line at a place; the last true line stands at the place after the list of moves, and none after it
abbrev pub finding_at : Network → ℕ → List ℕ → Finding
finding_at net place line =
    if nat_lt (move_count net) place then Wrong
    else finding_of (agrees line (slice_index_or (cert_texts net) place []))
    (nat_lt place (move_count net) && lowers net place)

-- the find of so many lines of which none was wrong, `next` being the number of the line after the table's last
abbrev pub concluded : Network → ℕ → ℕ → Option ℕ → Verdict
concluded net given next lower =
    no_or (if nat_le given (move_count net) then Some next else None) code.OtherLine
    (no_or lower code.LowerIndex (Yes (move_count net) (index net)))

-- the steps of the moves from a place on: an evaluation each
abbrev pub steps_from : Network → ℕ → ℕ
steps_from net place = net.frame.sweeps * length net.links * (move_count net - place)
