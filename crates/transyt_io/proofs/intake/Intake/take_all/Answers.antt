-- A stop leaves the bytes taken before, and those of the last read.
use Rattle.std.proofs.Common.{◌≡◌, ◌≤◌, ◌++◌, ℕ, List, length, ap, arith, length-append}
use Rattle.std.proofs.lemmas.Result.{err_from_is_err_and}
use Rattle.transyt_io.specs.declared.reader.ReadStop.{ReadStop}
use Rattle.transyt_io.specs.declared.reader.ReadStop.TheVariants.{Fault, TooLong}
use Rattle.transyt_io.specs.Gather.{StopsAfter}
use Rattle.transyt_io.specs.Streams.{StopTakes}
use Rattle.transyt_io.proofs.Told.{takes_both}
use Rattle.transyt_io.proofs.intake.Intake.take_all.Goals as goal

-- the bytes of a stop
stop_takes : (bytes piece : List ℕ) (taken : ℕ) (stop : ReadStop) → taken ≡ length bytes → taken ≤ 4194304
    → StopsAfter taken piece stop → StopTakes (bytes ++ piece) stop
stop_takes bytes piece taken Fault all most nothing = omega (arith, length-append bytes piece, ap length nothing)
stop_takes bytes piece taken TooLong all most (full, one) = omega (arith, length-append bytes piece)

pub returns-in_err-n-clause-all : goal.returns-in_err-n-clause-all
returns-in_err-n-clause-all g c =
    let bytes = c.loop-n.self-inside.bytes.items in
    let p = err_from_is_err_and c.from_residual.result c.from_residual.ensures.1 in
    rw (p.1, p.2) (record {
      taken = bytes ++ c.read.new.self;
      takes = takes_both _ _ _ bytes c.read.new.self c.loop-n.invariant.takes c.in_err-n.ensures.gives.takes;
      says = stop_takes bytes c.read.new.self _ _ (omega arith) (omega arith) c.in_err-n.ensures.stop;
    })
