-- The texts of the parts before one, then its own, are those up to it; a text that broke off is a front of all.
use Rattle.std.proofs.Common.{arith}
use Rattle.transyt_io.proofs.LoopLaws.{place_printed, place_broken, places_printed}
use Rattle.transyt_io.proofs.parts.print_parts.Goals as goal

-- one more is written
pub loop-place-preserved : goal.loop-place-preserved
loop-place-preserved g c =
    place_printed (g.P.Parts.text c.args.parts.now) (g.P.Parts.number c.args.parts.now) c.loop-place.place _ _ _
    (omega (arith, c.loop-place-test.true, c.count-place-end.ensures)) c.loop-place.invariant c.in_ok-print.ensures

-- the text broke off in this one
pub returns-in_err-print : goal.returns-in_err-print
returns-in_err-print g c =
    place_broken _ (tt {0}) (g.P.Parts.text c.args.parts.now) (g.P.Parts.number c.args.parts.now) c.loop-place.place
    _ _ _ c.from_residual.ensures.0 (omega (arith, c.loop-place-test.true, c.count-place-end.ensures)) c.loop-place.invariant
    c.in_err-print.ensures

-- all are written
pub returns : goal.returns
returns g c =
    places_printed (tt {0}) (g.P.Parts.text c.args.parts.now) (g.P.Parts.number c.args.parts.now) c.loop-place.place _ _
    (omega (arith, c.loop-place-test.false, c.count-place-end.ensures)) c.loop-place.invariant
