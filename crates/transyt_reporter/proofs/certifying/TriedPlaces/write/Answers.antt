-- The line of one place more is written, or broke off.
use Rattle.std.proofs.Common.{◌+◌, sym, arith, length}
use Rattle.std.specs.List.{range_with_len}
use Rattle.std.proofs.lemmas.List.FromFn.{length-range_with_len, get_or-range_with_len}
use Rattle.transyt_io.proofs.LoopLaws.{printed_nothing, item_printed, item_broken, items_printed}
use Rattle.transyt_audit.specs.Certificate.{place_text}
use Rattle.transyt_reporter.proofs.certifying.TriedPlaces.write.Goals as goal

-- no line is written yet
pub loop-number-init : goal.loop-number-init
loop-number-init g c = printed_nothing _ _

-- the find at the place
pub write_cert_place-requires-clause-tried : goal.write_cert_place-requires-clause-tried
write_cert_place-requires-clause-tried g c = c.args.self.now.tried.each c.loop-number.number _ (omega arith)

-- the line of a place is written
pub loop-number-preserved : goal.loop-number-preserved
loop-number-preserved g c =
    let k = c.loop-number.number in
    let from = c.args.self.now.from in
    let count = length c.args.self.now.tries.now in
    item_printed (place_text c.args.self.now.session.now.net) (range_with_len from count) k 0 (from + k) _ _ _
    (omega (arith, length-range_with_len from count)) (sym (get_or-range_with_len from count k 0 (omega arith)))
    c.loop-number.invariant c.in_ok-write_cert_place.ensures

-- or it broke off
pub returns-in_err-write_cert_place : goal.returns-in_err-write_cert_place
returns-in_err-write_cert_place g c =
    let k = c.loop-number.number in
    let from = c.args.self.now.from in
    let count = length c.args.self.now.tries.now in
    item_broken _ (tt {0}) (place_text c.args.self.now.session.now.net) (range_with_len from count) k 0 (from + k) _ _ _
    c.from_residual.ensures.0 (omega (arith, length-range_with_len from count))
    (sym (get_or-range_with_len from count k 0 (omega arith))) c.loop-number.invariant c.in_err-write_cert_place.ensures

-- all lines are written
pub returns : goal.returns
returns g c =
    let from = c.args.self.now.from in
    let count = length c.args.self.now.tries.now in
    items_printed (tt {0}) (place_text c.args.self.now.session.now.net) (range_with_len from count) c.loop-number.number _ _
    (omega (arith, length-range_with_len from count)) c.loop-number.invariant
