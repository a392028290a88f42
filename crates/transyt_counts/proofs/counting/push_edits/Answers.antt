-- One entry more, and the first whose flow is too great.
use Rattle.std.proofs.Common.{◌≡◌, ◌∙◌, ℕ, true, false, Some, sym, ap, rules, slice_get, List, arith}
use Rattle.std.specs.Result.{is_ok}
use Rattle.transyt_counts.specs.declared.key.Key.{Key}
use Rattle.transyt_counts.specs.declared.tally.Totals.{Totals}
use Rattle.transyt_counts.specs.Counts.{answer_for, AreCounted}
use Rattle.transyt_counts.proofs.EntryLaws.{is_too_great, edit_by, find_skip, find_hit, map_take, one_of, all_passed, great_by, small_by}
use Rattle.transyt_counts.proofs.counting.push_edits.Goals as goal

pub returns-then-flow-gt9999-clause-refused : goal.returns-then-flow-gt9999-clause-refused
returns-then-flow-gt9999-clause-refused c =
    let es : List (Key × Totals) = c.args.tally.now.entries in
    let e : Key × Totals = (c.in-Some.key.now, c.in-Some.totals.now) in
    let great : is_too_great e ≡ true = great_by _ e c.flow_by-flow.ensures c.if-flow-gt9999.true in
    ap (answer_for c.args.rows es)
    (sym c.loop-place.invariant.passed ∙ find_hit es c.loop-place.place e (sym c.in-Some.ensures.entry) is_too_great great)

pub loop-place-preserved : goal.loop-place-preserved
loop-place-preserved c =
    let es : List (Key × Totals) = c.args.tally.now.entries in
    let p : ℕ = c.loop-place.place in
    let e : Key × Totals = (c.in-Some.key.now, c.in-Some.totals.now) in
    let at : slice_get es p ≡ Some e = sym c.in-Some.ensures.entry in
    let good : is_ok c.push.result ≡ true = search rules in
    let small : is_too_great e ≡ false = small_by _ e c.flow_by-flow.ensures c.if-flow-gt9999.false in
    record {
      edits = rw (rw good at c.push.ensures.items, c.loop-place.invariant.edits, c.edit.ensures, c.flow_by-flow.ensures)
          (sym (map_take es p e at edit_by));
      passed = find_skip es p e at is_too_great small ∙ c.loop-place.invariant.passed;
    }

pub flow_by-flow-requires : goal.flow_by-flow-requires
flow_by-flow-requires c =
    one_of _ _ (c.in-Some.key.now, c.in-Some.totals.now) (sym c.in-Some.ensures.entry) (λ e. AreCounted e.1) c.requires.counted

pub overflow_cast-flow : goal.overflow_cast-flow
overflow_cast-flow c = omega (arith, c.if-flow-gt9999.false)

pub returns-clause-counts : goal.returns-clause-counts
returns-clause-counts c =
    all_passed _ _ _ _ (omega (arith, c.loop-place-test.false)) c.loop-place.invariant.edits c.loop-place.invariant.passed
