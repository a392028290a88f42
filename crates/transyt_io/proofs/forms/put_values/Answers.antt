-- Each value puts a blank and its digits; so the line with the values to come stays the whole.
use Rattle.std.proofs.Common.{ℕ, ◌∷◌, [], ◌++◌, length, ap, ◌∙◌, arith, length-append}
use Rattle.std.specs.Fmt.{decimal}
use Rattle.transyt_io.proofs.FormLaws.{values_more, values_end}
use Rattle.transyt_io.proofs.forms.put_values.Goals as goal

-- a blank and one value more are put
pub loop-value-preserved : goal.loop-value-preserved
loop-value-preserved c = record {
  text =
      values_more c.args.values.now c.loop-value.line c.put.new.self _ _ c.loop-value.value-index c.loop-value-test.true
      c.put.ensures (c.put_value.ensures.text ∙ ap (λ (k : ℕ). c.put.new.self ++ decimal k) c.from.ensures)
      c.loop-value.invariant.text;
  room =
      omega (
        arith,
        c.put_value.ensures.short (omega (arith, c.from.ensures, c.type_inv.values c.loop-value.value-index)),
        ap length c.put.ensures,
        length-append c.loop-value.line (32 ∷ []),
        c.loop-value.invariant.room,
      );
}

-- the values are at their end
pub returns-clause-text : goal.returns-clause-text
returns-clause-text c =
    values_end c.args.values.now c.loop-value.line _ c.loop-value.value-index c.loop-value-test.false
    c.loop-value.invariant.text
