-- Each turn puts a blank and a number of at most 39 digits.
use Rattle.std.proofs.Common.{ℕ, ◌∷◌, [], ◌++◌, length, ap, ◌∙◌, arith, length-append}
use Rattle.std.specs.Fmt.{decimal}
use Rattle.transyt_io.proofs.FormLaws.{values_more, values_end}
use Rattle.transyt_deck.proofs.card_line.put_list.Goals as goal

-- a blank and one number more are put
pub loop-number-preserved : goal.loop-number-preserved
loop-number-preserved c = record {
  text =
      values_more c.args.list.now c.loop-number.line c.put.new.self _ _ c.loop-number.number-index
      c.loop-number-test.true c.put.ensures
      (c.put_value.ensures.text ∙ ap (λ (k : ℕ). c.put.new.self ++ decimal k) c.from.ensures)
      c.loop-number.invariant.text;
  room =
      omega (
        arith,
        c.put_value.ensures.room,
        ap length c.put.ensures,
        length-append c.loop-number.line (32 ∷ []),
        c.loop-number.invariant.room,
      );
}

-- the numbers are at their end
pub returns-clause-text : goal.returns-clause-text
returns-clause-text c =
    values_end c.args.list.now c.loop-number.line _ c.loop-number.number-index c.loop-number-test.false
    c.loop-number.invariant.text
