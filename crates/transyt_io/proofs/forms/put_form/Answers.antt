-- A byte of the form puts itself, or the next number where it is `#`; so the line with the filled rest stays the
-- whole.
use Rattle.std.proofs.Common.{drop, arith}
use Rattle.transyt_io.proofs.FormLaws.{form_more, form_end}
use Rattle.transyt_io.proofs.forms.put_form.Goals as goal

-- the bytes for one byte more are put
pub loop-byte-preserved : goal.loop-byte-preserved
loop-byte-preserved c =
    let numbers = c.args.numbers.now in
    record {
      text =
          form_more c.args.form.now (drop c.loop-byte.used numbers) (drop c.put_piece-used.result numbers)
          c.loop-byte.line _ _ c.loop-byte.byte-index c.loop-byte-test.true c.put_piece-used.ensures.left
          c.put_piece-used.ensures.text c.loop-byte.invariant.text;
      used = c.put_piece-used.ensures.used;
      room = omega (arith, c.loop-byte.invariant.room, c.put_piece-used.ensures.room);
    }

-- the form is at its end
pub returns-clause-text : goal.returns-clause-text
returns-clause-text c =
    form_end c.args.form.now (drop c.loop-byte.used c.args.numbers.now) c.loop-byte.line _ c.loop-byte.byte-index
    c.loop-byte-test.false c.loop-byte.invariant.text
