-- The reader takes line by line, so the deck of its lines and of the rest is the deck of all.
use Rattle.std.proofs.Common.{◌≡◌, ◌≤◌, length, true, Result, Ok, sym, ◌∙◌, ap, subst, IfOk, arith}
use Rattle.transyt_deck.specs.declared.reader.CardStop.{CardStop}
use Rattle.transyt_deck.specs.declared.cut.Cut.{Cut}
use Rattle.transyt_deck.specs.declared.reader.Progress.{Progress}
use Rattle.transyt_deck.specs.Deck.{Answers, goes_on, cut_of, is_complete, is_open, line_count, next}
use Rattle.transyt_deck.proofs.Cutting.{cut_complete, line_within, ok_of, refuses_by, takes_one}
use Rattle.transyt_deck.proofs.cut.cut_deck.Goals as goal

-- the line is refused, and so are the bytes
pub returns-in-Err-clause-refused : goal.returns-in-Err-clause-refused
returns-in-Err-clause-refused c =
    refuses_by _ _ c.in-Some.after.now _ _ c.in-Err.stop c.loop-line.invariant.taken c.in-Some.ensures.line c.in-Err.ensures.answer

-- the reader has taken one line more
pub loop-line-preserved : goal.loop-line-preserved
loop-line-preserved c =
    let i = c.loop-line.invariant in
    let taken = c.in-Ok-More.ensures.taken in
    let going : is_open (next c.loop-line.reader.deck c.in-Some.line.now) ≡ true =
    subst (λ (p : Progress). Answers (next c.loop-line.reader.deck c.in-Some.line.now) (Ok p)) c.in-Ok-More.field-0-is
    c.in-Ok-More.ensures.answer in
    record {
      live = c.in-Ok-More.ensures.live ∙ ap (λ (p : Progress). goes_on (Ok p)) c.in-Ok-More.field-0-is;
      unended = ap is_open taken ∙ going;
      taken = takes_one _ _ _ _ _ _ i.taken i.unended taken c.in-Some.ensures.line c.in-Some.ensures.less
          c.in-Some.ensures.rest;
    }

-- END is accepted, so that the cut is here
pub returns-in-Ok-Complete-clause-cut : goal.returns-in-Ok-Complete-clause-cut
returns-in-Ok-Complete-clause-cut c =
    let i = c.loop-line.invariant in
    let taken = c.in-Ok-Complete.ensures.taken in
    let h = takes_one _ _ _ _ _ _ i.taken i.unended taken c.in-Some.ensures.line c.in-Some.ensures.less
    c.in-Some.ensures.rest in
    let ended : is_complete (next c.loop-line.reader.deck c.in-Some.line.now) ≡ true =
    subst (λ (p : Progress). Answers (next c.loop-line.reader.deck c.in-Some.line.now) (Ok p)) c.in-Ok-Complete.field-0-is
    c.in-Ok-Complete.ensures.answer in
    ok_of (cut_of c.args.input.now) c.close.result
    (cut_complete _ _ _ h (ap is_complete taken ∙ ended) ∙ sym c.close.ensures)

-- and END's line is among the lines
pub returns-in-Ok-Complete-clause-line : goal.returns-in-Ok-Complete-clause-line
returns-in-Ok-Complete-clause-line c =
    let i = c.loop-line.invariant in
    let h = takes_one _ _ _ _ _ _ i.taken i.unended c.in-Ok-Complete.ensures.taken c.in-Some.ensures.line
    c.in-Some.ensures.less c.in-Some.ensures.rest in
    let low : line_count c.take.new.self.deck ≤ length c.args.input.now = omega (arith, h.few) in
    subst (λ (r : Result Cut CardStop). IfOk r (λ cut. cut.line ≤ length c.args.input.now)) (sym c.close.ensures)
    (line_within c.take.new.self.deck _ _ low)
