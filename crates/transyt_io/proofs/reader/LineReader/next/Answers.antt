-- A line ends in the bytes held or in a piece read after them, or with the source; else the call reads on.
use Rattle.std.proofs.Common.{◌∙◌, refl, sym, ap, Some, arith, inl}
use Rattle.std.proofs.lemmas.Result.{err_from_is_err_and}
use Rattle.transyt_io.proofs.Reading.{not_both}
use Rattle.transyt_io.proofs.Searching.{searches_held, searches_piece, goes_on, no_line_held, reads_over, reads_line}
use Rattle.transyt_io.proofs.Searching.{fewer, reads_stop, reads_end, reads_last, fewer_last}
use Rattle.transyt_io.proofs.reader.LineReader.next.Goals as goal

-- the source had ended before this call
pub returns-then-self-clause-reads : goal.returns-then-self-clause-reads
returns-then-self-clause-reads g c =
    let over = c.if-self.true in
    rw (← c.self.view_is) (reads_over _ _ _ _ over (c.self.invariant.none over) c.self.invariant.most)

-- the bytes held are searched first
pub loop-self-init : goal.loop-self-init
loop-self-init g c = record {
  searches = rw (c.clear.ensures, ← c.self.view_is) (searches_held _ _ _ c.if-self.false c.self.invariant.most);
  quiet = (c.if-self.false, refl, refl);
  unread = λ _. refl;
  later = omega arith;
}

-- and then each piece
pub loop-self-preserved : goal.loop-self-preserved
loop-self-preserved g c =
    let so_far = c.loop-self.invariant in
    let read = c.in_ok-n.ensures in
    let goes = goes_on so_far.searches _ (c.gather.ensures.goes_on c.loop-self-test.true) in record {
      searches = rw read.count (searches_piece goes read.gives _ (omega (arith, read.count, read.most)));
      quiet = so_far.quiet;
      unread = λ ends. no_line_held goes (inl ends);
      later = omega (arith, read.later);
    }

-- a line ended
pub returns-clause-reads : goal.returns-clause-reads
returns-clause-reads g c =
    reads_line c.loop-self.invariant.searches _ _ _ (c.gather.ensures.ends c.loop-self-test.false)
    c.loop-self.invariant.quiet.0 (λ over. not_both over refl) refl refl

pub returns-clause-less : goal.returns-clause-less
returns-clause-less g c _ =
    fewer c.loop-self.invariant.searches _ _ _ (c.gather.ensures.ends c.loop-self-test.false)

-- the source failed, or one byte too many came
pub returns-in_err-n-clause-reads : goal.returns-in_err-n-clause-reads
returns-in_err-n-clause-reads g c =
    let goes = goes_on c.loop-self.invariant.searches _ (c.gather.ensures.goes_on c.loop-self-test.true) in
    let p = err_from_is_err_and c.from_residual.result c.from_residual.ensures.1 in
    rw (p.1, p.2) (reads_stop goes c.in_err-n.ensures.gives _ _ _ c.in_err-n.ensures.stop)

-- the source ended after a last line
pub returns-then-close_last-clause-reads : goal.returns-then-close_last-clause-reads
returns-then-close_last-clause-reads g c =
    let goes = goes_on c.loop-self.invariant.searches _ (c.gather.ensures.goes_on c.loop-self-test.true) in
    reads_last goes c.in_ok-n.ensures.gives (sym c.in_ok-n.ensures.count ∙ c.if-n-eq0.true)
    (c.close_last.ensures.some c.if-close_last.true) _ _ (c.in_ok-n.ensures.none c.if-n-eq0.true) refl refl
    (ap Some c.close_last.ensures.line) refl

pub returns-then-close_last-clause-less : goal.returns-then-close_last-clause-less
returns-then-close_last-clause-less g c _ =
    let goes = goes_on c.loop-self.invariant.searches _ (c.gather.ensures.goes_on c.loop-self-test.true) in
    fewer_last goes c.in_ok-n.ensures.gives (sym c.in_ok-n.ensures.count ∙ c.if-n-eq0.true)
    (c.close_last.ensures.some c.if-close_last.true)

-- the source ended and no line is left
pub returns-then-n-eq0-clause-reads : goal.returns-then-n-eq0-clause-reads
returns-then-n-eq0-clause-reads g c =
    let goes = goes_on c.loop-self.invariant.searches _ (c.gather.ensures.goes_on c.loop-self-test.true) in
    reads_end goes c.in_ok-n.ensures.gives (sym c.in_ok-n.ensures.count ∙ c.if-n-eq0.true) _ _
    (c.in_ok-n.ensures.none c.if-n-eq0.true) (c.close_last.ensures.none c.if-close_last.false)

-- no other answer is a line
pub returns-then-self-clause-less : goal.returns-then-self-clause-less
returns-then-self-clause-less g c text = not_both text refl

pub returns-then-n-eq0-clause-less : goal.returns-then-n-eq0-clause-less
returns-then-n-eq0-clause-less g c text = not_both text refl
