-- A piece without a line end only lengthens the line; one with it ends the line at the first.
use Rattle.std.proofs.Common.{◌≡◌, ◌∙◌, ◌+◌, ◌++◌, ℕ, List, false, take, drop, slice_index, sym, ap, arith}
use Rattle.std.proofs.lemmas.Bool.{eqb-true}
use Rattle.transyt_io.specs.Lines.{line_of, has_end}
use Rattle.transyt_io.proofs.Lines.{no_end_in, no_end_more, kept_more, line_of_kept, first_line}
use Rattle.transyt_io.proofs.gather.KeptLine.gather.Goals as goal

-- a piece with no line end belongs to the line
pub returns-in_default-clause-goes_on : goal.returns-in_default-clause-goes_on
returns-in_default-clause-goes_on c _ raw h =
    let piece = c.bytes-piece.result.now in
    let none : has_end piece ≡ false =
    no_end_in piece (λ k below. (rw c.in_default.is at c.memchr.ensures) k (omega arith) below) in
    rw (← c.bytes-piece.ensures) (record {
      first = c.keep.ensures ∙ ap (λ (xs : List ℕ). take 4098 (xs ++ piece)) h.first ∙ kept_more 4098 raw piece;
      open_yet = no_end_more raw piece h.open_yet none;
    })

-- the line ends at the first line end of the piece
pub returns-clause-ends : goal.returns-clause-ends
returns-clause-ends c _ raw h =
    let piece = c.bytes-piece.result.now in
    let at = c.in-Some.at in
    let found = c.in-Some.ensures in
    let here : slice_index piece at ≡ 10 = eqb-true (slice_index piece at) 10 found.1 in
    let line : c.close.new.self ≡ line_of (raw ++ take at piece) =
    c.close.ensures
    ∙ ap line_of (c.keep-2.ensures ∙ ap (λ (xs : List ℕ). take 4098 (xs ++ take at piece)) h.first
    ∙ kept_more 4098 raw (take at piece))
    ∙ line_of_kept (raw ++ take at piece) in
    let rest : c.skip.new.self ≡ drop (at + 1) piece = c.skip.ensures ∙ ap (drop (at + 1)) (sym c.bytes-piece.ensures) in
    rw (← c.bytes-piece.ensures, line, rest)
    (first_line piece at found.0.high (λ k below. found.0.before k (omega arith) below) here raw h.open_yet)
