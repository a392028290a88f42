-- The search gives the first line end, so no byte before it is one: the cut is there.
use Rattle.std.proofs.Common.{◌≡◌, ℕ, ◌+◌, ◌∷◌, List, [], true, false, length, take, slice_index, sym, ap, ◌∙◌, arith}
use Rattle.std.proofs.lemmas.Slice.{between_to_end}
use Rattle.std.proofs.lemmas.List.{drop_all}
use Rattle.std.proofs.lemmas.Bool.{eqb-true}
use Rattle.std.specs.List.{between}
use Rattle.transyt_io.specs.Lines.{cut, has_end}
use Rattle.transyt_io.proofs.Lines.{after_line_end_at, after_no_line_end, cut_at, cut_open, no_end_in}
use Rattle.transyt_io.proofs.cut.split_line.Goals as goal

-- no bytes are after the last
none_after : (bytes : List ℕ) → between (length bytes) (length bytes) bytes ≡ []
none_after bytes =
    between_to_end bytes (length bytes) (length bytes) (omega arith) ∙ drop_all (length bytes) bytes (omega arith)

-- the place that was found is that of the first line end
pub returns-in-Some-clause-cut : goal.returns-in-Some-clause-cut
returns-in-Some-clause-cut c =
    let bytes = c.args.bytes.now in
    let i = c.in-Some.at in
    let found = c.in-Some.ensures in
    let here : slice_index bytes i ≡ 10 = eqb-true (slice_index bytes i) 10 found.1 in
    cut_at bytes i found.0.high (λ k below. found.0.before k (omega arith) below) here true
    ∙ ap (λ (l : List ℕ). take i bytes ∷ cut true l) (sym (between_to_end bytes (i + 1) (length bytes) (omega arith)))

-- and what comes after it begins right after that place
pub returns-in-Some-clause-rest : goal.returns-in-Some-clause-rest
returns-in-Some-clause-rest c =
    let bytes = c.args.bytes.now in
    let i = c.in-Some.at in
    let found = c.in-Some.ensures in
    let here : slice_index bytes i ≡ 10 = eqb-true (slice_index bytes i) 10 found.1 in
    between_to_end bytes (i + 1) (length bytes) (omega arith)
    ∙ sym (after_line_end_at bytes i found.0.high (λ k below. found.0.before k (omega arith) below) here)

-- with no line end all bytes are one part
pub returns-in-None-clause-cut : goal.returns-in-None-clause-cut
returns-in-None-clause-cut c =
    let bytes = c.args.bytes.now in
    let none : has_end bytes ≡ false = no_end_in bytes (λ k below. c.in-None.ensures k (omega arith) below) in
    cut_open bytes c.requires none ∙ ap (λ (l : List ℕ). bytes ∷ cut true l) (sym (none_after bytes))

-- and nothing comes after them
pub returns-in-None-clause-rest : goal.returns-in-None-clause-rest
returns-in-None-clause-rest c =
    let bytes = c.args.bytes.now in
    let none : has_end bytes ≡ false = no_end_in bytes (λ k below. c.in-None.ensures k (omega arith) below) in
    none_after bytes ∙ sym (after_no_line_end bytes none)
