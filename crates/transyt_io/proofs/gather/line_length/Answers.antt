-- The line is all bytes, or all but a carriage return at the end, cut at 4,097.
use Rattle.std.proofs.Common.{◌≡◌, ◌∙◌, ◌==◌, ◌-◌, sym, ap, ℕ, Bool, true, false, length, take, slice_index}
use Rattle.std.proofs.Common.{if◌then◌else◌}
use Rattle.transyt_io.proofs.Lines.{take_min, take_min_length}
use Rattle.transyt_io.proofs.gather.line_length.Goals as goal

-- a carriage return at the end is left out
pub returns-then-ends_in_return-clause-line : goal.returns-then-ends_in_return-clause-line
returns-then-ends_in_return-clause-line c =
    let raw = c.args.raw.now in
    let test : (slice_index raw (length raw - 1) == 13) ≡ true =
    sym c.ends_in_return.ensures ∙ c.if-ends_in_return.true in
    ap (λ (n : ℕ). take n raw) c.min.ensures ∙ take_min (length raw - 1) 4097 raw
    ∙ sym (ap (λ (b : Bool). take 4097 (if b then take (length raw - 1) raw else raw)) test)

-- with none at the end all bytes are the line
pub returns-clause-line : goal.returns-clause-line
returns-clause-line c =
    let raw = c.args.raw.now in
    let test : (slice_index raw (length raw - 1) == 13) ≡ false =
    sym c.ends_in_return.ensures ∙ c.if-ends_in_return.false in
    ap (λ (n : ℕ). take n raw) c.min-2.ensures ∙ take_min_length 4097 raw
    ∙ sym (ap (λ (b : Bool). take 4097 (if b then take (length raw - 1) raw else raw)) test)
