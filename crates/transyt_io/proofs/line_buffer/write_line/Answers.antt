-- Each call of the sink takes a front of what is left, so the fronts taken so far are a front of the line, and at
-- the end all of it.
use Rattle.std.proofs.Common.{◌≡◌, ◌++◌, List, ℕ, length, take, drop, sym, ◌∙◌, ap, subst, arith, length-drop}
use Rattle.std.proofs.lemmas.List.{take-append-drop}
use Rattle.std.proofs.lemmas.Slice.{between_to_end}
use Rattle.std.proofs.Math.Seq.{take-add}
use Rattle.transyt_io.specs.Streams.{Adds}
use Rattle.transyt_io.proofs.Told.{adds_both, adds_so_far, on_err}
use Rattle.transyt_io.proofs.line_buffer.write_line.Goals as goal

-- a failed call took nothing, so the bytes before `at` are the front that was written
pub returns-in_err-at-clause-err : goal.returns-in_err-at-clause-err
returns-in_err-at-clause-err g c =
    let written = g.K.Sink.written in
    let bytes = c.bytes-bytes.result.now in
    let i = c.loop-at.at in
    let told : Adds (written c.args.sink.now) (written c.write.new.self) (take i bytes) =
    c.in_err-at.ensures.bytes ∙ c.loop-at.invariant.so_far in
    let all : take i bytes ++ drop i bytes ≡ c.args.line.now = take-append-drop i bytes ∙ c.bytes-bytes.ensures.bytes in
    on_err _ (adds_so_far _ _ (take i bytes) (drop i bytes) c.args.line.now told all)

-- the bytes that the call took are those after `at`
pub loop-at-preserved : goal.loop-at-preserved
loop-at-preserved g c =
    let written = g.K.Sink.written in
    let bytes = c.bytes-bytes.result.now in
    let i = c.loop-at.at in
    let n = c.in_ok-at.field-0 in
    let rest = between_to_end bytes i (length bytes) (omega arith) in
    let size = ap length rest ∙ length-drop i bytes in
    let taken : Adds (written c.loop-at.sink) (written c.write.new.self) (take n (drop i bytes)) =
    subst (λ (xs : List ℕ). Adds (written c.loop-at.sink) (written c.write.new.self) (take n xs)) rest
    c.in_ok-at.ensures.bytes in
    let both = adds_both _ _ _ (take i bytes) (take n (drop i bytes)) c.loop-at.invariant.so_far taken in
    record {
      inside = omega (arith, c.in_ok-at.ensures.bound.1, size);
      so_far = subst (λ (xs : List ℕ). Adds (written c.args.sink.now) (written c.write.new.self) xs)
          (sym (take-add i n bytes)) both;
      later = omega (arith, c.in_ok-at.ensures.cause.later);
    }
