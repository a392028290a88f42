-- The text of the bytes before the last read was written: all whole lines were answered before each read.
use Rattle.std.proofs.Common.{◌≡◌, inl, inr, ℕ, ◌+◌, ◌-◌, ◌++◌, List, [], Option, None, Some, Result, length, take, refl, sym}
use Rattle.std.proofs.Common.{◌∙◌, ap, subst, arith, append_assoc, length-append}
use Rattle.std.proofs.lemmas.List.{append-nil, take_at}
use Rattle.std.proofs.lemmas.Option.{IfSome_then}
use Rattle.std.proofs.Math.Seq.{take-nil}
use Rattle.transyt_io.specs.declared.reader.Line.{Line}
use Rattle.transyt_io.specs.declared.reader.ReadStop.{ReadStop}
use Rattle.transyt_io.specs.Lines.{whole}
use Rattle.transyt_io.specs.Reading.{Reading, HasRead, ReadsLine}
use Rattle.transyt_outcome.specs.Runs.{Answering, of_lines, answers_by}
use Rattle.transyt_outcome.specs.Outcome.{IsWritten}
use Rattle.transyt_outcome.proofs.MoreLines.{front_of_front}

-- nothing is taken, and so nothing is to be answered
pub written_none : {State : Type 0} (by : Answering State) (last : Option ℕ) → IsWritten (of_lines by) last [] []
written_none by None = tt
written_none by (Some n) = record {
  back = [];
  parts = append-nil _ ∙ ap (λ (xs : List ℕ). (answers_by by (whole xs)).text) (take-nil (0 - n));
}

-- more is written
pub written_on : {State : Type 0} (by : Answering State) (last : Option ℕ) (taken out more : List ℕ)
    → IsWritten (of_lines by) last taken out → IsWritten (of_lines by) last taken (out ++ more)
written_on by last taken out more h =
    IfSome_then last h (λ n f. front_of_front _ out (out ++ more) f (record { back = more; parts = refl }))

-- the bytes before a last read of so many
before_last : (taken front back : List ℕ) (n : ℕ) → n ≡ length back
    → take (length (taken ++ (front ++ back)) - n) (taken ++ (front ++ back)) ≡ taken ++ front
before_last taken front back n size =
    let all = taken ++ (front ++ back) in
    let parts : all ≡ (taken ++ front) ++ back = sym (append_assoc taken front back) in
    let long : length all ≡ length (taken ++ front) + length back =
    ap length parts ∙ length-append (taken ++ front) back in
    ap (λ (xs : List ℕ). take (length all - n) xs) parts
    ∙ take_at (taken ++ front) back (length all - n) (omega arith)

-- the bytes taken before the last read of a call of `next` are answered before the call
pub written_next : {State : Type 0} (by : Answering State) (before : List (List ℕ))
    {old new : Reading} {left left_new : Option (List ℕ)} {last last_new : Option ℕ}
    {result : Result Line ReadStop} {taken : List ℕ} (p : ReadsLine old new left left_new last last_new result)
    → HasRead old left taken before → IsWritten (of_lines by) last taken (answers_by by before).text
    → IsWritten (of_lines by) last_new (taken ++ (p.front ++ p.back)) (answers_by by before).text
written_next by before {last_new = last_new} {taken = taken} p stands written = elim p.reads [
  | inl h ↦
      let same : taken ++ (p.front ++ p.back) ≡ taken = (λ i. taken ++ (h.0 i ++ h.1 i)) ∙ append-nil taken in
      let P : List ℕ → Type 0 = λ xs. IsWritten (of_lines by) last_new xs (answers_by by before).text in
      let Q : Option ℕ → Type 0 = λ l. IsWritten (of_lines by) l taken (answers_by by before).text in
      subst P (sym same) (subst Q (sym h.2) written)
  | inr h ↦ IfSome_then last_new h.0 (λ n size.
      let text : List (List ℕ) → List ℕ = λ ls. (answers_by by ls).text in
      let first = before_last taken p.front p.back n size in
      record {
        back = [];
        parts = append-nil _ ∙ ap (λ (xs : List ℕ). text (whole xs)) first ∙ ap text (sym (h.1 taken before stands));
      })
]
