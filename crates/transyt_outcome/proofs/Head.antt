-- A run with no fault writes the report of the input, and its status is the report's.
use Rattle.std.proofs.Common.{◌≡◌, ◌≢◌, inl, inr, ℕ, ◌+◌, ◌≤◌, ◌<◌, ◌-◌, ◌++◌, Bool, true, false, if◌then◌else◌, List}
use Rattle.std.proofs.Common.{Option, None, Some, length, take, refl, sym, ◌∙◌, ap, subst, arith, length-append}
use Rattle.std.proofs.lemmas.List.{append-nil}
use Rattle.std.proofs.Math.Seq.{take-append-add}
use Rattle.transyt_io.specs.Streams.{Takes, Adds, IsAtEnd}
use Rattle.transyt_outcome.specs.declared.status.Status.{Status}
use Rattle.transyt_outcome.specs.declared.status.Status.TheVariants.{Done, DeckRefused, ReadFault, TooLong, WriteFault}
use Rattle.transyt_outcome.specs.declared.status.Status.TheVariants.{NoMemory, BadWords}
use Rattle.transyt_outcome.specs.Outcome.{Reporting, IsSettled, status_by, EndsRun, Finished, StatusSays, Outcome}
use Rattle.transyt_outcome.specs.Outcome.{Headline, Complete, TooLongWhere}

-- the bytes taken of a told input
took_of : (input taken : List ℕ) (left : Option (List ℕ)) → Takes (Some input) left taken
    → (rest : List ℕ) × ((left ≡ Some rest) × (input ≡ taken ++ rest))
took_of input taken None h = cc
took_of input taken (Some rest) h = (rest, (refl, let e : Some input ≡ Some (taken ++ rest) = h in cc))

module _ (by : Reporting) (settled : IsSettled by) (input taken out : List ℕ) (left : Option (List ℕ)) (last : Option ℕ)
    (takes : Takes (Some input) left taken) where
  -- all was answered: the report of the input was written
  finished_told : (refused : Bool) → Finished by left taken out refused
      → (out ≡ by.report input) × (by.refused input ≡ refused)
  finished_told refused done =
      let took = took_of input taken left takes in
      let rest = took.0 in
      let same : (by.report input ≡ by.report taken) × (by.refused input ≡ by.refused taken) =
      elim done.ended [
        | inl at_end ↦
            let end : IsAtEnd (Some rest) = subst IsAtEnd took.1.0 at_end in
            let all : input ≡ taken = took.1.1 ∙ ap (λ (xs : List ℕ). taken ++ xs) end ∙ append-nil taken in
            (ap by.report all, ap by.refused all)
        | inr ended ↦ (
          ap by.report took.1.1 ∙ settled.report taken rest ended,
          ap by.refused took.1.1 ∙ settled.refused taken rest ended,
        )
      ] in
      (done.out_is ∙ sym same.0, same.1 ∙ done.status)

  -- with this few bytes there aren't too many
  not_many : length taken ≡ 4194305 → length input ≤ 4194304 → ⊥
  not_many many few =
      let took = took_of input taken left takes in
      let size : length input ≡ length taken + length took.0 = ap length took.1.1 ∙ length-append taken took.0 in
      omega arith

  -- with too many, which don't end the run, not all was answered
  not_finished : (refused : Bool) → Finished by left taken out refused → 4194304 < length input
      → by.ends (take 4194304 input) ≡ None → ⊥
  not_finished refused done many open_yet =
      let took = took_of input taken left takes in
      let rest = took.0 in
      let few : length taken ≤ 4194304 = done.few in
      let size : length input ≡ length taken + length rest = ap length took.1.1 ∙ length-append taken rest in
      elim done.ended [
        | inl at_end ↦
            let end : IsAtEnd (Some rest) = subst IsAtEnd took.1.0 at_end in
            let none : length rest ≡ 0 = ap length end in
            absurd (omega arith)
        | inr ended ↦
            let k = 4194304 - length taken in
            let room : 4194304 ≡ length taken + k = omega arith in
            let first : take 4194304 input ≡ taken ++ take k rest =
            (λ i. take (room i) (took.1.1 i)) ∙ take-append-add taken rest k in
            let same : by.ends (take 4194304 input) ≡ by.ends taken =
            ap by.ends first ∙ settled.ends taken (take k rest) ended in
            let none : by.ends taken ≡ None = sym same ∙ open_yet in
            subst EndsRun none ended
      ]

  -- the text and the status of an input that isn't too long
  told : (status : Status) → StatusSays by left last taken out status → length input ≤ 4194304 → status ≢ NoMemory
      → (status ≡ ReadFault → ⊥) → (status ≡ WriteFault → ⊥)
      → (out ≡ by.report input) × (status ≡ status_by by input)
  told Done row few n r w =
      let h = finished_told false row in (h.0, sym (ap (λ (b : Bool). if b then DeckRefused else Done) h.1))
  told DeckRefused row few n r w =
      let h = finished_told true row in (h.0, sym (ap (λ (b : Bool). if b then DeckRefused else Done) h.1))
  told ReadFault row few n r w = absurd (r refl)
  told TooLong row few n r w = absurd (not_many row.many few)
  told WriteFault row few n r w = absurd (w refl)
  told NoMemory row few n r w = absurd (n refl)
  told BadWords row few n r w = absurd row

  -- the status of one that is
  long_told : (status : Status) → StatusSays by left last taken out status → 4194304 < length input
      → by.ends (take 4194304 input) ≡ None → status ≢ NoMemory
      → (status ≡ ReadFault → ⊥) → (status ≡ WriteFault → ⊥) → status ≡ TooLong
  long_told Done row many open_yet n r w = absurd (not_finished false row many open_yet)
  long_told DeckRefused row many open_yet n r w = absurd (not_finished true row many open_yet)
  long_told ReadFault row many open_yet n r w = absurd (r refl)
  long_told TooLong row many open_yet n r w = refl
  long_told WriteFault row many open_yet n r w = absurd (w refl)
  long_told NoMemory row many open_yet n r w = absurd (n refl)
  long_told BadWords row many open_yet n r w = absurd row

module _ {by : Reporting} (settled : IsSettled by) {left left_new : Option (List ℕ)} {last : Option ℕ}
    {written written_new : Option (List ℕ)} {status : Status}
    (outcome : Outcome by left left_new last written written_new status) (memory : status ≢ NoMemory)
    (no_read : status ≡ ReadFault → ⊥) (no_write : status ≡ WriteFault → ⊥) where
  takes_told : (input : List ℕ) → left ≡ Some input → Takes (Some input) left_new outcome.taken
  takes_told input is =
      let P : Option (List ℕ) → Type 0 = λ o. Takes o left_new outcome.taken in subst P is outcome.takes

  outcome_told : (input : List ℕ) → left ≡ Some input → length input ≤ 4194304
      → (outcome.out ≡ by.report input) × (status ≡ status_by by input)
  outcome_told input is few =
      told by settled input outcome.taken outcome.out left_new last (takes_told input is) status outcome.row few memory
      no_read no_write

  -- a run with no fault writes the report of the input
  pub headline : Headline by left written written_new status
  headline input held is told_is few =
      let h = outcome_told input is few in
      let P : Option (List ℕ) → Type 0 = λ o. Adds o written_new outcome.out in
      (subst P told_is outcome.adds ∙ ap (λ (xs : List ℕ). Some (held ++ xs)) h.0, h.1)

  -- its status, for a sink that doesn't tell
  pub complete : Complete by left status
  complete input is few = (outcome_told input is few).1

  -- an input of too many bytes, of which those that may come don't end the run, is TooLong
  pub too_long_where : TooLongWhere by left status
  too_long_where input is many open_yet =
      long_told by settled input outcome.taken outcome.out left_new last (takes_told input is) status outcome.row many
      open_yet memory no_read no_write
