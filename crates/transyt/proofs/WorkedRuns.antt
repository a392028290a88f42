-- The worked runs over a reader and a writer, one after another.
use Rattle.std.proofs.Common.{◌≡◌, ◌↔◌, inl, inr, ℕ, ◌++◌, List, [], ◌∷◌, Option, None, Some, codes, length}
use Rattle.std.proofs.Common.{refl, sym, ap, subst, ◌∙◌, true, false, arith}
use Rattle.std.specs.Fmt.{digits}
use Rattle.transyt_io.specs.Streams.{Takes}
use Rattle.transyt_io.specs.Forms.{filled, form_line}
use Rattle.transyt_outcome.specs.declared.ending.Ending.TheVariants as e
use Rattle.transyt_outcome.specs.declared.status.Status.{Status}
use Rattle.transyt_outcome.specs.declared.status.Status.TheVariants as s
use Rattle.transyt_outcome.specs.Outcome.{CutOff, Outcome, IsFront, exit_number}
use Rattle.transyt_outcome.specs.WorkedOutcomes.{Each}
use Rattle.transyt_line_answers.specs.Report.{card_refused, reporting_run}
use Rattle.transyt.specs.declared.word.Word.TheVariants as w
use Rattle.transyt.specs.Words.{word_of}
use Rattle.transyt.specs.Program.{OverRan, OverHeadline, ArgsRan}
use Rattle.transyt.specs.WorkedProgram.{run_words, no_words, no_card, refusal, held, worked_runs, unworked_runs, WorkedRun}
use Rattle.transyt.proofs.ProgramLaws.{over_by, over_headline}

-- a run takes nothing of the line, its first byte, or all of it
by_front : (P : List ℕ → Type 0) → P [] → P (88 ∷ []) → P no_card → (left : Option (List ℕ)) (taken : List ℕ)
    → Takes (Some no_card) left taken → P taken
by_front P none first all None taken takes = let parts : Some no_card ≡ None = takes in absurd (cc)
by_front P none first all (Some rest) [] takes = none
by_front P none first all (Some rest) (a ∷ []) takes =
    let parts : Some (88 ∷ 10 ∷ []) ≡ Some (a ∷ rest) = takes in
    let one : 88 ≡ a = cc in
    subst (λ (n : ℕ). P (n ∷ [])) one first
by_front P none first all (Some rest) (a ∷ b ∷ []) takes =
    let parts : Some (88 ∷ 10 ∷ []) ≡ Some (a ∷ b ∷ rest) = takes in
    let one : 88 ≡ a = cc in
    let two : 10 ≡ b = cc in
    subst (λ (n : ℕ). P (n ∷ b ∷ [])) one (subst (λ (n : ℕ). P (88 ∷ n ∷ [])) two all)
by_front P none first all (Some rest) (a ∷ b ∷ c ∷ more) takes =
    let parts : Some (88 ∷ 10 ∷ []) ≡ Some (a ∷ b ∷ c ∷ more ++ rest) = takes in absurd (cc)

-- words of `run` are taken
pub run_taken : (ended : Status) → (ended ≡ s.BadWords → ⊥) → (ended ≡ s.BadWords) ↔ (word_of run_words ≡ None)
run_taken ended other = (λ bad. absurd (other bad), λ no. let is : Some (w.Run 3) ≡ None = no in absurd (cc))

-- the runs that may be
reported : OverRan run_words (Some no_card) (Some held) (Some (held ++ refusal)) 2
unfolding card_refused form_line filled digits
reported = over_by s.DeckRefused (Some []) refl (run_taken s.DeckRefused (λ bad. cc)) (λ bad. absurd (cc)) (record {
  taken = no_card;
  out = refusal;
  takes = refl;
  adds = refl;
  row = record { out_is = refl; status = refl; ended = inl refl; few = omega arith };
})

no_read : OverRan run_words (Some no_card) (Some held) (Some held) 3
no_read = over_by s.ReadFault (Some (10 ∷ [])) refl (run_taken s.ReadFault (λ bad. cc)) (λ bad. absurd (cc)) (record {
  taken = 88 ∷ [];
  out = [];
  takes = refl;
  adds = refl;
  row = record { out_is = refl; open_yet = refl };
})

no_write : OverRan run_words (Some no_card) (Some held) (Some (held ++ codes "CARD")) 4
unfolding card_refused form_line filled digits
no_write = over_by s.WriteFault (Some []) refl (run_taken s.WriteFault (λ bad. cc)) (λ bad. absurd (cc)) (record {
  taken = no_card;
  out = codes "CARD";
  takes = refl;
  adds = refl;
  row = (inl (record { back = codes " 1 REFUSED 10" ++ 10 ∷ []; parts = refl }), tt);
})

no_memory : OverRan run_words (Some no_card) (Some held) (Some held) 5
no_memory = over_by s.NoMemory (Some no_card) refl (run_taken s.NoMemory (λ bad. cc)) (λ bad. absurd (cc)) (record {
  taken = [];
  out = [];
  takes = refl;
  adds = refl;
  row = refl;
})

not_taken : OverRan no_words (Some no_card) (Some held) (Some held) 1
not_taken = over_by s.BadWords (Some no_card) refl (λ bad. refl, λ no. refl) (λ bad. refl) tt

pub all_may : Each (λ (run : WorkedRun). OverRan run.0 (Some no_card) (Some held) (Some run.1) run.2) worked_runs
all_may = (reported, (no_read, (no_write, (no_memory, (not_taken, tt)))))

-- what a run over the line with this number may have written
module _ (left : Option (List ℕ)) (new : List ℕ) where
  abbrev Ended : Status → Type 0
  Ended ended = Outcome reporting_run (Some no_card) left None (Some held) (Some new) ended

  -- a status without a refusal
  none_done : (ended : Status) → 0 ≡ exit_number ended → Ended ended → ⊥
  none_done s.Done number o = by_front (λ (taken : List ℕ). reporting_run.refused taken ≡ false → ⊥)
      (λ is. let wrong : true ≡ false = is in cc) (λ is. let wrong : true ≡ false = is in cc)
      (λ is. let wrong : true ≡ false = is in cc) left o.taken o.takes o.row.status
  none_done _ number o = absurd (omega (arith, number))

  -- nothing where a read failed
  read_none : (ended : Status) → 3 ≡ exit_number ended → Ended ended → new ≡ held
  read_none s.ReadFault number o =
      let nothing : o.out ≡ [] = by_front (λ (taken : List ℕ). CutOff reporting_run taken o.out → o.out ≡ [])
      (λ cut. cut.out_is) (λ cut. cut.out_is)
      (λ cut. let wrong : Some e.Refused ≡ None = cut.open_yet in absurd (cc)) left o.taken o.takes o.row in
      let added : Some new ≡ Some (held ++ o.out) = o.adds in
      let same : new ≡ held ++ o.out = cc in
      same ∙ ap (λ (out : List ℕ). held ++ out) nothing
  read_none _ number o = absurd (omega (arith, number))

  -- and without memory
  memory_none : (ended : Status) → 5 ≡ exit_number ended → Ended ended → new ≡ held
  memory_none s.NoMemory number o =
      let added : Some new ≡ Some (held ++ o.out) = o.adds in
      let same : new ≡ held ++ o.out = cc in
      same ∙ ap (λ (out : List ℕ). held ++ out) o.row
  memory_none _ number o = absurd (omega (arith, number))

  -- two bytes aren't too many
  none_long : (ended : Status) → 6 ≡ exit_number ended → Ended ended → ⊥
  none_long s.TooLong number o = by_front (λ (taken : List ℕ). length taken ≡ 4194305 → ⊥)
      (λ many. omega (arith, many)) (λ many. omega (arith, many)) (λ many. omega (arith, many)) left o.taken o.takes
      o.row.many
  none_long _ number o = absurd (omega (arith, number))

-- what is no front of the report isn't written
other_text : (back rest : List ℕ) → 67 ∷ 65 ∷ 82 ∷ 88 ∷ back ≡ 67 ∷ 65 ∷ 82 ∷ 68 ∷ rest → ⊥
other_text back rest is = grind arith

no_text : (back : List ℕ) → 67 ∷ 65 ∷ 82 ∷ 88 ∷ back ≡ [] → ⊥
no_text back is = absurd (cc)

none_so_far : (taken : List ℕ) (left : Option (List ℕ)) → Takes (Some no_card) left taken
    → IsFront (codes "CARX") (reporting_run.so_far taken) → ⊥
unfolding card_refused form_line filled digits
none_so_far taken left takes =
    by_front (λ (t : List ℕ). IsFront (codes "CARX") (reporting_run.so_far t) → ⊥)
    (λ front. no_text front.back front.parts) (λ front. no_text front.back front.parts)
    (λ front. other_text front.back _ front.parts) left taken takes

none_report : (taken : List ℕ) (left : Option (List ℕ)) → Takes (Some no_card) left taken
    → IsFront (codes "CARX") (reporting_run.report taken) → ⊥
unfolding card_refused form_line filled digits
none_report taken left takes =
    by_front (λ (t : List ℕ). IsFront (codes "CARX") (reporting_run.report t) → ⊥)
    (λ front. other_text front.back _ front.parts) (λ front. other_text front.back _ front.parts)
    (λ front. other_text front.back _ front.parts) left taken takes

none_other : (left : Option (List ℕ)) (ended : Status) → 4 ≡ exit_number ended
    → Outcome reporting_run (Some no_card) left None (Some held) (Some (held ++ codes "CARX")) ended → ⊥
none_other left s.WriteFault number o =
    let added : Some (97 ∷ 98 ∷ codes "CARX") ≡ Some (97 ∷ 98 ∷ o.out) = o.adds in
    let out : o.out ≡ codes "CARX" = cc in
    elim o.row.0 [
      | inl front ↦ none_so_far o.taken left o.takes
          (subst (λ (xs : List ℕ). IsFront xs (reporting_run.so_far o.taken)) out front)
      | inr whole ↦ none_report o.taken left o.takes
          (subst (λ (xs : List ℕ). IsFront xs (reporting_run.report o.taken)) out whole.1)
    ]
none_other left _ number o = absurd (omega (arith, number))

-- no status has the number 7
no_status : (ended : Status) → 7 ≡ exit_number ended → ⊥
no_status s.Done number = absurd (omega (arith, number))
no_status _ number = absurd (omega (arith, number))

-- a run that wrote something else than what it held, and more than it held, in two texts
pub lost : {out : List ℕ} → Some refusal ≡ Some (held ++ out) → ⊥
lost is = grind arith

more : {b : ℕ} {bs : List ℕ} → held ++ b ∷ bs ≡ held → ⊥
more is = grind arith

-- with words that aren't taken the status is BadWords
bad : (number : ℕ) (contents_new : List ℕ) → OverRan no_words (Some no_card) (Some held) (Some contents_new) number
    → (number ≡ 1) × (contents_new ≡ held)
bad number contents_new ran =
    let ended : ran.ended ≡ s.BadWords = ran.bad_words.1 refl in
    let same : Some contents_new ≡ Some held = ran.untouched ended in
    (ran.number_is ∙ ap exit_number ended, cc)

-- and with words of `run` it isn't
run_bad : (ended : Status) → 1 ≡ exit_number ended → (ended ≡ s.BadWords → word_of run_words ≡ None) → ⊥
run_bad s.BadWords number none = let is : Some (w.Run 3) ≡ None = none refl in absurd (cc)
run_bad _ number none = absurd (omega (arith, number))

run_ended : (number : ℕ) (contents_new : List ℕ) → OverRan run_words (Some no_card) (Some held) (Some contents_new) number
    → number ≡ 1 → ⊥
run_ended number contents_new ran one = run_bad ran.ended (sym one ∙ ran.number_is) (λ is. ran.bad_words.0 is)

pub none_may : Each (λ (run : WorkedRun). OverRan run.0 (Some no_card) (Some held) (Some run.1) run.2 → ⊥) unworked_runs
none_may = (
  (λ ran. lost ran.outcome.adds),
  (
    (λ ran. none_done ran.left _ ran.ended ran.number_is ran.outcome),
    (
      (λ ran. more (read_none ran.left _ ran.ended ran.number_is ran.outcome)),
      (
        (λ ran. more (read_none ran.left _ ran.ended ran.number_is ran.outcome)),
        (
          (λ ran. none_other ran.left ran.ended ran.number_is ran.outcome),
          (
            (λ ran. more (memory_none ran.left _ ran.ended ran.number_is ran.outcome)),
            (
              (λ ran. none_long ran.left _ ran.ended ran.number_is ran.outcome),
              (
                (λ ran. no_status ran.ended ran.number_is),
                (
                  (λ ran. run_ended 1 held ran refl),
                  (
                    (λ ran. more (bad _ _ ran).1),
                    ((λ ran. absurd (omega (arith, (bad _ _ ran).0))), ((λ ran. absurd (omega (arith, (bad _ _ ran).0))), tt)),
                  ),
                ),
              ),
            ),
          ),
        ),
      ),
    ),
  ),
)

-- with `run` the report stands after what the writer held
pub report_told : OverHeadline run_words (Some no_card) (Some held) (Some (held ++ refusal)) 2
report_told = over_headline run_words (Some no_card) (Some held) (Some (held ++ refusal)) 2 reported

other_report : ◌≡◌ {A = Option (List ℕ)} (Some (held ++ codes "?")) (Some (held ++ refusal)) → ⊥
other_report is = grind arith

pub other_told : OverHeadline run_words (Some no_card) (Some held) (Some (held ++ codes "?")) 2 → ⊥
unfolding card_refused form_line filled digits
other_told told = other_report
    (told tt (λ e. absurd (omega (arith, e))) (λ e. absurd (omega (arith, e))) (λ e. absurd (omega (arith, e))) no_card held
    refl refl (omega arith)).0

pub other_number : OverHeadline run_words (Some no_card) (Some held) (Some (held ++ refusal)) 0 → ⊥
other_number told =
    let number : 0 ≡ 2 =
    (told tt (λ e. absurd (omega (arith, e))) (λ e. absurd (omega (arith, e))) (λ e. absurd (omega (arith, e))) no_card held
    refl refl (omega arith)).1 in absurd (omega (arith, number))

-- without memory for the words the number is 5, and the writer holds what it held
pub no_list : ArgsRan no_words (Some no_card) (Some held) (Some held) 5
no_list = inr (refl, refl)

pub usage_held : ◌≡◌ {A = Option (List ℕ)} (Some (held ++ codes "usage")) (Some held) → ⊥
usage_held is = grind arith

pub usage_told : ArgsRan no_words (Some no_card) (Some held) (Some (held ++ codes "usage")) 5 → ⊥
usage_told (inl ran) = absurd (omega (arith, (bad _ _ ran).0))
usage_told (inr list) = usage_held list.1
