-- How a run goes on, and how it ends: by what a call of `next` took, and by what was answered.
use Rattle.std.proofs.Common.{◌≡◌, ◌≤◌, inr, ℕ, ◌+◌, ◌++◌, Bool, true, List, [], ◌∷◌}
use Rattle.std.proofs.Common.{None, Some, Ok, Err, length, take, refl, sym, ◌∙◌, ap, subst, arith}
use Rattle.std.proofs.Common.{append_assoc, length-append}
use Rattle.std.specs.Prelude.{drop}
use Rattle.std.proofs.lemmas.List.{take-append-drop}
use Rattle.transyt_io.specs.declared.reader.Line.TheVariants.{Text, End}
use Rattle.transyt_io.specs.declared.reader.ReadStop.{ReadStop}
use Rattle.transyt_io.specs.declared.reader.ReadStop.TheVariants.{Fault, TooLong as Long}
use Rattle.transyt_io.specs.Reading.{Reading, HasRead, AnswerSays, StopSays, new_reading}
use Rattle.transyt_io.specs.Streams.{Adds, AddsFront, Rose}
use Rattle.transyt_io.proofs.Told.{takes_nothing, adds_nothing, adds_both}
use Rattle.transyt_io.proofs.Reading.{new_has_read}
use Rattle.transyt_outcome.specs.declared.ending.Ending.{Ending}
use Rattle.transyt_outcome.specs.declared.ending.Stop.{Stop}
use Rattle.transyt_outcome.specs.declared.ending.Stop.TheVariants.{Write, Memory}
use Rattle.transyt_outcome.specs.declared.status.Status.{Status}
use Rattle.transyt_outcome.specs.declared.status.Status.TheVariants.{ReadFault, TooLong, WriteFault}
use Rattle.transyt_outcome.specs.declared.status.Status.TheVariants.{NoMemory}
use Rattle.transyt_outcome.specs.Ends.{Ends}
use Rattle.transyt_outcome.specs.Runs.{LineAnswered, EndAnswered, is_refusal, Answering, RunAnswers, of_lines, answers_by}
use Rattle.transyt_outcome.specs.Runs.{steps_whole, steps_all, StepsMost, one_more}
use Rattle.transyt_outcome.specs.Outcome.{Finished, IsFront, IsWritten, status_if, stop_status, read_stop_status}
use Rattle.transyt_outcome.specs.RunSoFar.{RunSoFar, RunOutcome}
use Rattle.transyt_outcome.proofs.MoreLines.{line_one}
use Rattle.transyt_outcome.proofs.Written.{written_none, written_on}
use Rattle.transyt_outcome.proofs.LastLine.{with_last, finished_line, steps_line, part_of_line, steps_of_line, finished_end, cut_off}
use Rattle.transyt_outcome.proofs.LastLine.{steps_cut}
use Rattle.transyt_outcome.proofs.RunEnds.{Reads, so_far, at, sum_of, taken_by, takes_all, answered_all, ran, ran_finished}

-- a run that has taken nothing
pub run_new : {State : Type 0} (by : Answering State) {state : State} {count : ℕ} {counted : Bool} {reading : Reading}
    {ends : Ends} {steps : ℕ} → state ≡ by.start → count ≡ 0 → reading ≡ new_reading
    → RunSoFar by state count counted reading ends ends steps steps
run_new by {ends = ends} start none fresh =
    let P : Reading → Type 0 = λ r. HasRead r ends.left [] [] in
    record {
      taken = [];
      before = [];
      takes = takes_nothing _;
      has_read = subst P (sym fresh) (new_has_read ends.left);
      live = ap (λ (r : Reading). r.live) fresh;
      most = omega arith;
      adds = adds_nothing _;
      open_yet = refl;
      state_is = start;
      steps_are = λ _. omega arith;
      written_then = written_none by ends.last;
      counts = omega arith;
      reads = omega arith;
      writes = omega arith;
    }

-- one more call of `next`, after which no count fell
module _ {State : Type 0} {by : Answering State} {state : State} {count : ℕ} {counted : Bool} {reading : Reading}
    {old now : Ends} {steps steps_now : ℕ} (way : RunSoFar by state count counted reading old now steps steps_now)
    (reading_new : Reading) (new : Ends) (reads : now.reads ≤ new.reads) (writes : now.writes ≤ new.writes) where
  -- it reads a line
  module _ (p : Reads reading reading_new now new (Ok Text)) (line : List ℕ) (read : reading_new.line ≡ Some line)
      (most : reading_new.taken ≤ 4194304) where
    stands_with : HasRead reading_new new.left (taken_by way reading_new new reads writes p) (way.before ++ line ∷ [])
    stands_with =
        let says : AnswerSays reading_new new.left (taken_by way reading_new new reads writes p) way.before Text = p.says way.taken way.before way.has_read in
        let (told, is, has) = says in
        let same : told ≡ line = let both : Some told ≡ Some line = sym is ∙ read in cc in
        subst (λ (l : List ℕ). HasRead reading_new new.left (taken_by way reading_new new reads writes p) (way.before ++ l ∷ [])) same has

    few_taken : length (taken_by way reading_new new reads writes p) ≤ 4194304
    few_taken = let count : reading_new.taken ≡ length (taken_by way reading_new new reads writes p) = stands_with.count in omega arith

    -- which is answered, and doesn't end the run
    pub goes_on : {state_new : State} {count_new steps_new : ℕ} → reading_new.live ≡ true
        → LineAnswered by state state_new now.written new.written line None
        → (counted ≡ true → steps_new ≡ steps_now + by.cost state line) → count_new ≤ count + 1
        → RunSoFar by state_new count_new counted reading_new old new steps steps_new
    goes_on {state_new} {steps_new = steps_new} live told cost counts =
        let longer : length (way.before ++ line ∷ []) ≡ length way.before + 1 = length-append way.before (line ∷ []) in
        let had = way.counts in
        let first_reads = way.reads in
        let first_writes = way.writes in
        let text = by.text (so_far way).state line in
        let answered = at way (λ s. LineAnswered by s state_new now.written new.written line None) told in
        let one : one_more by (so_far way) line ≡ answers_by by (way.before ++ line ∷ []) =
        sym (line_one by way.before line way.open_yet) in
        record {
          taken = taken_by way reading_new new reads writes p;
          before = way.before ++ line ∷ [];
          takes = takes_all way reading_new new reads writes p;
          has_read = stands_with;
          live = live;
          most = few_taken;
          adds = subst (λ (a : RunAnswers State). Adds old.written new.written a.text) one
              (adds_both _ _ _ (so_far way).text text way.adds answered.adds);
          open_yet = subst (λ (a : RunAnswers State). a.ending ≡ None) one (sym answered.ending_is);
          state_is = answered.goes_on refl ∙ ap (λ (a : RunAnswers State). a.state) one;
          steps_are = λ all. subst (λ (a : RunAnswers State). steps_new ≡ steps + a.steps) one
              (sum_of way (λ n. steps_new ≡ n) line all (cost all));
          written_then = subst (λ (a : RunAnswers State). IsWritten (of_lines by) new.last (taken_by way reading_new new reads writes p) a.text) one
              (written_on by new.last (taken_by way reading_new new reads writes p) (so_far way).text text (answered_all way reading_new new reads writes p));
          counts = omega (arith, had, counts, longer);
          reads = omega (arith, first_reads, reads);
          writes = omega (arith, first_writes, writes);
        }

    -- which is answered, and ends the run
    pub line_ends : {state_new : State} {steps_new : ℕ} {ending : Ending} {status : Status}
        → LineAnswered by state state_new now.written new.written line (Some ending)
        → (counted ≡ true → steps_new ≡ steps_now + by.cost state line) → status ≡ status_if (is_refusal ending)
        → RunOutcome by counted old new steps steps_new status
    line_ends {state_new} {steps_new} {ending} told cost is =
        let answered = at way (λ s. LineAnswered by s state_new now.written new.written line (Some ending)) told in
        let text = by.text (so_far way).state line in
        ran_finished way reading_new new reads writes p ((so_far way).text ++ text) (is_refusal ending) is
        (adds_both _ _ _ (so_far way).text text way.adds answered.adds)
        (finished_line by way.before way.open_yet line stands_with (sym answered.ending_is) few_taken)
        (λ all. sum_of way (λ n. steps_new ≡ n) line all (cost all)
        ∙ ap (λ n. steps + n) (sym (steps_line by way.before way.open_yet line stands_with (sym answered.ending_is))))

    -- whose answer stops
    pub line_stops : (stop : Stop) {steps_new : ℕ} {status : Status} → status ≡ stop_status stop
        → AddsFront now.written new.written (by.text state line)
        → (counted ≡ true → steps_new ≤ steps_now + by.cost state line)
        → (stop ≡ Memory → ((so_far way).text ≡ []) × (new.written ≡ now.written))
        → (stop ≡ Write → Rose now.writes new.writes) → RunOutcome by counted old new steps steps_new status
    line_stops stop {steps_new} is part cost silent fault = by_stop stop is silent fault
      where
        few : counted ≡ true → StepsMost by new.left (taken_by way reading_new new reads writes p) steps steps_new
        few all = steps_of_line by way.before way.open_yet line stands_with _ _
            (sum_of way (λ n. steps_new ≤ n) line all (cost all))

        by_stop : (stop : Stop) {status : Status} → status ≡ stop_status stop
            → (stop ≡ Memory → ((so_far way).text ≡ []) × (new.written ≡ now.written))
            → (stop ≡ Write → Rose now.writes new.writes) → RunOutcome by counted old new steps steps_new status
        by_stop Memory is silent fault =
            let none = silent refl in ran way reading_new new reads writes p (so_far way).text NoMemory is (none.1 ∙ way.adds) none.0 few tt
        by_stop Write is silent fault =
            let told = at way (λ s. AddsFront now.written new.written (by.text s line)) part in
            let out = (so_far way).text ++ told.front in
            let front : IsFront out (with_last by way.before line).text = record {
              back = told.back;
              parts = append_assoc (so_far way).text told.front told.back
                  ∙ ap (λ (xs : List ℕ). (so_far way).text ++ xs) told.whole;
            } in
            ran way reading_new new reads writes p out WriteFault is (adds_both _ _ _ (so_far way).text told.front way.adds told.adds) (
              part_of_line by way.before way.open_yet line stands_with out front,
              written_on by new.last (taken_by way reading_new new reads writes p) (so_far way).text told.front (answered_all way reading_new new reads writes p),
            ) few (fault refl)

  -- it reads the end
  module _ (p : Reads reading reading_new now new (Ok End)) where
    says_end : AnswerSays reading_new new.left (taken_by way reading_new new reads writes p) way.before End
    says_end = p.says way.taken way.before way.has_read

    done_end : Finished (of_lines by) new.left (taken_by way reading_new new reads writes p) ((so_far way).text ++ by.closing (so_far way).state)
        (by.refused (so_far way).state)
    done_end = finished_end by way.before way.open_yet new.left (taken_by way reading_new new reads writes p) says_end.0 says_end.1 says_end.2

    sum_end : counted ≡ true → steps_now ≡ steps + steps_all by (taken_by way reading_new new reads writes p)
    sum_end all = way.steps_are all ∙ ap (λ (ls : List (List ℕ)). steps + (answers_by by ls).steps) says_end.0

    -- which is answered
    pub end_closes : {refused : Bool} {status : Status} → EndAnswered by state now.written new.written refused
        → status ≡ status_if refused → RunOutcome by counted old new steps steps_now status
    end_closes {refused} told is =
        let answered = at way (λ s. EndAnswered by s now.written new.written refused) told in
        let text = by.closing (so_far way).state in
        ran_finished way reading_new new reads writes p ((so_far way).text ++ text) refused is
        (adds_both _ _ _ (so_far way).text text way.adds answered.adds)
        (subst (Finished (of_lines by) new.left (taken_by way reading_new new reads writes p) ((so_far way).text ++ text)) (sym answered.refused_is) done_end)
        sum_end

    -- whose answer stops
    pub end_stops : (stop : Stop) {status : Status} → status ≡ stop_status stop
        → AddsFront now.written new.written (by.closing state) → (stop ≡ Memory → ⊥)
        → (stop ≡ Write → Rose now.writes new.writes) → RunOutcome by counted old new steps steps_now status
    end_stops Memory is part never fault = absurd (never refl)
    end_stops Write is part never fault =
        let told = at way (λ s. AddsFront now.written new.written (by.closing s)) part in
        let out = (so_far way).text ++ told.front in
        let front : IsFront out ((of_lines by).report (taken_by way reading_new new reads writes p)) = record {
          back = told.back;
          parts = append_assoc (so_far way).text told.front told.back
              ∙ ap (λ (xs : List ℕ). (so_far way).text ++ xs) told.whole ∙ done_end.out_is;
        } in
        ran way reading_new new reads writes p out WriteFault is (adds_both _ _ _ (so_far way).text told.front way.adds told.adds) (
          inr (says_end.1, front),
          written_on by new.last (taken_by way reading_new new reads writes p) (so_far way).text told.front (answered_all way reading_new new reads writes p),
        ) (λ all. let sum = sum_end all in inr (says_end.1, omega (arith, sum))) (fault refl)

  -- the source stops
  pub read_stops : (stop : ReadStop) (p : Reads reading reading_new now new (Err stop)) {status : Status}
      → status ≡ read_stop_status stop → new.written ≡ now.written → (stop ≡ Fault → Rose now.reads new.reads)
      → RunOutcome by counted old new steps steps_now status
  read_stops Fault p is same rose =
      let says : StopSays (taken_by way reading_new new reads writes p) way.before Fault = p.says way.taken way.before way.has_read in
      ran way reading_new new reads writes p (so_far way).text ReadFault is (same ∙ way.adds)
      (cut_off by way.before way.open_yet new.left (taken_by way reading_new new reads writes p) says.0)
      (λ all.
      let sum = way.steps_are all in
      let total = ap (λ (ls : List (List ℕ)). (answers_by by ls).steps) says.0 in
      omega (arith, sum, total)) (rose refl)
  read_stops Long p is same rose =
      let says : StopSays (taken_by way reading_new new reads writes p) way.before Long = p.says way.taken way.before way.has_read in
      let first = take 4194304 (taken_by way reading_new new reads writes p) in
      ran way reading_new new reads writes p (so_far way).text TooLong is (same ∙ way.adds)
      (record { many = says.0; cut_off = cut_off by way.before way.open_yet new.left first says.1 })
      (λ all.
      let sum = way.steps_are all in
      let most = subst (λ (xs : List ℕ). (so_far way).steps ≤ steps_whole by xs) (take-append-drop 4194304 (taken_by way reading_new new reads writes p))
      (steps_cut by way.before way.open_yet new.left first (drop 4194304 (taken_by way reading_new new reads writes p)) says.1) in
      omega (arith, sum, most)) tt
