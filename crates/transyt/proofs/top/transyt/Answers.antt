-- All is said by what was done for the word.
use Rattle.std.proofs.Common.{Option, sym, ◌∙◌, subst}
use Rattle.transyt.specs.declared.word.Word.{Word}
use Rattle.transyt.specs.Tasks.{TaskHeadline, TaskComplete, TaskTooLong}
use Rattle.transyt.specs.Words.{task, IsRun}
use Rattle.transyt.proofs.TaskLaws.{word_settled, task_headline, task_complete, task_too_long, of_words, run_headline}
use Rattle.transyt.proofs.ValidRuns.{climb_descends}
use Rattle.transyt.proofs.top.transyt.Goals as goal

-- the headline
pub returns-clause-headline : goal.returns-clause-headline
returns-clause-headline g c = λ run memory no_read no_write.
    let word = c.in-Some.word in
    let is = sym c.in-Some.is ∙ c.word_of.ensures.word in
    let P : Option Word → Type 0 = λ o. IsRun o in
    let all = c.answer.ensures in
    run_headline word (subst P (sym is) run)
    (task_headline _ _ _ _ _ memory (λ e. no_read (all.read_fault e)) (λ e. no_write (all.write_fault e)) (task word)
    (word_settled word) all.outcome)

-- the task of the words
pub returns-clause-told : goal.returns-clause-told
returns-clause-told g c = λ memory no_read no_write.
    let word = c.in-Some.word in
    let all = c.answer.ensures in
    of_words (λ asked. TaskHeadline asked _ _ _ _) (sym c.in-Some.is ∙ c.word_of.ensures.word)
    (task_headline _ _ _ _ _ memory (λ e. no_read (all.read_fault e)) (λ e. no_write (all.write_fault e)) (task word)
    (word_settled word) all.outcome)

-- the status
pub returns-clause-complete : goal.returns-clause-complete
returns-clause-complete g c = λ memory no_read no_write.
    let word = c.in-Some.word in
    let all = c.answer.ensures in
    of_words (λ asked. TaskComplete asked _ _) (sym c.in-Some.is ∙ c.word_of.ensures.word)
    (task_complete _ _ _ _ _ memory (λ e. no_read (all.read_fault e)) (λ e. no_write (all.write_fault e)) (task word)
    (word_settled word) all.outcome)

-- too many bytes
pub returns-clause-too_long : goal.returns-clause-too_long
returns-clause-too_long g c = λ memory no_read no_write.
    let word = c.in-Some.word in
    let all = c.answer.ensures in
    of_words (λ asked. TaskTooLong asked _ _) (sym c.in-Some.is ∙ c.word_of.ensures.word)
    (task_too_long _ _ _ _ _ memory (λ e. no_read (all.read_fault e)) (λ e. no_write (all.write_fault e)) (task word)
    (word_settled word) all.outcome)

-- the climbs, whatever the words are
pub returns-in_default-clause-climbs : goal.returns-in_default-clause-climbs
returns-in_default-clause-climbs g c = climb_descends

-- and of words that the program takes
pub returns-clause-climbs : goal.returns-clause-climbs
returns-clause-climbs g c = climb_descends
