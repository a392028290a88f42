-- The answer is told of all bytes taken.
use Rattle.std.proofs.Common.{[], ◌∙◌, ap}
use Rattle.transyt_io.proofs.Told.{takes_nothing}
use Rattle.transyt_outcome.specs.Outcome.{read_stop_status}
use Rattle.transyt_words.specs.Whole.{answer_after, most_after}
use Rattle.transyt_words.proofs.OutcomeLaws.{no_memory, no_memory_after, no_steps, rose_after, told_after, steps_of, stopped_outcome, stopped_read, stopped_write}
use Rattle.transyt_words.proofs.OutcomeLaws.{told_outcome, told_read, told_spoken, unread_silent}
use Rattle.transyt_words.proofs.hosted.HostedWord.answer_whole.Goals as goal

pub returns-clause-outcome : goal.returns-clause-outcome
returns-clause-outcome g c =
    let all = c.in_default-take_all.ensures.all in
    told_outcome (answer_after (g.W.DeckWord.answer c.args.self.now.word)) _ _ all.taken _ _ _ _ _ _ all.takes
    (c.bytes.ensures ∙ all.says.0) all.says.1 all.says.2 c.in-Ok-judge_deck.ensures.answer
    (told_after _ _ _ _ _ c.in-Ok-judge_deck.ensures.written c.say-status.ensures.told)

-- no memory for the reading
pub returns-in_default-clause-outcome : goal.returns-in_default-clause-outcome
returns-in_default-clause-outcome g c = no_memory _ _ _ _ _ [] (takes_nothing (g.S.Source.left c.args.source.now))

pub returns-in_default-clause-steps : goal.returns-in_default-clause-steps
returns-in_default-clause-steps g c = no_steps _ _ _ [] _ (takes_nothing (g.S.Source.left c.args.source.now))

-- a read stopped
pub returns-in-Err-clause-outcome : goal.returns-in-Err-clause-outcome
returns-in-Err-clause-outcome g c =
    let all = c.in-Err.ensures.all in
    stopped_outcome (answer_after (g.W.DeckWord.answer c.args.self.now.word)) _ _ _ _ all.taken c.in-Err.stop
    c.stopped_reading.result all.takes all.says (λ is. c.stopped_reading.ensures ∙ ap read_stop_status is) (λ is. c.stopped_reading.ensures ∙ ap read_stop_status is)

pub returns-in-Err-clause-steps : goal.returns-in-Err-clause-steps
returns-in-Err-clause-steps g c = no_steps _ _ _ _ _ c.in-Err.ensures.all.takes

pub returns-in-Err-clause-read_fault : goal.returns-in-Err-clause-read_fault
returns-in-Err-clause-read_fault g c = λ is.
    c.in-Err.ensures.fault (stopped_read c.in-Err.stop c.stopped_reading.result (λ is. c.stopped_reading.ensures ∙ ap read_stop_status is) is)

pub returns-in-Err-clause-write_fault : goal.returns-in-Err-clause-write_fault
returns-in-Err-clause-write_fault g c = λ is.
    absurd (stopped_write c.in-Err.stop c.stopped_reading.result (λ is. c.stopped_reading.ensures ∙ ap read_stop_status is)
    (λ is. c.stopped_reading.ensures ∙ ap read_stop_status is) is)

-- no memory for the answer
pub returns-in_default-judge_deck-clause-outcome : goal.returns-in_default-judge_deck-clause-outcome
returns-in_default-judge_deck-clause-outcome g c =
    no_memory_after _ _ _ _ _ _ _ c.in_default-take_all.ensures.all.takes c.in_default-judge_deck.ensures.written

pub returns-in_default-judge_deck-clause-steps : goal.returns-in_default-judge_deck-clause-steps
returns-in_default-judge_deck-clause-steps g c =
    let all = c.in_default-take_all.ensures.all in
    steps_of (most_after (g.W.DeckWord.most c.args.self.now.word)) _ _ all.taken c.bytes.result.now _ _ all.takes
    (c.bytes.ensures ∙ all.says.0) c.in_default-judge_deck.ensures.steps

-- the answer is told
pub returns-clause-steps : goal.returns-clause-steps
returns-clause-steps g c =
    let all = c.in_default-take_all.ensures.all in
    steps_of (most_after (g.W.DeckWord.most c.args.self.now.word)) _ _ all.taken c.bytes.result.now _ _ all.takes
    (c.bytes.ensures ∙ all.says.0) c.in-Ok-judge_deck.ensures.steps

pub returns-clause-read_fault : goal.returns-clause-read_fault
returns-clause-read_fault g c = λ is. absurd (told_read _ _ _ _ c.say-status.ensures.told is)

pub returns-clause-write_fault : goal.returns-clause-write_fault
returns-clause-write_fault g c = λ is.
    rose_after _ _ _ c.in-Ok-judge_deck.ensures.faults (c.say-status.ensures.fault is)

pub returns-clause-silent : goal.returns-clause-silent
returns-clause-silent g c = λ silent.
    absurd (told_spoken _ _ _ _ c.say-status.ensures.told c.say-status.ensures.said silent)

pub returns-clause-unread : goal.returns-clause-unread
returns-clause-unread g c = λ unread.
    absurd (told_spoken _ _ _ _ c.say-status.ensures.told c.say-status.ensures.said (unread_silent _ unread))
