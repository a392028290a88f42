-- The worked calls of the program's function, and what words that read ask for, one after another.
use Rattle.std.proofs.Common.{◌≡◌, ◌<◌, inl, inr, ℕ, ◌++◌, List, [], ◌∷◌, None, Some, codes, refl, ap, subst, ◌∙◌, arith}
use Rattle.std.specs.Fmt.{digits}
use Rattle.transyt_io.specs.Lines.{lines}
use Rattle.transyt_io.specs.Streams.{Rose}
use Rattle.transyt_io.specs.Forms.{filled, form_line}
use Rattle.transyt_net.specs.Parts.{Network}
use Rattle.transyt_deck.specs.Deck.{Deck, Complete, deck}
use Rattle.transyt_outcome.specs.declared.status.Status.{Status}
use Rattle.transyt_outcome.specs.declared.status.Status.TheVariants as s
use Rattle.transyt_outcome.specs.Outcome.{exit_number}
use Rattle.transyt_line_answers.specs.Report.{card_refused, reporting_run, report, status}
use Rattle.transyt.specs.Program.{Sides, ProgramRan, ProgramHeadline, NoFault}
use Rattle.transyt.specs.Tasks.{Reads, TaskHeadline, TaskComplete}
use Rattle.transyt.specs.Reports.{IsRefusedByDeck, IsRefusedOrOpen}
use Rattle.transyt.specs.WorkedProgram.{run_words, make_words, no_words, no_card, refusal, held, before, unread, told_after}
use Rattle.transyt.proofs.WorkedRuns.{run_taken, lost, usage_held}

-- with words that the program doesn't take nothing changes
pub untaken : ProgramRan no_words before before 1
untaken = record {
  ended = s.BadWords;
  number_is = refl;
  call = record {
    bad_words = (λ is. refl, λ no. refl);
    untouched = λ is. refl;
    outcome = tt;
    reads_nothing = tt;
    read_fault = λ is. absurd (cc);
    write_fault = λ is. absurd (cc);
    told = λ memory quiet. tt;
    complete = λ memory quiet. tt;
    too_long = λ memory quiet. tt;
    headline = λ run. absurd run;
  };
}

untaken_all : (new : Sides ℕ ℕ) (number : ℕ) → ProgramRan no_words before new number → (new ≡ before) × (number ≡ 1)
untaken_all new number ran =
    let ended : ran.ended ≡ s.BadWords = ran.call.bad_words.1 refl in
    (ran.call.untouched ended, ran.number_is ∙ ap exit_number ended)

pub untaken_number : ProgramRan no_words before before 0 → ⊥
untaken_number ran = absurd (omega (arith, (untaken_all before 0 ran).1))

pub untaken_usage : ProgramRan no_words before
    (record before { tell = record before.tell { written = Some (held ++ codes "usage") } }) 1 → ⊥
untaken_usage ran = usage_held (ap (λ (sides : Sides ℕ ℕ). sides.tell.written) (untaken_all _ 1 ran).0)

pub untaken_read : ProgramRan no_words before (record before { source = 4 }) 1 → ⊥
untaken_read ran =
    let same : 4 ≡ 3 = ap (λ (sides : Sides ℕ ℕ). sides.source) (untaken_all _ 1 ran).0 in absurd (omega (arith, same))

-- and nothing is read where only a text is written
pub make_read : ProgramRan make_words before (record before { source = 4 }) 5 → ⊥
make_read ran = let same : 4 ≡ 3 = ran.call.reads_nothing tt in absurd (omega (arith, same))

-- a read failed, as the count of the source tells
rose : Rose 2 3
rose = inl (omega arith)

pub read_failed : ProgramRan run_words before (unread 3) 3
read_failed = record {
  ended = s.ReadFault;
  number_is = refl;
  call = record {
    bad_words = run_taken s.ReadFault (λ bad. cc);
    untouched = λ is. absurd (cc);
    outcome = record {
      taken = 88 ∷ [];
      out = [];
      takes = refl;
      adds = refl;
      row = record { out_is = refl; open_yet = refl };
    };
    reads_nothing = λ writing. absurd writing;
    read_fault = λ is. rose;
    write_fault = λ is. absurd (cc);
    told = λ memory quiet. absurd (quiet.read rose);
    complete = λ memory quiet. absurd (quiet.read rose);
    too_long = λ memory quiet. absurd (quiet.read rose);
    headline = λ run memory quiet. absurd (quiet.read rose);
  };
}

is_read : (ended : Status) → 3 ≡ exit_number ended → ended ≡ s.ReadFault
is_read s.ReadFault number = refl
is_read _ number = absurd (omega (arith, number))

two_stays : Rose 2 2 → ⊥
two_stays (inl less) = absurd (omega (arith, less))
two_stays (inr last) = absurd (omega (arith, last))

pub none_failed : ProgramRan run_words before (unread 2) 3 → ⊥
none_failed ran = two_stays (ran.call.read_fault (is_read ran.ended ran.number_is))

-- the report stands after what the sink held
two_said : (input kept : List ℕ) → no_card ≡ input → held ≡ kept
    → (Some (held ++ refusal) ≡ Some (kept ++ report input)) × (2 ≡ exit_number (status input))
unfolding card_refused form_line filled digits
two_said input kept input_is kept_is =
    subst (λ (bytes : List ℕ). (Some (held ++ refusal) ≡ Some (kept ++ report bytes)) × (2 ≡ exit_number (status bytes)))
    input_is (ap (λ (bytes : List ℕ). Some (bytes ++ refusal)) kept_is, refl)

pub headline_said : ProgramHeadline run_words before.tell (told_after (held ++ refusal)) 2
headline_said = λ run memory quiet input kept left_is written_is few.
    let left : Some no_card ≡ Some input = left_is in
    let written : Some held ≡ Some kept = written_is in
    two_said input kept (cc) (cc)

five_stays : Rose 5 5 → ⊥
five_stays (inl less) = absurd (omega (arith, less))
five_stays (inr last) = absurd (omega (arith, last))

quiet_two : NoFault before.tell (told_after refusal)
quiet_two = record { read = two_stays; write = five_stays }

pub headline_lost : ProgramHeadline run_words before.tell (told_after refusal) 2 → ⊥
headline_lost told = lost (told tt (λ e. absurd (omega (arith, e))) quiet_two no_card held refl refl (omega arith)).0

-- the same of words that read, by the status
task_of_two : (input kept : List ℕ) → no_card ≡ input → held ≡ kept
    → (Some (held ++ refusal) ≡ Some (kept ++ report input)) × (s.DeckRefused ≡ status input)
unfolding card_refused form_line filled digits
task_of_two input kept input_is kept_is =
    subst (λ (bytes : List ℕ). (Some (held ++ refusal) ≡ Some (kept ++ report bytes)) × (s.DeckRefused ≡ status bytes))
    input_is (ap (λ (bytes : List ℕ). Some (bytes ++ refusal)) kept_is, refl)

refused_too : (input : List ℕ) → no_card ≡ input → s.DeckRefused ≡ status input
refused_too input is = subst (λ (bytes : List ℕ). s.DeckRefused ≡ status bytes) is refl

pub task_said : TaskHeadline (Reads reporting_run) (Some no_card) (Some held) (Some (held ++ refusal)) s.DeckRefused
task_said = λ input kept left_is written_is few.
    let left : Some no_card ≡ Some input = left_is in
    let written : Some held ≡ Some kept = written_is in
    task_of_two input kept (cc) (cc)

pub task_lost : TaskHeadline (Reads reporting_run) (Some no_card) (Some held) (Some refusal) s.DeckRefused → ⊥
task_lost told = lost (told no_card held refl refl (omega arith)).0

pub task_done : TaskHeadline (Reads reporting_run) (Some no_card) (Some held) (Some (held ++ refusal)) s.Done → ⊥
task_done told = let wrong : s.Done ≡ s.DeckRefused = (told no_card held refl refl (omega arith)).1 in absurd (cc)

pub task_refused : TaskComplete (Reads reporting_run) (Some no_card) s.DeckRefused
task_refused = λ input left_is few. let left : Some no_card ≡ Some input = left_is in refused_too input (cc)

pub task_other : TaskComplete (Reads reporting_run) (Some no_card) s.Done → ⊥
task_other told = let wrong : s.Done ≡ s.DeckRefused = told no_card refl (omega arith) in absurd (cc)

-- a run is refused exactly where its deck is: of a line that is no card, and of any complete deck
pub refused_card : IsRefusedByDeck s.DeckRefused no_card
refused_card = (λ is. tt, λ is. refl)

pub done_card : IsRefusedByDeck s.Done no_card → ⊥
done_card is = let wrong : s.Done ≡ s.DeckRefused = is.1 tt in absurd (cc)

pub done_whole : (input : List ℕ) (number : ℕ) (net : Network) → deck (lines input) ≡ Complete number net
    → IsRefusedByDeck s.Done input
done_whole input number net whole =
    (λ wrong. absurd (cc), λ refused. absurd (subst (λ (d : Deck). IsRefusedOrOpen d) whole refused))

pub refused_whole : (input : List ℕ) (number : ℕ) (net : Network) → deck (lines input) ≡ Complete number net
    → IsRefusedByDeck s.DeckRefused input → ⊥
refused_whole input number net whole is = subst (λ (d : Deck). IsRefusedOrOpen d) whole (is.0 refl)
