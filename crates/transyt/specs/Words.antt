-- The words that the program takes: the spelling of each, the ranges of its numbers, its task and its steps.
use Rattle.std.specs.Prelude.{◌≡◌, ℕ, ◌≤◌, List, [], ◌∷◌, Option, None, Some, codes, if◌then◌else◌}
use Rattle.std.specs.Option.{option_map, option_and_then}
use Rattle.std.specs.Str.{bytes_eq}
use Rattle.transyt_deck.specs.Cards.{deck_text}
use Rattle.transyt_make.specs.Made.{made}
use Rattle.transyt_outcome.specs.declared.status.Status.{Status}
use Rattle.transyt_outcome.specs.Runs.{StepsTaken}
use Rattle.transyt_line_answers.specs.Report.{deck_answering, reporting_run}
use Rattle.transyt_reporter.specs.Brief.{brief_text, brief_steps}
use Rattle.transyt_climbs.specs.Scan.{IsScan}
use Rattle.transyt_words.specs.Answer.{of_whole}
use Rattle.transyt_words.specs.Whole.{StepsWithin, answer_after, most_after}
use Rattle.transyt_words.specs.Audit.{audit_answer, audit_most}
use Rattle.transyt_words.specs.Counts.{counts_answer}
use Rattle.transyt_words.specs.Equisat.{equisat_answer}
use Rattle.transyt_words.specs.Scan.{scan_answer}
use Rattle.transyt_words.specs.Plans.{IsStarts, cycles_answer, starts_answer}
use Rattle.transyt.specs.declared.town.Town.{Town}
use Rattle.transyt.specs.declared.word.Word.{Word}
use Rattle.transyt.specs.declared.word.Word.TheVariants as w
use Rattle.transyt.specs.Numbers.{workers_of, IsTown, town_of, starts_asked, times_of}
use Rattle.transyt.specs.Version.{version_text}
use Rattle.transyt.specs.Tasks.{Task, Reads, Writes, TextSteps}

-- the numbers of a word are in their ranges
abbrev pub IsWord : Word → Type 0
IsWord (w.Run workers) = (1 ≤ workers) × (workers ≤ 8)
IsWord (w.Make town) = IsTown town
IsWord (w.Brief town workers) = IsTown town × (1 ≤ workers) × (workers ≤ 8)
IsWord (w.Scan asked) = IsScan asked
IsWord (w.Cycles asked) = IsScan asked
IsWord (w.Starts asked) = IsStarts asked
IsWord _ = Unit {0}

-- a word that stands alone
abbrev pub alone : Word → List (List ℕ) → Option Word
alone word [] = Some word
alone word (next ∷ more) = None

-- `run` and `run w`, by what stands after `run`
abbrev pub run_word : List (List ℕ) → Option Word
run_word [] = Some (w.Run 1)
run_word (workers ∷ []) = option_map w.Run (workers_of workers)
run_word (workers ∷ next ∷ more) = None

-- `make seed nodes`
abbrev pub make_word : List (List ℕ) → Option Word
make_word (seed ∷ nodes ∷ []) = option_map w.Make (town_of seed nodes)
make_word _ = None

-- `brief seed nodes` with so many workers
abbrev pub brief_by : Option Town → Option ℕ → Option Word
brief_by town workers = option_and_then (λ t. option_map (w.Brief t) workers) town

-- `brief seed nodes` and `brief seed nodes w`
abbrev pub brief_word : List (List ℕ) → Option Word
brief_word (seed ∷ nodes ∷ []) = brief_by (town_of seed nodes) (Some 1)
brief_word (seed ∷ nodes ∷ workers ∷ []) = brief_by (town_of seed nodes) (workers_of workers)
brief_word _ = None

-- the word that is spelled; none where the program doesn't take the words
abbrev pub word_of : List (List ℕ) → Option Word
word_of [] = None
word_of (name ∷ rest) =
    if bytes_eq name (codes "run") then run_word rest
    else if bytes_eq name (codes "make") then make_word rest
    else if bytes_eq name (codes "brief") then brief_word rest
    else if bytes_eq name (codes "counts") then alone w.Counts rest
    else if bytes_eq name (codes "equisat") then alone w.Equisat rest
    else if bytes_eq name (codes "scan") then option_map w.Scan (times_of rest)
    else if bytes_eq name (codes "cycles") then option_map w.Cycles (times_of rest)
    else if bytes_eq name (codes "starts") then option_map w.Starts (starts_asked rest)
    else if bytes_eq name (codes "audit") then alone w.Audit rest
    else if bytes_eq name (codes "version") then alone w.Version rest
    else None

-- the words are `run` or `run w`
abbrev pub IsRun : Option Word → Type 0
IsRun (Some (w.Run workers)) = Unit {0}
IsRun _ = ⊥

-- the task of a word; the number of workers changes none of it
abbrev pub task : Word → Task
task (w.Run workers) = Reads reporting_run
task (w.Make town) = Writes (deck_text (made town.seed town.nodes))
task (w.Brief town workers) = Writes (brief_text (made town.seed town.nodes))
task w.Counts = Reads (of_whole (answer_after counts_answer))
task w.Equisat = Reads (of_whole (answer_after equisat_answer))
task w.Version = Writes version_text
task w.Audit = Reads (of_whole (answer_after audit_answer))
task (w.Scan asked) = Reads (of_whole (answer_after (scan_answer asked.times)))
task (w.Cycles asked) = Reads (of_whole (answer_after (cycles_answer asked.times)))
task (w.Starts asked) = Reads (of_whole (answer_after (starts_answer asked.seed asked.count asked.from)))

-- the task of words; none where the program doesn't take them
abbrev pub task_of : List (List ℕ) → Option Task
task_of words = option_map task (word_of words)

-- the steps of a word, where all are counted: of `run` and `brief` with one worker, and of `audit` at most. Other words
-- take none: each climb of `scan`, `cycles` and `starts` counts on a counter of its own
abbrev pub WordSteps : Word → Option (List ℕ) → Option (List ℕ) → ℕ → ℕ → Status → Type 0
WordSteps (w.Run workers) left left_new steps steps_new status =
    workers ≡ 1 → StepsTaken deck_answering left left_new steps steps_new status
WordSteps (w.Brief town workers) left left_new steps steps_new status =
    workers ≡ 1 → TextSteps (brief_steps (made town.seed town.nodes)) steps steps_new status
WordSteps w.Audit left left_new steps steps_new status =
    StepsWithin (most_after audit_most) left left_new steps steps_new
WordSteps _ left left_new steps steps_new status = steps_new ≡ steps
