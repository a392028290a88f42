-- The view of a reporter, and its invariant.
use Rattle.std.specs.Prelude.{ℕ, ◌≡◌, ◌*◌, ◌≤◌, true, List, length, Option, None, IfSome, IfNone}
use Rattle.std.specs.Option.{option_map_or}
use Rattle.transyt_deck.specs.Deck.{start, line_count, is_open, ReaderValue}
use Rattle.transyt_session.specs.Session.{SessionValue}
use Rattle.transyt_desks.specs.Desks.{desk_zero}
use Rattle.transyt_line_answers.specs.Report.{RunState, InDeck, InSession}
use Rattle.transyt_reporter.specs.Conditions.{AreReady}

-- a reporter: how many workers, how many lines it has counted, its reader of cards, and from END on its desks
pub record ReporterValue : Type 0 where
  pub workers : ℕ
  pub lines : ℕ
  pub cards : ReaderValue
  pub desks : Option (List SessionValue)

-- the state after its lines
abbrev pub state_of : ReporterValue → RunState
state_of r = option_map_or (λ desks. InSession (desk_zero desks)) r.desks (InDeck r.cards.deck)

-- a reporter of these
abbrev pub reporter_of : ℕ → ℕ → ReaderValue → Option (List SessionValue) → ReporterValue
reporter_of workers lines cards desks = record { workers = workers; lines = lines; cards = cards; desks = desks }

-- a reporter to which no line came
abbrev pub new_reporter : ℕ → ReporterValue
new_reporter workers = reporter_of workers 0 (record { deck = start; live = true }) None

-- the invariant of desks for so many workers after so many lines
pub record AreKept (workers lines : ℕ) (desks : List SessionValue) : Type 0 where
  pub ready : AreReady desks
  pub len : length desks ≡ workers
  pub work : (desk_zero desks).work ≤ 8589934592 * lines

-- the invariant of a reporter
pub record IsReporter (r : ReporterValue) : Type 0 where
  pub workers : r.workers ≤ 8
  pub some : 1 ≤ r.workers
  pub cards : line_count r.cards.deck ≤ r.lines
  pub desks : IfSome r.desks (AreKept r.workers r.lines)

-- the run goes on: END was accepted, or the reader of cards takes the next line
abbrev pub IsLive : ReporterValue → Type 0
IsLive r = IfNone r.desks ((is_open r.cards.deck ≡ true) × (r.cards.live ≡ true))
