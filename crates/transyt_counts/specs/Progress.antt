-- How a table is read. No public clause cites these.
use Rattle.std.specs.Prelude.{ℕ, ◌≡◌, true, List, Err}
use Rattle.csv.specs.declared.reader.Reader.{Reader}
use Rattle.csv.specs.declared.reader.Trim.TheVariants as trim
use Rattle.csv.specs.Reading.{Ready, default_config, reader_config, reader_trim, is_flexible}
use Rattle.transyt_net.specs.Parts.{Network}
use Rattle.transyt_counts.specs.declared.counts.CountStop.{CountStop}
use Rattle.transyt_counts.specs.declared.counts.CountStop.TheVariants as stop
use Rattle.transyt_counts.specs.Rows.{read_row}

-- a reader that reads records of any length, with commas, no header row and no trimming
pub record IsReading {R : Type 0} (reader : Reader R) : Type 0 where
  pub trims : reader_trim reader ≡ trim.None
  pub ready : Ready reader
  pub flexible : is_flexible reader ≡ true
  pub config : reader_config reader ≡ default_config

-- a row is refused by its code; want of memory may come at any time
abbrev pub RefusesRow : Network → ℕ → List (List ℕ) → CountStop → Type 0
RefusesRow net row fields (stop.Refused number code) = (number ≡ row) × (read_row net row fields ≡ Err code)
RefusesRow net row fields stop.Memory = Unit {0}
