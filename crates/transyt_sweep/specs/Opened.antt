-- The rows of a network when they are opened, and while its links are started one after another.
use Rattle.std.specs.Prelude.{◌≡◌, ℕ, length}
use Rattle.transyt_net.specs.Parts.{Network}
use Rattle.transyt_kept.specs.Rows.{RowsValue, empty_rows}
use Rattle.transyt_sweep.specs.Sweeps.{out_of}
use Rattle.transyt_sweep.specs.Front.{AreMixed, empty_out}

-- before link l at sweep s the departures are those of the evaluation, and all else is 0
pub record AreStarted (net : Network) (s l : ℕ) (rows : RowsValue) : Type 0 where
  pub outs : AreMixed net (out_of net) (empty_out net) s l rows
  pub rest : rows
      ≡ record (empty_rows net.frame.step_count net.frame.sweeps (length net.links)) { outs = rows.outs }

-- new rows: before the first sweep the total flow of each link leaves it, and all else is 0
abbrev pub AreOpened : Network → RowsValue → Type 0
AreOpened net rows = AreStarted net 1 0 rows
