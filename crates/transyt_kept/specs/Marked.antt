-- Rows with a mark.
use Rattle.std.specs.Prelude.{Bool, true, false, Option, Some, None}
use Rattle.transyt_kept.specs.Rows.{RowsValue}

-- Rows with a mark: the rows now, and those that were there when the mark was set, if one is open.
pub record KeptValue : Type 0 where
  pub now : RowsValue
  pub marked : Option RowsValue

-- rows with no mark
abbrev pub unmarked : RowsValue → KeptValue
unmarked rows = record { now = rows; marked = None }

-- these rows, if a mark is open
abbrev pub marked_by : Bool → RowsValue → Option RowsValue
marked_by true rows = Some rows
marked_by false rows = None
