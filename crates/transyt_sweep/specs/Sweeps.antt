-- The sweeps: the links are worked out one after another, in card order, so many times.
use Rattle.std.specs.Prelude.{ℕ, zero, suc, ◌-◌, ◌==◌, nat_lt, List, length, map, sum, if◌then◌else◌}
use Rattle.std.specs.List.{range_with_len}
use Rattle.transyt_profile.specs.Profile.{uniform}
use Rattle.transyt_parts.specs.Parts.{total_flow}
use Rattle.transyt_net.specs.Parts.{Network, link_of, perstep}
use Rattle.transyt_sweep.specs.Cell.{CellValue, cell_by}

-- the sweep at which link l, at sweep s, reads link j: one that stands before it was worked out in this sweep
abbrev pub read_at : ℕ → ℕ → ℕ → ℕ
read_at s l j = if nat_lt j l then s else s - 1

-- the departures of a link before the first sweep: its total flow at each step
abbrev pub start : Network → ℕ → List ℕ
start net l = uniform net.frame.step_count (perstep net.frame (total_flow (link_of net l)))

-- the departures of link j when the links before l have been worked out in a sweep; `before` are those of the one before
unfoldable pub seen : Network → (ℕ → List ℕ) → ℕ → ℕ → List ℕ
seen net before zero j = before j
seen net before (suc l) j = if j == l then (cell_by net (seen net before l) l).out else seen net before l j

-- the departures of link l at sweep s
unfoldable pub out_of : Network → ℕ → ℕ → List ℕ
out_of net zero l = start net l
out_of net (suc s) l = (cell_by net (seen net (out_of net s) l) l).out

-- the departures that link l, at sweep s, reads of link j
abbrev pub read_of : Network → ℕ → ℕ → ℕ → List ℕ
read_of net s l j = out_of net (read_at s l j) j

-- link l worked out at sweep s
abbrev pub cell_at : Network → ℕ → ℕ → CellValue
cell_at net s l = cell_by net (read_of net s l) l

-- the evaluation of link l: the link worked out at the last sweep
unfoldable pub evaluated : Network → ℕ → CellValue
evaluated net l = cell_at net net.frame.sweeps l

-- the index of link l
abbrev pub index_at : Network → ℕ → ℕ
index_at net l = (evaluated net l).figures.index

-- the index of a network: the sum of its links' indexes
abbrev pub index : Network → ℕ
index net = sum (map (index_at net) (range_with_len 0 (length net.links)))
