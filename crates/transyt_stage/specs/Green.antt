-- When the signals of its node let a link run, and GO of a link that gives way to another.
use Rattle.std.specs.Prelude.{ℕ, ◌+◌, Bool, false, ◌&&◌, ◌||◌, not, nat_eq, nat_lt, nat_le, List, length, map}
use Rattle.std.specs.Prelude.{slice_index_or, if◌then◌else◌, ◌<◌, ◌≤◌, ◌⊎◌, ◌-◌, ◌*◌, ◌/◌, ◌==◌, max, slice_index}
use Rattle.std.specs.List.{list_any, range_with_len, Contains}
use Rattle.transyt_cycle.specs.Cycle.{minus_mod, step_before}
use Rattle.transyt_parts.specs.Parts.{NodeValue}
use Rattle.transyt_parts.specs.Plan.{stage_of, length_at}
use Rattle.transyt_net.specs.Parts.{Network, link_of, perstep}
use Rattle.transyt_net.specs.Edits.{the_node}

-- how many steps after the change to the stage at a place step i comes, round the cycle
abbrev pub since_change : ℕ → NodeValue → ℕ → ℕ → ℕ
since_change steps node k i = minus_mod steps i (node.offset + (stage_of node.stages k).change)

-- whether a link with these stages runs in the stage at a place; stages are numbered from 1
abbrev pub runs_in : List ℕ → ℕ → Bool
runs_in stages k = list_any (nat_eq (k + 1)) stages

-- whether the stage at a place shows the link at step i: the stage lasts, the link runs in it, and the intergreen is
-- over or the link runs in the stage before too; before the first stage stands the last
abbrev pub shows : ℕ → NodeValue → List ℕ → ℕ → ℕ → Bool
shows steps node stages i k =
    nat_lt (since_change steps node k i) (length_at steps node.stages k) && runs_in stages k
    && (nat_le (stage_of node.stages k).intergreen (since_change steps node k i)
    || runs_in stages (step_before (length node.stages) k))

-- whether some stage shows the link at step i
abbrev pub is_shown : ℕ → NodeValue → List ℕ → ℕ → Bool
is_shown steps node stages i = list_any (shows steps node stages i) (range_with_len 0 (length node.stages))

-- for each step of the cycle whether the link is shown at it
abbrev pub shown_of : ℕ → NodeValue → List ℕ → List Bool
shown_of steps node stages = map (is_shown steps node stages) (range_with_len 0 steps)

-- whether step i opens the link: it is shown at it, and not at the step before
abbrev pub opens : List Bool → ℕ → Bool
opens shown i = slice_index_or shown i false && not (slice_index_or shown (step_before (length shown) i) false)

-- whether it is shown at step i or at one of the steps of the end lag before it
abbrev pub is_held : List Bool → ℕ → ℕ → Bool
is_held shown end_lag i =
    list_any (λ n. slice_index_or shown (minus_mod (length shown) i n) false) (range_with_len 0 (end_lag + 1))

-- whether one of the steps of the start lag, up to step i, opens it
abbrev pub is_starting : List Bool → ℕ → ℕ → Bool
is_starting shown start_lag i = list_any (λ n. opens shown (minus_mod (length shown) i n)) (range_with_len 0 start_lag)

-- whether it is green at step i
abbrev pub green_at : List Bool → ℕ → ℕ → ℕ → Bool
green_at shown start_lag end_lag i = is_held shown end_lag i && not (is_starting shown start_lag i)

-- for each step of the cycle whether the link at a place is shown at it
abbrev pub shown_link : Network → ℕ → List Bool
shown_link net l = shown_of net.frame.step_count (the_node net (link_of net l).node) (link_of net l).stages

-- whether the link at a place is green at step i
abbrev pub is_green : Network → ℕ → ℕ → Bool
is_green net l i = green_at (shown_link net l) (link_of net l).start_lag (link_of net l).end_lag i

-- GO in step i, where `room` passes in a step of green
abbrev pub passed_at : List Bool → ℕ → ℕ → ℕ → ℕ → ℕ
passed_at shown start_lag end_lag room i = if green_at shown start_lag end_lag i then room else 0

-- GO of the link at a place, in each step: the saturation flow, and nothing where it isn't green
abbrev pub signal : Network → ℕ → List ℕ
signal net l =
    map (passed_at (shown_link net l) (link_of net l).start_lag (link_of net l).end_lag
    (perstep net.frame (link_of net l).saturation)) (range_with_len 0 net.frame.step_count)

-- the stage at place k shows the link that runs in these stages at step i, as a fact
pub record Shows (steps : ℕ) (node : NodeValue) (stages : List ℕ) (i k : ℕ) : Type 0 where
  pub stage : k < length node.stages
  pub lasts : since_change steps node k i < length_at steps node.stages k
  pub runs : Contains stages (k + 1)
  pub clear : ((stage_of node.stages k).intergreen ≤ since_change steps node k i)
      ⊎ Contains stages (step_before (length node.stages) k + 1)

-- the link at a place is shown at step i
abbrev pub IsShown : Network → ℕ → ℕ → Type 0
IsShown net l i = (k : ℕ) × Shows net.frame.step_count (the_node net (link_of net l).node) (link_of net l).stages i k

-- step i opens it
abbrev pub Opens : Network → ℕ → ℕ → Type 0
Opens net l i = IsShown net l i × (IsShown net l (step_before net.frame.step_count i) → ⊥)

-- it is green at step i
pub record IsGreen (net : Network) (l i : ℕ) : Type 0 where
  pub held : (n : ℕ) × (n < (link_of net l).end_lag + 1) × IsShown net l (minus_mod net.frame.step_count i n)
  pub started : (n : ℕ) → n < (link_of net l).start_lag → Opens net l (minus_mod net.frame.step_count i n) → ⊥

-- GO of one step, where `other` leaves the other link in it: a part of `other` less, rounded down, but a unit
-- at least; where nothing could go nothing can
abbrev pub yielded : ℕ → ℕ → ℕ → ℕ
yielded percent other go = if go == 0 then 0 else max 1 (go - percent * other / 100)

-- GO in step i
abbrev pub yielded_at : ℕ → List ℕ → List ℕ → ℕ → ℕ
yielded_at percent others goes i = yielded percent (slice_index others i) (slice_index goes i)

-- GO of a link that gives way, in each step
abbrev pub yielding : ℕ → List ℕ → List ℕ → List ℕ
yielding percent others goes = map (yielded_at percent others goes) (range_with_len 0 (length goes))
