-- CHART: the cycle of the whole network, a character for each step of each link.
use Rattle.std.specs.Prelude.{ℕ, nat_lt, List, [], ◌∷◌, ◌++◌, map, flat_map, codes, length, slice_index, if◌then◌else◌}
use Rattle.std.specs.List.{range_with_len}
use Rattle.transyt_net.specs.Parts.{Network, link_of}
use Rattle.transyt_sweep.specs.Sweeps.{evaluated}
use Rattle.transyt_io.specs.Forms.{filled, form_line}

-- the character of a step, by its GO and the queue at its end: Q where a queue goes, G where the green has no queue, q
-- where a queue stands, a dot elsewhere
abbrev pub step_mark : ℕ → ℕ → ℕ
step_mark go queue =
    if nat_lt 0 go then (if nat_lt 0 queue then 81 else 71) else (if nat_lt 0 queue then 113 else 46)

-- the character of step i
abbrev pub mark_at : List ℕ → List ℕ → ℕ → ℕ
mark_at go queue i = step_mark (slice_index go i) (slice_index queue i)

-- the characters of a cycle
abbrev pub cycle_marks : List ℕ → List ℕ → List ℕ
cycle_marks go queue = map (mark_at go queue) (range_with_len 0 (length go))

-- the line of a link by its number, its GO and its queue
unfoldable pub chart_line : ℕ → List ℕ → List ℕ → List ℕ
chart_line number go queue = filled (codes "CHART # ") (number ∷ []) ++ (cycle_marks go queue ++ 10 ∷ [])

-- the line of the link at a place
abbrev pub chart_line_at : Network → ℕ → List ℕ
chart_line_at net l = chart_line (link_of net l).number (evaluated net l).go (evaluated net l).queue

-- the last line
unfoldable pub chart_end : List ℕ
chart_end = form_line (codes "END CHART") []

-- CHART: each link, in card order, and the last line
abbrev pub chart_text : Network → List ℕ
chart_text net = flat_map (chart_line_at net) (range_with_len 0 (length net.links)) ++ chart_end
