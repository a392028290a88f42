-- The character plot of a link.
use Rattle.std.specs.Prelude.{ℕ, ◌+◌, ◌*◌, ◌/◌, ◌%◌, ◌==◌, nat_lt, List, [], ◌∷◌, ◌++◌, map, flat_map, codes, length}
use Rattle.std.specs.Prelude.{slice_index, if◌then◌else◌}
use Rattle.std.specs.List.{range_with_len}
use Rattle.transyt_net.specs.Parts.{Network, link_of}
use Rattle.transyt_sweep.specs.Sweeps.{evaluated}
use Rattle.transyt_io.specs.Forms.{form_line}
use Rattle.transyt_report.specs.Measures.{greatest}

-- the greatest of all values of three profiles
abbrev pub scale_of : List ℕ → List ℕ → List ℕ → ℕ
scale_of arrivals go out = greatest (greatest (greatest 0 arrivals) go) out

-- how many letters stand for a value, of 20 for the scale
abbrev pub letters : ℕ → ℕ → ℕ
letters scale v = if scale == 0 then 0 else 20 * v / scale

-- the character at a place of a field: the letter, and dots after the letters
abbrev pub mark : ℕ → ℕ → ℕ → ℕ
mark letter count place = if nat_lt place count then letter else 46

-- a field of 20 characters
unfoldable pub field : ℕ → ℕ → List ℕ
field letter count = map (mark letter count) (range_with_len 0 20)

-- a step in three digits
abbrev pub three_digits : ℕ → List ℕ
three_digits i = (48 + i / 100) ∷ (48 + i / 10 % 10) ∷ (48 + i % 10) ∷ []

-- the line of a step: the step, arrivals, GO, departures
unfoldable pub step_line : ℕ → ℕ → ℕ → ℕ → ℕ → List ℕ
step_line scale i arrivals go out =
    three_digits i ++ 32 ∷ (field 73 (letters scale arrivals) ++ 124 ∷ (field 71 (letters scale go)
    ++ 124 ∷ (field 79 (letters scale out) ++ 10 ∷ [])))

-- the line of a step of three profiles
abbrev pub step_lines : ℕ → List ℕ → List ℕ → List ℕ → ℕ → List ℕ
step_lines scale arrivals go out i = step_line scale i (slice_index arrivals i) (slice_index go i) (slice_index out i)

-- the first line: the link's number and the scale
unfoldable pub scale_line : ℕ → ℕ → List ℕ
scale_line number scale = form_line (codes "PLOT # SCALE #") (number ∷ scale ∷ [])

-- the plot of three profiles: its first line, and one for each step
abbrev pub plot_of : ℕ → List ℕ → List ℕ → List ℕ → List ℕ
plot_of number arrivals go out =
    scale_line number (scale_of arrivals go out)
    ++ flat_map (step_lines (scale_of arrivals go out) arrivals go out) (range_with_len 0 (length arrivals))

-- the plot of the link at a place
abbrev pub plot_text : Network → ℕ → List ℕ
plot_text net l =
    plot_of (link_of net l).number (evaluated net l).arrivals (evaluated net l).go (evaluated net l).out
