-- The ranges of the numbers of cards. Each limit stands here alone.
use Rattle.std.specs.Prelude.{ℕ, ◌≤◌, Bool, ◌&&◌, nat_le}

-- whether a number is one of low to high
abbrev pub within : ℕ → ℕ → ℕ → Bool
within low high n = nat_le low n && nat_le n high

-- a number is one of low to high
abbrev pub IsWithin : ℕ → ℕ → ℕ → Type 0
IsWithin low high n = (low ≤ n) × (n ≤ high)

-- the least and the greatest number of a range
abbrev pub Range : Type 0
Range = ℕ × ℕ

-- whether a number is in a range
abbrev pub is_in : Range → ℕ → Bool
is_in range n = within range.0 range.1 n

-- a number is in a range
abbrev pub IsIn : Range → ℕ → Type 0
IsIn range n = IsWithin range.0 range.1 n

-- the cycle, in seconds
abbrev pub cycle_range : Range
cycle_range = (30, 240)

-- the steps of a cycle
abbrev pub step_count_range : Range
step_count_range = (10, 120)

-- how often the links are worked out
abbrev pub sweeps_range : Range
sweeps_range = (1, 8)

-- the minutes of the random delay
abbrev pub period_range : Range
period_range = (15, 120)

-- the penalty of a stop, in hundredths
abbrev pub most_penalty : ℕ
most_penalty = 9999

-- the dispersion, in per cent
abbrev pub most_dispersion : ℕ
most_dispersion = 100

-- the card number of a node or a link
abbrev pub number_range : Range
number_range = (1, 99999)

-- a flow in vehicles per hour
abbrev pub most_flow : ℕ
most_flow = 9999

-- a saturation flow in vehicles per hour
abbrev pub saturation_range : Range
saturation_range = (100, 9999)

-- the weight of a delay or of stops
abbrev pub most_weight : ℕ
most_weight = 999

-- a cruise time in seconds
abbrev pub cruise_range : Range
cruise_range = (1, 300)

-- the per cent of a give-way rule
abbrev pub most_percent : ℕ
most_percent = 400

-- the budget of a climb
abbrev pub budget_range : Range
budget_range = (1, 1000000)

-- the sizes of a climb's moves
abbrev pub most_sizes : ℕ
most_sizes = 16

-- the stages of a node, or of a link
abbrev pub most_stages : ℕ
most_stages = 8
