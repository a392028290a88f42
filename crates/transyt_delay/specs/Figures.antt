-- The figures of a link, its part of the performance index among them.
use Rattle.std.specs.Prelude.{ℕ, ◌+◌, ◌*◌, ◌/◌, ◌-◌, ◌^◌, ◌<◌, ◌≤◌}
use Rattle.transyt_parts.specs.declared.link.Weights.{Weights}
use Rattle.std.specs.Int.{abs_diff}
use Rattle.transyt_num.specs.Root.{root}
use Rattle.transyt_parts.specs.Valid.{AreWeights}
use Rattle.transyt_delay.specs.declared.terms.Terms.{Terms}
use Rattle.transyt_delay.specs.declared.terms.TermsFrame.{TermsFrame}
use Rattle.transyt_delay.specs.declared.figures.Figures.{Figures}

-- weighted delay and weighted stops; a stop weighs its penalty in hundredths, rounded down
abbrev pub index_of : (uniform random stops stop_penalty : ℕ) → Weights → ℕ
index_of uniform random stops stop_penalty weights =
    weights.delay * (uniform + random) + weights.stop * stop_penalty * stops / 100

-- the limits that the figures need
pub record InLimits (terms : Terms) : Type 0 where
  pub arrivals : terms.arrivals < 2 ^ 55
  pub room : terms.room < 2 ^ 55
  pub queued : terms.queued < 2 ^ 55
  pub stopped : terms.stopped < 2 ^ 55
  pub cycle : 30 ≤ terms.frame.cycle
  pub step_count : 0 < terms.frame.step_count
  pub period : terms.frame.period ≤ 120
  pub stop_penalty : terms.frame.stop_penalty ≤ 9999
  pub weights : AreWeights terms.weights

-- the total of the period, by that of a cycle, rounded down
abbrev pub in_period : TermsFrame → ℕ → ℕ
in_period frame total = 60 * frame.period * total / frame.cycle

-- the number whose root the random delay takes, where x come in the period and y can go
abbrev pub under_root : ℕ → ℕ → ℕ
under_root x y = abs_diff x y * abs_diff x y + 4000000 * x

-- The random delay where x come in the period and y can go, rounded down. The root is never below y - x, so the
-- difference never is below 0.
abbrev pub random_delay : ℕ → ℕ → ℕ
random_delay x y = (root (under_root x y) + x - y) / 4

-- the mean queue over the steps, rounded down
abbrev pub uniform_of : Terms → ℕ
uniform_of terms = terms.queued / terms.frame.step_count

-- the random delay of the arrivals, before any cut, and of GO
abbrev pub random_of : Terms → ℕ
random_of terms = random_delay (in_period terms.frame terms.arrivals) (in_period terms.frame terms.room)

-- stops per second, rounded down
abbrev pub stops_of : Terms → ℕ
stops_of terms = terms.stopped / terms.frame.cycle

-- the figures of a link from its terms
abbrev pub figures : Terms → Figures
figures terms = record {
  uniform = uniform_of terms;
  random = random_of terms;
  stops = stops_of terms;
  index = index_of (uniform_of terms) (random_of terms) (stops_of terms) terms.frame.stop_penalty terms.weights;
}
