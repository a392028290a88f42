-- All of one link at one sweep: arrivals, GO, queue, departures and figures.
use Rattle.std.specs.Prelude.{◌≡◌, ℕ, ◌^◌, ◌<◌, List, length}
use Rattle.transyt_delay.specs.declared.figures.Figures.{Figures}

-- a link at a sweep: arrivals before any cut, GO, the queue, departures and the figures
pub record CellValue : Type 0 where
  pub arrivals : List ℕ
  pub go : List ℕ
  pub queue : List ℕ
  pub out : List ℕ
  pub figures : Figures

-- each profile has a value for each of n steps
pub record HasSteps (n : ℕ) (c : CellValue) : Type 0 where
  pub arrivals : length c.arrivals ≡ n
  pub go : length c.go ≡ n
  pub queue : length c.queue ≡ n
  pub out : length c.out ≡ n

-- figures of these numbers
abbrev pub new_figures : ℕ → ℕ → ℕ → ℕ → Figures
new_figures uniform random stops index =
    record { uniform = uniform; random = random; stops = stops; index = index }

-- the figures that stand for none
abbrev pub no_figures : Figures
no_figures = new_figures 0 0 0 0

-- figures that can be weighed and summed
pub record AreSmall (f : Figures) : Type 0 where
  pub uniform : f.uniform < 2 ^ 63
  pub random : f.random < 2 ^ 63
  pub index : f.index < 2 ^ 89
