-- The worked links, computed from the definitions: the root is the one number between whose squares they lie.
use Rattle.std.proofs.Common.{◌≡◌, ℕ, ◌+◌, ◌-◌, ◌*◌, ◌/◌, ◌<◌, ◌≤◌, [], ◌∷◌, map, ap, sym, lit<, lit≤}
use Rattle.transyt_num.proofs.RootLaws.{root_is}
use Rattle.transyt_delay.specs.declared.terms.Terms.{Terms}
use Rattle.transyt_delay.specs.declared.figures.Figures.{Figures}
use Rattle.transyt_delay.specs.Figures.{index_of, figures, in_period, stops_of, under_root, uniform_of}
use Rattle.transyt_delay.specs.WorkedLinks.{usual, great_penalty, short_period, oversaturated, worked}

-- the arrivals of the period
abbrev come : Terms → ℕ
come terms = in_period terms.frame terms.arrivals

-- GO of the period
abbrev room : Terms → ℕ
room terms = in_period terms.frame terms.room

-- the figures with this root
abbrev with_root : Terms → ℕ → Figures
with_root terms root =
    let random = (root + come terms - room terms) / 4 in
    record {
      uniform = uniform_of terms;
      random = random;
      stops = stops_of terms;
      index = index_of (uniform_of terms) random (stops_of terms) terms.frame.stop_penalty terms.weights;
    }

-- the number between whose squares they lie is the root
by_root : (terms : Terms) (r : ℕ) → r * r ≤ under_root (come terms) (room terms)
    → under_root (come terms) (room terms) < (r + 1) * (r + 1) → figures terms ≡ with_root terms r
by_root terms r low high = ap (with_root terms) (sym (root_is (under_root (come terms) (room terms)) r low high))

-- each has the figures beside it
pub links : map (λ row. figures row.0) worked ≡ map (λ row. row.1) worked
links = λ j. by_root usual 78643077 (lit≤ tt) (lit< tt) j ∷ by_root great_penalty 78643077 (lit≤ tt) (lit< tt) j
    ∷ by_root short_period 27081479 (lit≤ tt) (lit< tt) j ∷ by_root oversaturated 80585184 (lit≤ tt) (lit< tt) j ∷ []
