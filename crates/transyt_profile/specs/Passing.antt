-- Platoons that go by side by side, step by step, twice round the cycle. No public clause cites it.
use Rattle.std.specs.Prelude.{◌≡◌, ℕ, ◌+◌, ◌*◌, ◌%◌, ◌^◌, ◌<◌, ◌≤◌, List, length, slice_index, ◌-◌, slice_index_or, sum, All}
use Rattle.std.specs.Prelude.{bit_or, fold, if◌then◌else◌, ltb}
use Rattle.transyt_profile.specs.Platoon.{smoothed}
use Rattle.transyt_profile.specs.Arriving.{sent}
use Rattle.transyt_profile.specs.declared.platoon.Platoon.{Platoon}
use Rattle.transyt_profile.specs.declared.passing.Passing.{Passing}
use Rattle.transyt_profile.specs.declared.shares.Shares.{Shares}

-- ys has the first n steps of the second turn of xs in their places: t steps of travel at k percent lead each there
abbrev pub Placed : List ℕ → List ℕ → ℕ → ℕ → ℕ → Type 0
Placed xs ys t k n = (m : ℕ) → m < n → slice_index ys ((m + t) % length xs) ≡ smoothed xs (k * t) (length xs + 1 + m)

-- the steps of a platoon
abbrev pub steps_of : Platoon → ℕ
steps_of p = length p.leaving.now

-- all values of a platoon are below its travel's limit
abbrev pub Fits : Platoon → Type 0
Fits p = All (λ v. v < p.travel.now.limit) (sent p)

-- the smoothed profile of a platoon after j steps of both turns
abbrev pub gone_by : Platoon → ℕ → ℕ
gone_by p j = smoothed (sent p) (p.travel.now.percent * p.travel.now.time) j

-- The passing value is one of a platoon whose values fit, and is below its limit; the numbers are those of its travel.
pub record IsOf (p : Platoon) (g : Passing) : Type 0 where
  pub small : g.value < p.travel.now.limit
  pub factor : g.factor ≡ p.travel.now.before_factor
  pub place : g.place ≡ p.travel.now.place
  pub fits : Fits p

-- after j steps of both turns of a platoon it is the smoothed value of the last step
pub record HasPassed (p : Platoon) (j : ℕ) (g : Passing) : Type 0 where
  pub value : g.value ≡ gone_by p j
  pub is : IsOf p g

-- the same of each of some platoons
abbrev pub HavePassed : List Platoon → ℕ → List Passing → Type 0
HavePassed ps j gs =
    (i : ℕ) (d : Platoon) (e : Passing) → i < length ps → HasPassed (slice_index_or ps i d) j (slice_index_or gs i e)

-- at place j of two turns, after i steps of which the first arrives at `first`, where step m brings g m
abbrev pub arrived_by : (ℕ → ℕ) → ℕ → ℕ → ℕ → ℕ
arrived_by g first i j = if ltb j first then 0 else (if ltb j (first + i) then g (j - first) else 0)

-- the arrivals of a platoon at place j of two turns after i steps of its second turn
abbrev pub arrived : ℕ → ℕ → Platoon → ℕ
arrived i j p = arrived_by (λ m. gone_by p (steps_of p + 1 + m)) (p.travel.now.time % steps_of p) i j

-- the product of the value that sets out at step k with the first factor of the travel
abbrev pub product_at : Platoon → ℕ → ℕ
product_at p k = slice_index (sent p) k * p.travel.now.starting_factor

-- a platoon's products are ready in this lane of four
abbrev pub InLane : ℕ → List ℕ → Platoon → Type 0
InLane lane lanes p = (k : ℕ) → k < steps_of p → slice_index lanes (4 * k + lane) ≡ product_at p k

-- The shares of a platoon come to this sum and these bits, and its products are ready in this lane of four where they fit.
pub record AreShared (p : Platoon) (lane : ℕ) (lanes : List ℕ) (shares : Shares) : Type 0 where
  pub total : shares.total ≡ sum (sent p)
  pub bits : shares.bits ≡ fold bit_or 0 (sent p)
  pub most : All (λ v. v ≤ shares.bits) (sent p)
  pub ready : All (λ v. v < 2 ^ 22) (sent p) → InLane lane lanes p

-- Platoons of as many steps as the cycle, each with its products ready in a lane.
pub record AreReady (steps : ℕ) (lanes : List ℕ) (ps : List Platoon) : Type 0 where
  pub same : All (λ p. steps_of p ≡ steps) ps
  pub fit : All Fits ps
  pub ready : (i : ℕ) (d : Platoon) → i < length ps → InLane i lanes (slice_index_or ps i d)

-- these are the sums of the platoons
abbrev pub AreTotals : List ℕ → List Platoon → Type 0
AreTotals totals ps = (i : ℕ) (d : Platoon) → i < length ps → slice_index totals i ≡ sum (sent (slice_index_or ps i d))
