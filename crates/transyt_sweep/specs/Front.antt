-- The rows while the links are worked out one after another, and the rows of an evaluation.
use Rattle.std.specs.Prelude.{◌≡◌, ℕ, ◌<◌, ◌≤◌, ◌==◌, Bool, true, ◌&&◌, ◌||◌, nat_lt, List, length}
use Rattle.std.specs.Prelude.{if◌then◌else◌}
use Rattle.transyt_profile.specs.Profile.{uniform}
use Rattle.transyt_net.specs.Parts.{Network}
use Rattle.transyt_sweep.specs.Sweeps.{out_of, evaluated}
use Rattle.transyt_kept.specs.Rows.{RowsValue, out_at, shown_at}
use Rattle.transyt_sweep.specs.Reading.{Fits}

-- whether link k at sweep t is worked out before link l at sweep s
abbrev pub is_before : ℕ → ℕ → ℕ → ℕ → Bool
is_before t k s l = nat_lt t s || ((t == s) && nat_lt k l)

-- the departures are those of f before link l at sweep s, and those of g from it on
pub record AreMixed (net : Network) (f g : ℕ → ℕ → List ℕ) (s l : ℕ) (rows : RowsValue) : Type 0 where
  pub fits : Fits net rows
  pub outs : (t k : ℕ) → t ≤ net.frame.sweeps → k < length net.links
      → out_at rows t k ≡ (if is_before t k s l then f t k else g t k)

-- link k at the last sweep is that of the evaluation, where it is worked out before link l at sweep s
abbrev pub AreShown : Network → ℕ → ℕ → RowsValue → Type 0
AreShown net s l rows = (k : ℕ) → k < length net.links → is_before net.frame.sweeps k s l ≡ true
    → shown_at rows k ≡ evaluated net k

-- the rows are the evaluation of the network
pub record AreEvaluation (net : Network) (rows : RowsValue) : Type 0 where
  pub fits : Fits net rows
  pub outs : (s l : ℕ) → s ≤ net.frame.sweeps → l < length net.links → out_at rows s l ≡ out_of net s l
  pub shown : (l : ℕ) → l < length net.links → shown_at rows l ≡ evaluated net l

-- nothing leaves
abbrev pub empty_out : Network → ℕ → ℕ → List ℕ
empty_out net s l = uniform net.frame.step_count 0

-- the rows are the evaluation as far as link l at sweep s
pub record AreFilled (net : Network) (s l : ℕ) (rows : RowsValue) : Type 0 where
  pub outs : AreMixed net (out_of net) (empty_out net) s l rows
  pub shown : AreShown net s l rows
