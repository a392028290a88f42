-- The kept index: the sum of the links' indexes.
use Rattle.std.proofs.Common.{◌≡◌, ℕ, ◌+◌, ◌-◌, ◌*◌, ◌^◌, ◌<◌, ◌≤◌, List, length, get_or, set, All, sum_by, arith}
use Rattle.std.proofs.lemmas.List.Sums.{sum_by-set, sum_by-le, get_or-le-sum_by}
use Rattle.transyt_delay.specs.declared.figures.Figures.{Figures}
use Rattle.transyt_kept.specs.Cell.{AreSmall}

abbrev by_index : Figures → ℕ
by_index f = f.index

-- with one link's figures set, the sum goes by the difference
pub weighed_sum : (figures : List Figures) (l old index : ℕ) (f d : Figures) → l < length figures
    → index ≡ sum_by by_index figures → old ≡ (get_or figures l d).index
    → index - old + f.index ≡ sum_by by_index (set figures l f)
weighed_sum figures l old index f d inside sum was =
    omega (arith, sum_by-set by_index figures l f d inside, get_or-le-sum_by by_index figures l d inside)

-- the sum of a thousand indexes
pub sum_fits : (figures : List Figures) (index : ℕ) → index ≡ sum_by by_index figures → length figures ≤ 1000
    → All AreSmall figures → index ≤ 1000 * 2 ^ 89
sum_fits figures index sum few small =
    let each : All (λ f. by_index f ≤ 2 ^ 89) figures = λ k d h. let one = small k d h in omega (arith, one.index) in
    omega (arith, sum_by-le by_index (2 ^ 89) figures each)
