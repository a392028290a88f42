-- Sums of rows, and rows of which nothing is cut.
use Rattle.std.proofs.Common.{◌≡◌, ◌^◌, ◌<◌, ◌≤◌, ℕ, List, length, sum, All, arith}
use Rattle.std.proofs.lemmas.Bool.Decides.{nat_tests}
use Rattle.std.proofs.lemmas.List.Sums.{sum_by-le}
use Rattle.transyt_profile.specs.StopLine.{arrivals_of}

-- the sum over a cycle is small where each step's value is
pub sum_small : (limit : ℕ) (xs : List ℕ) → limit ≤ 2 ^ 48 → length xs ≤ 120 → All (λ v. v < limit) xs → sum xs < 2 ^ 55
sum_small limit xs within few small =
    let each : All (λ v. v ≤ 2 ^ 48) xs = λ k d h. let one = small k d h in omega (arith, one) in
    omega (arith, sum_by-le (λ v. v) (2 ^ 48) xs each)

-- where no more comes than the green lets pass, all of it reaches the stop line
pub all_arrives : (come room : List ℕ) → sum come ≤ sum room → arrivals_of come room ≡ come
all_arrives come room less = grind (arith, nat_tests)
