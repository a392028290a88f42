-- The departures of each link at each sweep, by the sweep at which each is read.
use Rattle.std.proofs.Common.{◌≡◌, ℕ, zero, suc, ◌-◌, ◌≤◌, Bool, List, refl, ap, sym, ◌∙◌, arith}
use Rattle.std.proofs.Common.{nat_lt, if◌then◌else◌, ◌==◌}
use mathlib.Core.Path.{fun_ext}
use Rattle.std.proofs.lemmas.Bool.Decides.{nat_tests}
use Rattle.transyt_net.specs.Parts.{Network}
use Rattle.transyt_sweep.specs.Cell.{cell_by}
use Rattle.transyt_sweep.specs.Sweeps.{seen, out_of, start, read_of, cell_at, evaluated}

-- where one link more was worked out, those before it still were
one_more : (f : ℕ → List ℕ) (x : List ℕ) (j l : ℕ)
    → (if j == l then f l else if nat_lt j l then f j else x) ≡ (if nat_lt j (suc l) then f j else x)
one_more f x j l = grind (arith, nat_tests)

-- a link before l was worked out of the departures that were seen there, any other is as it was before
pub seen_is : (net : Network) (before : ℕ → List ℕ) (l j : ℕ)
    → seen net before l j ≡ (if nat_lt j l then (cell_by net (seen net before j) j).out else before j)
unfolding seen
seen_is net before zero j = grind (arith, nat_tests)
seen_is net before (suc l) j =
    ap (λ rest. if j == l then (cell_by net (seen net before l) l).out else rest) (seen_is net before l j)
    ∙ one_more (λ k. (cell_by net (seen net before k) k).out) (before j) j l

-- before the first sweep the total flow leaves
pub out_of_start : (net : Network) (l : ℕ) → out_of net 0 l ≡ start net l
unfolding out_of
out_of_start net l = refl

out_of_more : (net : Network) (s l : ℕ) → out_of net (suc s) l ≡ (cell_by net (seen net (out_of net s) l) l).out
unfolding out_of
out_of_more net s l = refl

-- they are read at this sweep or at the one before
at_either : (b : Bool) (f : ℕ → List ℕ) (s : ℕ) → (if b then f (suc s) else f s) ≡ f (if b then suc s else suc s - 1)
at_either b f s = grind (arith, nat_tests)

-- the departures of link j that were seen are those that are read
seen_read : (net : Network) (s l j : ℕ) → seen net (out_of net s) l j ≡ read_of net (suc s) l j
seen_read net s l j =
    seen_is net (out_of net s) l j ∙ ap (λ x. if nat_lt j l then x else out_of net s j) (sym (out_of_more net s j))
    ∙ at_either (nat_lt j l) (λ t. out_of net t j) s

-- at each sweep a link is worked out of what it reads
pub out_of_pair : (net : Network) (s l : ℕ) → 1 ≤ s → out_of net s l ≡ (cell_at net s l).out
out_of_pair net zero l first = absurd (omega arith)
out_of_pair net (suc s) l first =
    out_of_more net s l ∙ ap (λ r. (cell_by net r l).out) (fun_ext (λ j. seen_read net s l j))

-- the evaluation of a link is the link worked out at the last sweep
pub evaluated_is : (net : Network) (l : ℕ) → evaluated net l ≡ cell_at net net.frame.sweeps l
unfolding evaluated
evaluated_is net l = refl
