-- Due: its count, step by step and at most, and what stays where a link isn't due.
use Rattle.std.proofs.Common.{◌≡◌, ℕ, ◌+◌, ◌-◌, ◌≤◌, Bool, true, false, not, ◌||◌, ap, sym, ◌∙◌, arith}
use Rattle.std.proofs.Common.{◌*◌, length, get_or, subst, if◌then◌else◌, sum_by}
use Rattle.std.specs.List.{list_any, range_with_len}
use Rattle.std.specs.Option.{option_map_or}
use Rattle.std.specs.Str.{bytes_eq}
use Rattle.std.specs.Cmp.Lexicographic.{same_text}
use Rattle.std.proofs.lemmas.Bool.{or_parts, not-false}
use Rattle.std.proofs.lemmas.Bool.Decides.{nat_tests}
use Rattle.std.proofs.lemmas.Slice.Eq.{bytes_eq-Decides}
use Rattle.std.proofs.lemmas.List.{map-id}
use Rattle.std.proofs.lemmas.List.FromFn.{sum_by-map-range_with_len_more, length-range_with_len}
use Rattle.std.proofs.lemmas.List.Sums.{count_by-le-length, sum_by-le}
use Rattle.std.proofs.lemmas.Nat.{mul-le}
use Rattle.transyt_net.specs.Parts.{Network, SameShape}
use Rattle.transyt_net.specs.Valid.{IsValid}
use Rattle.transyt_sweep.specs.Sweeps.{out_of}
use Rattle.transyt_track.specs.Own.{Own, own, same_own, places_at}
use Rattle.transyt_track.specs.Due.{differs, read_differs, is_due, due_in, due_at, due_through, due}
use Rattle.transyt_track.proofs.ShapeLaws.{shape_count}

-- the sum of a range with one number more
sum_more : (f : ℕ → ℕ) (a n j : ℕ) → a + n ≡ j
    → sum_by f (range_with_len a (n + 1)) ≡ sum_by f (range_with_len a n) + f j
sum_more f a n j at =
    sym (ap (sum_by f) (map-id (range_with_len a (n + 1))))
    ∙ sum_by-map-range_with_len_more f (λ (m : ℕ). m) a n j at
    ∙ ap (λ ms. sum_by f ms + f j) (map-id (range_with_len a n))

-- one for a link that is due
abbrev pub one_if : Bool → ℕ
one_if due = if due then 1 else 0

module _ (a b : Network) where
  pub due_in_more : (s l : ℕ) → due_in a b s (l + 1) ≡ due_in a b s l + one_if (is_due a b s l)
  unfolding due_in
  due_in_more s l = sum_more (λ m. one_if (is_due a b s m)) 0 l l (omega arith)

  pub due_in_few : (s l : ℕ) → due_in a b s l ≤ l
  unfolding due_in
  due_in_few s l = omega (arith, count_by-le-length (is_due a b s) (range_with_len 0 l), length-range_with_len 0 l)

  pub due_through_more : (s : ℕ) → 1 ≤ s → due_through a b (s - 1) + due_at a b s ≡ due_through a b s
  unfolding due_through
  due_through_more s first =
      let last : s - 1 + 1 ≡ s = omega arith in
      sym (sum_more (due_at a b) 1 (s - 1) s (omega arith))
      ∙ ap (λ n. sum_by (due_at a b) (range_with_len 1 n)) last

  -- rows that don't differ are equal
  pub same_out : (s j : ℕ) → differs a b s j ≡ false → out_of a s j ≡ out_of b s j
  unfolding differs
  same_out s j e = same_text (out_of a s j) (out_of b s j) (sym (not-false (bytes_eq (out_of a s j) (out_of b s j)) e))

-- own data that pass the test are equal
pub own_told : (x y : Own) → same_own x y ≡ true → x ≡ y
own_told x y e = grind (arith, nat_tests, bytes_eq-Decides)

-- nothing of a link that isn't due differs: its own data, and what it reads
pub none_differs : (a b : Network) (s l : ℕ) → is_due a b s l ≡ false
    → (own a l ≡ own b l) × (list_any (read_differs a b s l) (places_at a l).feeders ≡ false)
    × (option_map_or (read_differs a b s l) (places_at a l).rule false ≡ false)
none_differs a b s l none =
    let passes = same_own (own a l) (own b l) in
    let fed = list_any (read_differs a b s l) (places_at a l).feeders in
    let both = or_parts (not passes || fed) (option_map_or (read_differs a b s l) (places_at a l).rule false) none in
    let parts = or_parts (not passes) fed both.0 in
    (own_told (own a l) (own b l) (not-false passes parts.0), parts.1, both.1)

-- at the first sweeps together at most so many as there are sweeps and links
due_through_most : (a b : Network) (n : ℕ) → due_through a b n ≤ n * length a.links
unfolding due_through
due_through_most a b n =
    let sweeps = range_with_len 1 n in
    subst (λ m. sum_by (due_at a b) sweeps ≤ m * length a.links) (length-range_with_len 1 n)
    (sum_by-le (due_at a b) (length a.links) sweeps (λ k d h. due_in_few a b (get_or sweeps k d) (length a.links)))

-- and few at the first sweeps of a valid network
pub due_through_few : (a b : Network) → SameShape a b → IsValid b → (n : ℕ) → n ≤ b.frame.sweeps
    → due_through a b n ≤ 8000
due_through_few a b same valid n within =
    let swept : n ≤ 8 = omega (arith, valid.sound.frame.sweeps, within) in
    let few : length a.links ≤ 1000 = omega (arith, valid.sound.link_count, shape_count a b same) in
    omega (arith, due_through_most a b n, mul-le n (length a.links) 8 1000 swept few)

-- so many in all
pub due_most : (a b : Network) → due a b ≤ a.frame.sweeps * length a.links
unfolding due
due_most a b = due_through_most a b a.frame.sweeps

-- and few of valid networks
pub due_few : (a b : Network) → SameShape a b → IsValid b → due a b ≤ 8000
unfolding due
due_few a b same valid =
    let sweeps : a.frame.sweeps ≡ b.frame.sweeps = (λ j. (same j).frame.sweeps) in
    due_through_few a b same valid a.frame.sweeps (omega (arith, sweeps))
