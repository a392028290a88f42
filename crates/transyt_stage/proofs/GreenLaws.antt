-- The test of green, and the fact.
use Rattle.std.proofs.Common.{◌≡◌, ℕ, ◌+◌, ◌<◌, ◌≤◌, ◌⊎◌, Bool, true, false, ◌&&◌, not, List, length, get_or, nat_eq}
use Rattle.std.proofs.Common.{sym, ap, subst, arith}
use Rattle.std.specs.Bool.{Decides}
use Rattle.std.specs.List.{Contains, Any, list_any, range_with_len}
use Rattle.std.proofs.lemmas.List.Folds.{list_any_at, Any-from_list_any}
use Rattle.std.proofs.lemmas.List.FromFn.{get_or-map-range_with_len, length-map-range_with_len}
use Rattle.std.proofs.lemmas.Bool.{eq-eqb, eqb-true, leb-true, le-leb}
use Rattle.std.proofs.lemmas.Bool.Decides.{Decides-and, Decides-or, Decides-not, Decides-ltb, Decides-at, Decides-like}
use Rattle.transyt_cycle.specs.Cycle.{minus_mod, step_before}
use Rattle.transyt_cycle.proofs.CycleLaws.{minus_mod-lt, step_before-lt}
use Rattle.transyt_parts.specs.Parts.{NodeValue}
use Rattle.transyt_parts.specs.Plan.{stage_of, length_at}
use Rattle.transyt_net.specs.Parts.{Network, link_of}
use Rattle.transyt_net.specs.Edits.{the_node}
use Rattle.transyt_stage.specs.Green.{since_change, runs_in, shows, is_shown, shown_link, opens}
use Rattle.transyt_stage.specs.Green.{is_green, Shows, IsShown, Opens, IsGreen}
use Rattle.transyt_parts.proofs.BelowLaws.{some_below, found_below}

-- some number below a limit passes a test that decides a fact
Decides-any : (p : ℕ → Bool) (P : ℕ → Type 0) → ((k : ℕ) → Decides (p k) (P k)) → (m : ℕ)
    → Decides (list_any p (range_with_len 0 m)) ((k : ℕ) × (k < m) × P k)
Decides-any p P each m = (
  λ h. let found = found_below p m h in (found.0, found.1, (each found.0).0 found.2),
  λ (k, below, holds). some_below p m k below ((each k).1 holds),
)

at_some : (stages : List ℕ) (k : ℕ) → Any (λ s. nat_eq k s ≡ true) stages → Contains stages k
at_some stages k (i, x, inside, at, test) =
    let same : k ≡ x = eqb-true k x test in (i, inside, subst (λ (y : ℕ). get_or stages i y ≡ y) (sym same) at)

Decides-runs_in : (stages : List ℕ) (k : ℕ) → Decides (runs_in stages k) (Contains stages (k + 1))
Decides-runs_in stages k = (
  λ h. at_some stages (k + 1) (Any-from_list_any (nat_eq (k + 1)) stages h),
  λ (i, inside, at). list_any_at (nat_eq (k + 1)) stages i (k + 1) inside
      (eq-eqb (k + 1) (get_or stages i (k + 1)) (sym at)),
)

abbrev Shown : ℕ → NodeValue → List ℕ → ℕ → ℕ → Type 0
Shown steps node stages i k =
    ((since_change steps node k i < length_at steps node.stages k) × Contains stages (k + 1))
    × (((stage_of node.stages k).intergreen ≤ since_change steps node k i)
    ⊎ Contains stages (step_before (length node.stages) k + 1))

Decides-shows : (steps : ℕ) (node : NodeValue) (stages : List ℕ) (i k : ℕ)
    → Decides (shows steps node stages i k) (Shown steps node stages i k)
Decides-shows steps node stages i k =
    Decides-and _ _ (Decides-and _ _ (Decides-ltb _ _) (Decides-runs_in stages k))
    (Decides-or _ _ (leb-true _ _, le-leb _ _) (Decides-runs_in stages (step_before (length node.stages) k)))

Decides-is_shown : (steps : ℕ) (node : NodeValue) (stages : List ℕ) (i : ℕ)
    → Decides (is_shown steps node stages i) ((k : ℕ) × Shows steps node stages i k)
Decides-is_shown steps node stages i =
    Decides-like _
    (λ (k, inside, s). (k, record { stage = inside; lasts = s.0.0; runs = s.0.1; clear = s.1 }))
    (λ (k, s). (k, s.stage, ((s.lasts, s.runs), s.clear)))
    (Decides-any (shows steps node stages i) (Shown steps node stages i) (Decides-shows steps node stages i)
    (length node.stages))

module _ (net : Network) (l : ℕ) where
  long : length (shown_link net l) ≡ net.frame.step_count
  long = length-map-range_with_len
      (is_shown net.frame.step_count (the_node net (link_of net l).node) (link_of net l).stages) 0 net.frame.step_count

  Decides-shown : (i : ℕ) → i < net.frame.step_count → Decides (get_or (shown_link net l) i false) (IsShown net l i)
  Decides-shown i below =
      let same : 0 + i ≡ i = omega arith in
      Decides-at _ _
      (get_or-map-range_with_len
      (is_shown net.frame.step_count (the_node net (link_of net l).node) (link_of net l).stages) 0
      net.frame.step_count i i false below same)
      (Decides-is_shown net.frame.step_count (the_node net (link_of net l).node) (link_of net l).stages i)

  Decides-opens : (i : ℕ) → i < net.frame.step_count → Decides (opens (shown_link net l) i) (Opens net l i)
  Decides-opens i below =
      Decides-at _ _
      (ap (λ n. get_or (shown_link net l) i false && not (get_or (shown_link net l) (step_before n i) false)) long)
      (Decides-and _ _ (Decides-shown i below)
      (Decides-not _ (Decides-shown (step_before net.frame.step_count i)
      (step_before-lt net.frame.step_count i below))))

  -- the test finds exactly the green steps
  pub Decides-is_green : (i : ℕ) → i < net.frame.step_count → Decides (is_green net l i) (IsGreen net l i)
  Decides-is_green i below =
      let some : 0 < net.frame.step_count = omega arith in
      let held = Decides-any (λ n. get_or (shown_link net l) (minus_mod (length (shown_link net l)) i n) false)
      (λ n. IsShown net l (minus_mod net.frame.step_count i n))
      (λ n. Decides-at _ _ (ap (λ m. get_or (shown_link net l) (minus_mod m i n) false) long)
      (Decides-shown (minus_mod net.frame.step_count i n) (minus_mod-lt net.frame.step_count i n some)))
      ((link_of net l).end_lag + 1) in
      let starting = Decides-any (λ n. opens (shown_link net l) (minus_mod (length (shown_link net l)) i n))
      (λ n. Opens net l (minus_mod net.frame.step_count i n))
      (λ n. Decides-at _ _ (ap (λ m. opens (shown_link net l) (minus_mod m i n)) long)
      (Decides-opens (minus_mod net.frame.step_count i n) (minus_mod-lt net.frame.step_count i n some)))
      (link_of net l).start_lag in
      Decides-like _
      (λ both. record { held = both.0; started = λ n less opened. both.1 (n, less, opened) })
      (λ green. (green.held, λ (n, less, opened). green.started n less opened))
      (Decides-and _ _ held (Decides-not _ starting))
