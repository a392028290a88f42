-- Own data are equal exactly where the data of the link and the total flows of its feeders are.
use Rattle.std.proofs.Common.{◌≡◌, ◌↔◌, ℕ, ◌+◌, ◌<◌, Bool, false, not, ◌||◌, IsTrue, List, [], ◌∷◌, length, map, set}
use Rattle.std.proofs.Common.{◌≢◌, ◌⊎◌, inl, inr, refl, ap, sym, ◌∙◌, arith, nat_eq, sum, sum_by}
use Rattle.std.specs.List.{list_any}
use Rattle.std.specs.Str.{bytes_eq}
use Rattle.std.proofs.Math.Bool.{not-not}
use Rattle.std.proofs.lemmas.Bool.{or_parts, not-true, not-false, cases_eq}
use Rattle.std.proofs.lemmas.Bool.Decides.{nat_tests, same_from_decides}
use Rattle.std.proofs.lemmas.Simd.{map-map}
use Rattle.std.proofs.lemmas.Slice.Eq.{bytes_eq-Decides}
use Rattle.std.proofs.lemmas.List.{get_or-set_other}
use Rattle.std.proofs.lemmas.List.Sums.{sum-map}
use Rattle.std.proofs.lemmas.Grind.{get_or-set_at}
use Rattle.transyt_parts.specs.Parts.{LinkValue, total_flow}
use Rattle.transyt_net.specs.Parts.{Network, link_of}
use Rattle.transyt_net.specs.Edits.{the_node}
use Rattle.transyt_track.specs.Own.{PlacesValue, SameTimes, SameNumbers, HaveData, IsRead, own, same_own, flow_of, feeder_place}
use Rattle.transyt_track.specs.Front.{AreFlags, flag, total_differs, own_differs}
use Rattle.transyt_track.proofs.FlagLaws.{any_same}
use Rattle.transyt_track.proofs.RuleLaws.{own_decides}

-- one of two lists of values differs where one of the values does
any_differs : (f g : ℕ → ℕ) (ps : List ℕ)
    → list_any (λ p. not (nat_eq (f p) (g p))) ps ≡ not (bytes_eq (map f ps) (map g ps))
any_differs f g [] = refl
any_differs f g (p ∷ ps) = grind (arith, any_differs f g ps)

-- a link of equal data has an equal total flow
pub data_total : (a b : Network) (l : ℕ) → HaveData a b l → total_differs a b l ≡ false
data_total a b l have =
    let sums : sum_by flow_of (link_of a l).feeds ≡ sum_by flow_of (link_of b l).feeds =
    sym (sum-map flow_of (link_of a l).feeds) ∙ ap sum have.numbers.flows ∙ sum-map flow_of (link_of b l).feeds in
    grind (arith, nat_tests, have.numbers.entry)

-- a flag of the data and the flags of the feeders' totals tell whether own data differ
pub own_flag : {a b : Network} {l : ℕ} {places : PlacesValue} → IsRead a b l places → {changed : List Bool}
    → AreFlags (total_differs a b) (length b.links) changed → (up any : Bool) → (up ≡ false ↔ HaveData a b l)
    → any ≡ list_any (flag changed) places.feeders → (up || any) ≡ own_differs a b l
own_flag {a} {b} {l} {places} read {changed} totals up any down is =
    let x = own a l in
    let y = own b l in
    let old = λ (p : ℕ). total_flow (link_of a p) in
    let new = λ (p : ℕ). total_flow (link_of b p) in
    let before = ap (λ (p : PlacesValue). map old p.feeders) read.places_before
    ∙ map-map old (feeder_place a) (link_of a l).feeds in
    let after = ap (λ (p : PlacesValue). map new p.feeders) read.places_after
    ∙ map-map new (feeder_place b) (link_of b l).feeds in
    let told : any ≡ not (bytes_eq x.totals y.totals) =
    is ∙ any_same (flag changed) (total_differs a b) (length b.links) totals.flagged places.feeders read.feeders
    ∙ any_differs old new places.feeders ∙ (λ j. not (bytes_eq (before j) (after j))) in
    let same_lists = bytes_eq-Decides x.totals y.totals in
    sym (not-not (up || any))
    ∙ ap not (same_from_decides {P = x ≡ y} (not (up || any)) (same_own x y) (
      λ none.
          let both = or_parts up any (not-true (up || any) none) in
          let have = down.0 both.0 in
          let same = same_lists.0 (not-false (bytes_eq x.totals y.totals) (sym told ∙ both.1)) in
          (λ j. record {
            entry = have.numbers.entry j;
            saturation = have.numbers.saturation j;
            offset = have.times.offset j;
            changes = have.times.changes j;
            flows = have.numbers.flows j;
            cruises = have.numbers.cruises j;
            totals = same j;
          }),
      λ same.
          let have : HaveData a b l = record {
            numbers = record {
              entry = (λ j. (same j).entry);
              saturation = (λ j. (same j).saturation);
              flows = (λ j. (same j).flows);
              cruises = (λ j. (same j).cruises);
            };
            times = record { offset = (λ j. (same j).offset); changes = (λ j. (same j).changes) };
          } in
          (λ j. not (down.1 have j || (told ∙ ap not (same_lists.1 (λ i. (same i).totals))) j)),
    ) (own_decides x y))

-- with equal times, what tells that numbers are equal tells that the data are
pub data_told : (a b : Network) (l : ℕ) (told : Bool) (x y : LinkValue) → x ≡ link_of a l → y ≡ link_of b l
    → (IsTrue told ↔ SameNumbers x y)
    → SameTimes (the_node a (link_of a l).node) (the_node b (link_of b l).node) → (IsTrue told ↔ HaveData a b l)
data_told a b l told x y old new is times =
    (λ t. record { numbers = rw (← old, ← new) (is.0 t); times = times }, λ have. is.1 (rw (old, new) have.numbers))

-- one flag more is set, down where the fact holds
pub down_more : (flags : List Bool) (l : ℕ) (d : Bool) (fact : ℕ → Type 0) → l < length flags
    → ((m : ℕ) → m < l → (flag flags m ≡ false ↔ fact m)) → (d ≡ false ↔ fact l) → (m : ℕ) → m < l + 1
    → (flag (set flags l d) m ≡ false ↔ fact m)
down_more flags l d fact inside before is m within = by (cases_eq m l)
  where
    by : (m ≡ l) ⊎ (m ≡ l → ⊥) → (flag (set flags l d) m ≡ false ↔ fact m)
    by (inl here) = rw (get_or-set_at flags l m d false here inside, here) is
    by (inr other) = rw (get_or-set_other flags l m d false other) (before m (let apart : m ≢ l = other in omega arith))

-- a test that tells a fact, turned round
pub not_down : (told : Bool) (fact : Type 0) → (IsTrue told ↔ fact) → (not told ≡ false ↔ fact)
not_down told fact is = (λ e. is.0 (not-false told e), λ f. ap not (is.1 f))
