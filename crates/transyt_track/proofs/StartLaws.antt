-- Before the first sweep: the links whose total flow lets another profile go are started anew.
use Rattle.std.proofs.Common.{◌≡◌, ℕ, ◌+◌, ◌*◌, ◌/◌, ◌<◌, ◌≤◌, Bool, false, cond, not, List, [], ◌∷◌, length, get_or}
use Rattle.std.proofs.Common.{refl, ap, sym, subst, ◌∙◌, arith, nat_eq, zero, suc}
use Rattle.std.specs.Str.{bytes_eq}
use Rattle.std.specs.List.{list_any}
use Rattle.std.proofs.lemmas.Slice.Eq.{bytes_eq-Decides}
use Rattle.std.proofs.Math.Nat.{div-mul-le_self, lt-div-mul-add, lt_of_mul-lt-mul_right, mul-le-mul_right}
use Rattle.std.proofs.lemmas.Bool.{or_parts}
use Rattle.std.proofs.lemmas.Bool.Decides.{nat_tests, same_from_decides, Decides-eqb}
use Rattle.std.proofs.lemmas.List.{get_or-replicate}
use Rattle.std.proofs.lemmas.List.Folds.{list_any_none}
use Rattle.transyt_profile.specs.Profile.{uniform}
use Rattle.transyt_parts.specs.declared.frame.Frame.{Frame}
use Rattle.transyt_parts.specs.Parts.{total_flow}
use Rattle.transyt_parts.specs.Valid.{IsFrame}
use Rattle.transyt_net.specs.Parts.{Network, link_of, SameShape, perstep}
use Rattle.transyt_sweep.specs.Sweeps.{read_at, out_of, start, evaluated}
use Rattle.transyt_kept.specs.Rows.{RowsValue, with_out, AreRows}
use Rattle.transyt_sweep.specs.Front.{AreEvaluation}
use Rattle.transyt_sweep.proofs.SweepLaws.{out_of_start}
use Rattle.transyt_sweep.proofs.FrontLaws.{mixed_put, not_before_first}
use Rattle.transyt_track.specs.Own.{places_at}
use Rattle.transyt_track.specs.Due.{differs, read_differs}
use Rattle.transyt_track.specs.Front.{flag, own_differs, total_differs, AreAt, AreFlags, AreFlagged}
use Rattle.transyt_track.proofs.MixedLaws.{shown_moved, shown_earlier, mixed_left}
use Rattle.transyt_track.proofs.FlagLaws.{or_false}
use Rattle.transyt_track.proofs.FrontLaws.{turned_sweep}
use Rattle.transyt_track.proofs.ChangeLaws.{own_flag}
use Rattle.transyt_track.proofs.DueLaws.{same_out}
use Rattle.transyt_track.proofs.ShapeLaws.{fits_shape, shape_count, shape_read}

-- no flag is up
none_up : (flags : List Bool) → list_any (λ f. f) flags ≡ false → (p : ℕ) → flag flags p ≡ false
none_up [] none p = refl
none_up (f ∷ fs) none zero = (or_parts f (list_any (λ g. g) fs) none).0
none_up (f ∷ fs) none (suc p) = none_up fs (or_parts f (list_any (λ g. g) fs) none).1 p

-- before the first sweep the same departures are read all along
read_first : (l m : ℕ) → read_at 0 l m ≡ 0
read_first l m = grind (arith, nat_tests)

quotient_less : (p q d : ℕ) → 0 < d → p + d ≤ q → p / d < q / d
quotient_less p q d some room =
    let below : p / d * d ≤ p = div-mul-le_self p d in
    let over : q < q / d * d + d = lt-div-mul-add some in
    lt_of_mul-lt-mul_right d (omega (arith, below, over, room))

-- a vehicle per hour is more than a unit per step
perstep_less : (f : Frame) → IsFrame f → (x y : ℕ) → x < y → perstep f x < perstep f y
perstep_less f range x y less =
    let next : (x + 1) * f.cycle ≤ y * f.cycle = mul-le-mul_right f.cycle (omega arith) in
    quotient_less (x * f.cycle * 1000000) (y * f.cycle * 1000000) (3600 * f.step_count)
    (omega (arith, range.step_count.0)) (omega (arith, next, range.cycle.0, range.step_count.1))

tests_agree : (p q x y : ℕ) → (x < y → p < q) → (y < x → q < p) → (x ≡ y → p ≡ q) → nat_eq p q ≡ nat_eq x y
tests_agree p q x y less more same = grind (arith, nat_tests)

-- so profiles before the first sweep differ where the total flows do
profile_told : (f : Frame) → IsFrame f → (x y : ℕ)
    → bytes_eq (uniform f.step_count (perstep f x)) (uniform f.step_count (perstep f y)) ≡ nat_eq x y
profile_told f range x y =
    let p = perstep f x in
    let q = perstep f y in
    let some : 0 < f.step_count = omega (arith, range.step_count.0) in
    let lists = bytes_eq-Decides (uniform f.step_count p) (uniform f.step_count q) in
    same_from_decides {P = p ≡ q} (bytes_eq (uniform f.step_count p) (uniform f.step_count q)) (nat_eq p q) (
      λ e. sym (get_or-replicate f.step_count 0 p 0 some) ∙ ap (λ xs. get_or xs 0 0) (lists.0 e)
          ∙ get_or-replicate f.step_count 0 q 0 some,
      λ e. lists.1 (ap (uniform f.step_count) e),
    ) (Decides-eqb p q)
    ∙ tests_agree p q x y (perstep_less f range x y) (perstep_less f range y x) (ap (perstep f))

module _ (a b : Network) (same : SameShape a b) where
  -- whether the departures of a link before the first sweep differ is whether its total flow does
  total_start : IsFrame b.frame → (l : ℕ) → total_differs a b l ≡ differs a b 0 l
  unfolding differs
  total_start range l =
      let flow = total_flow (link_of a l) in
      sym ((λ j. not (bytes_eq (out_of_start a l j) (out_of_start b l j)))
      ∙ (λ j. not (bytes_eq (uniform (same j).frame.step_count (perstep (same j).frame flow)) (start b l)))
      ∙ ap not (profile_told b.frame range flow (total_flow (link_of b l))))

  -- before any link is started
  pub start_at : IsFrame b.frame → {rows : RowsValue} {own_changed out_changed : List Bool} → AreEvaluation a rows
      → AreFlagged a b own_changed out_changed → AreAt a b 0 0 rows out_changed
  start_at range {rows} evaluation flagged =
      let sweeps : a.frame.sweeps ≡ b.frame.sweeps = (λ j. (same j).frame.sweeps) in
      record {
        outs = record {
          fits = fits_shape a b same rows evaluation.fits;
          outs = λ t k within there.
              evaluation.outs t k (omega (arith, sweeps)) (omega (arith, shape_count a b same))
              ∙ sym (ap (λ w. cond w (out_of b t k) (out_of a t k)) (not_before_first t k 0 (omega arith)));
        };
        shown = record {
          shown = λ k there.
              evaluation.shown k (omega (arith, shape_count a b same))
              ∙ sym (ap (λ w. cond w (evaluated b k) (evaluated a k)) (not_before_first b.frame.sweeps k 0 (omega arith)));
        };
        flags = record {
          count = flagged.totals.count;
          flagged = λ m inside.
              flagged.totals.flagged m inside ∙ total_start range m ∙ ap (λ t. differs a b t m) (sym (read_first 0 m));
        };
      }

  module _ {l : ℕ} {rows : RowsValue} {changed : List Bool} (at : AreAt a b 0 l rows changed)
      (inside : l < length b.links) (some : 1 ≤ b.frame.sweeps) where
    flags_on : AreFlags (read_differs a b 0 (l + 1)) (length b.links) changed
    flags_on = record {
      count = at.flags.count;
      flagged = λ m there.
          at.flags.flagged m there ∙ ap (λ t. differs a b t m) (read_first l m ∙ sym (read_first (l + 1) m));
    }

    -- one link more, which is started where its flag is up
    pub started_put : AreRows rows → AreAt a b 0 (l + 1) (with_out rows 0 l (start b l)) changed
    started_put kept = record {
      outs = mixed_put b (out_of b) (out_of a) 0 l rows at.outs kept (start b l) (omega arith) inside
          (sym (out_of_start b l));
      shown = shown_earlier at.shown at.outs.fits inside (λ last. absurd (omega (arith, last))) (start b l);
      flags = flags_on;
    }

    -- and else left
    pub started_left : flag changed l ≡ false → AreAt a b 0 (l + 1) rows changed
    started_left none =
        let stays : differs a b 0 l ≡ false =
        ap (λ t. differs a b t l) (sym (read_first l l)) ∙ sym (at.flags.flagged l inside) ∙ none in
        record {
          outs = mixed_left at.outs (omega arith) inside (sym (same_out a b 0 l stays));
          shown = shown_moved at.shown rows (λ last. absurd (omega (arith, last))) (λ k there _. refl);
          flags = flags_on;
        }

  -- where no flag is up, the first sweep begins with the rows as they are
  module _ {rows : RowsValue} {changed : List Bool} (at : AreAt a b 0 0 rows changed) (some : 1 ≤ b.frame.sweeps)
      (none : list_any (λ f. f) changed ≡ false) where
    left_to : (l : ℕ) → l ≤ length b.links → AreAt a b 0 l rows changed
    left_to zero within = at
    left_to (suc l) within =
        subst (λ n. AreAt a b 0 n rows changed) (omega arith)
        (started_left (left_to l (omega arith)) (omega arith) some (none_up changed none l))

    pub none_started : AreAt a b 1 0 rows changed
    none_started = turned_sweep (left_to (length b.links) (omega arith)) refl

  -- and the flags of the data are those of all own data
  pub none_fed : {own_changed out_changed : List Bool} → AreFlagged a b own_changed out_changed
      → list_any (λ f. f) out_changed ≡ false → AreFlags (own_differs a b) (length b.links) own_changed
  none_fed {own_changed} {out_changed} flagged none = record {
    count = flagged.count;
    flagged = λ l inside.
        let feeders = (places_at a l).feeders in
        sym (or_false (flag own_changed l))
        ∙ own_flag (shape_read a b same l inside) flagged.totals (flag own_changed l) false (flagged.own.down l inside)
        (sym (list_any_none (flag out_changed) feeders (λ k d h. none_up out_changed none (get_or feeders k d))));
  }
