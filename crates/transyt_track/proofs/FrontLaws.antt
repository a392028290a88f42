-- THE LAW OF THE FRONT: each turn keeps it.
use Rattle.std.proofs.Common.{◌≡◌, ◌≢◌, ℕ, ◌+◌, ◌<◌, ◌≤◌, Bool, true, false, not, ◌||◌, List, length}
use Rattle.std.proofs.Common.{Option, Some, None, set, refl, ap, sym, ◌∙◌, arith, ◌==◌, ◌⊎◌, inl, inr}
use Rattle.std.specs.Str.{bytes_eq}
use Rattle.std.specs.List.{list_any}
use Rattle.std.specs.Option.{option_map_or, is_some}
use Rattle.std.proofs.lemmas.Bool.{cases_eq, or_parts, not-false}
use Rattle.std.proofs.lemmas.Bool.Decides.{nat_tests}
use Rattle.std.proofs.lemmas.Slice.Eq.{bytes_eq-Decides}
use Rattle.std.proofs.lemmas.List.{length-set, get_or-set_same, get_or-set_other}
use Rattle.std.proofs.lemmas.Grind.{get_or-set_at}
use Rattle.transyt_parts.specs.declared.link.GiveWay.{GiveWay}
use Rattle.transyt_net.specs.Parts.{Network, link_of, SameShape}
use Rattle.transyt_kept.specs.Cell.{CellValue, no_figures}
use Rattle.transyt_kept.specs.Rows.{RowsValue, out_at, shown_at, placed, AreRows}
use Rattle.transyt_sweep.specs.Cell.{cell_by}
use Rattle.transyt_sweep.specs.Sweeps.{read_at, out_of, read_of, cell_at, evaluated}
use Rattle.transyt_sweep.specs.Reading.{read_in, with_weights, reweighed}
use Rattle.transyt_sweep.proofs.SweepLaws.{out_of_pair, evaluated_is}
use Rattle.transyt_sweep.proofs.FrontLaws.{mixed_turn, cell_is}
use Rattle.transyt_track.specs.Own.{own, same_own, IsRead, PlacesValue, read_places}
use Rattle.transyt_track.specs.Due.{differs, read_differs, is_due}
use Rattle.transyt_track.specs.Front.{AreFlags, flag, AreAt, left_at, own_differs}
use Rattle.transyt_track.proofs.DataLaws.{green_same}
use Rattle.transyt_track.proofs.DueLaws.{own_told}
use Rattle.transyt_track.proofs.FlagLaws.{any_same, any_read, all_read, or_last}
use Rattle.transyt_track.proofs.MixedLaws.{mixed_here, mixed_placed, mixed_figures, mixed_left}
use Rattle.transyt_track.proofs.MixedLaws.{shown_figures, shown_moved, shown_now, shown_placed, shown_turn}
use Rattle.transyt_track.proofs.LeftLaws.{left_out, left_worked}
use Rattle.transyt_track.proofs.ShapeLaws.{shape_count}

-- the two tests of the last sweep
pub same_test : (s sweeps : ℕ) → sweeps ≡ s → (s == sweeps) ≡ true
same_test s sweeps same = grind (arith, nat_tests)

pub other_test : (s sweeps : ℕ) → (sweeps ≡ s → ⊥) → (s == sweeps) ≡ false
other_test s sweeps other = let apart : sweeps ≢ s = other in grind (arith, nat_tests)

-- one flag more is set
pub flag_more : (flags : List Bool) (l : ℕ) (d : Bool) (test : ℕ → Bool) → l < length flags
    → ((m : ℕ) → m < l → flag flags m ≡ test m) → d ≡ test l → (m : ℕ) → m < l + 1 → flag (set flags l d) m ≡ test m
flag_more flags l d test inside before is m within =
    grind (arith, before m, get_or-set_at flags l m d false, get_or-set_other flags l m d false)

-- the sweep whose departures are read, as the front moves on
read_turn : (s links m : ℕ) → m < links → read_at s links m ≡ read_at (s + 1) 0 m
read_turn s links m inside = grind (arith, nat_tests)

no_rule : (rule : Option GiveWay) → is_some rule ≡ false → rule ≡ None
no_rule None none = refl
no_rule (Some rule) none = absurd (cc)

module _ {a b : Network} {s l : ℕ} {rows : RowsValue} {changed : List Bool} (at : AreAt a b s l rows changed) where
  -- the flags tell whether the link at the front is due
  pub due_told : {places : PlacesValue} → IsRead a b l places → (fed own : Bool)
      → fed ≡ list_any (flag changed) (read_places places) → own ≡ own_differs a b l
      → (fed || own) ≡ is_due a b s l
  due_told {places} is fed own told owned =
      let tests = read_differs a b s l in
      let any = told ∙ any_same (flag changed) tests (length b.links) at.flags.flagged (read_places places) (all_read is)
      ∙ any_read tests places in
      (λ j. any j || owned j)
      ∙ or_last (list_any tests places.feeders) (option_map_or tests places.rule false) (own_differs a b l)
      ∙ ap (λ (p : PlacesValue). own_differs a b l || list_any tests p.feeders || option_map_or tests p.rule false)
      is.places_before

  -- after a link's turn its flag is that of its departures
  flags_put : l < length b.links → (d : Bool) → d ≡ differs a b s l
      → AreFlags (read_differs a b s (l + 1)) (length b.links) (set changed l d)
  flags_put inside d told = record {
    count = length-set changed l d ∙ at.flags.count;
    flagged = λ m there.
        grind (
          arith,
          nat_tests,
          at.flags.count,
          at.flags.flagged m there,
          get_or-set_at changed l m d false,
          get_or-set_other changed l m d false,
        );
  }

  -- at the end of a sweep the next begins
  pub turned_sweep : length b.links ≡ l → AreAt a b (s + 1) 0 rows changed
  turned_sweep all = record {
    outs = mixed_turn b (out_of b) (out_of a) s l rows all at.outs;
    shown = shown_turn at.shown all;
    flags = record {
      count = at.flags.count;
      flagged = λ m inside.
          at.flags.flagged m inside
          ∙ ap (λ t. differs a b t m) (read_turn s l m (omega (arith, inside, all)));
    };
  }

  module _ (same : SameShape a b) (first : 1 ≤ s) (swept : s ≤ b.frame.sweeps) (inside : l < length b.links) where
    worked_is : (c : CellValue) → c ≡ cell_by b (read_in rows s l) l → c ≡ cell_at b s l
    worked_is c made = made ∙ cell_is b (out_of a) s l rows at.outs first swept inside

    -- a link that is due is worked out
    pub turned_worked : AreRows rows → (c : CellValue) → c ≡ cell_by b (read_in rows s l) l → (d : Bool)
        → d ≡ not (bytes_eq (out_at rows s l) c.out) → AreAt a b s (l + 1) (placed rows s l c) (set changed l d)
    unfolding differs
    turned_worked kept c made d told =
        let is = worked_is c made in
        let out : c.out ≡ out_of b s l = ap (λ (v : CellValue). v.out) is ∙ sym (out_of_pair b s l first) in
        record {
          outs = mixed_placed at.outs kept c swept inside out;
          shown = shown_placed at.shown at.outs.fits kept c inside
              (λ last. is ∙ ap (λ t. cell_at b t l) (sym last) ∙ sym (evaluated_is b l));
          flags = flags_put inside d (told ∙ (λ j. not (bytes_eq (mixed_here at.outs swept inside j) (out j))));
        }

    -- it has the GO that is shown where its own data are equal and it gives way to no other link
    pub go_told : (c : CellValue) → c ≡ cell_by b (read_in rows s l) l → {own_changed : List Bool}
        → AreFlags (own_differs a b) (length b.links) own_changed → s ≡ b.frame.sweeps → {may : Bool}
        → may ≡ (flag own_changed l || is_some (link_of b l).gives_way) → may ≡ false → (shown_at rows l).go ≡ c.go
    go_told c made {own_changed} owned last {may} is none =
        let parts = or_parts (flag own_changed l) (is_some (link_of b l).gives_way) (sym is ∙ none) in
        let told = not-false (same_own (own a l) (own b l)) (sym (owned.flagged l inside) ∙ parts.0) in
        ap (λ (v : CellValue). v.go) (shown_now at.shown (sym last) inside ∙ evaluated_is a l)
        ∙ green_same a b l same (omega (arith, shape_count a b same)) (own_told (own a l) (own b l) told)
        (read_of a a.frame.sweeps l) (read_of b s l) (no_rule (link_of b l).gives_way parts.1)
        ∙ sym (ap (λ (v : CellValue). v.go) (worked_is c made))

    module _ (none : is_due a b s l ≡ false) where
      inside_before : l < length a.links
      inside_before = omega (arith, shape_count a b same)

      same_leaving : out_of a s l ≡ out_of b s l
      same_leaving = left_out a b s l same inside_before none first

      -- nothing of it differs
      not_differs : false ≡ differs a b s l
      unfolding differs
      not_differs = sym (ap not ((bytes_eq-Decides (out_of a s l) (out_of b s l)).1 same_leaving))

      weighed_here : b.frame.sweeps ≡ s → shown_at (with_weights rows b l) l ≡ evaluated b l
      weighed_here last =
          let f = reweighed b l (shown_at rows l).figures in
          shown_figures rows l l f f (get_or-set_same rows.figures l f no_figures (omega (arith, at.outs.fits.link_count)))
          ∙ ap (λ (v : CellValue). record v { figures = reweighed b l v.figures }) (shown_now at.shown last inside
          ∙ evaluated_is a l ∙ ap (λ t. cell_at a t l) ((λ j. (same j).frame.sweeps) ∙ last))
          ∙ left_worked a b s l same inside_before none
          ∙ ap (λ t. cell_at b t l) (sym last)
          ∙ sym (evaluated_is b l)

      -- a link that isn't due is left
      pub turned_left : AreAt a b s (l + 1) (left_at b s l rows) (set changed l false)
      turned_left = by (cases_eq b.frame.sweeps s)
        where
          by : (b.frame.sweeps ≡ s) ⊎ (b.frame.sweeps ≡ s → ⊥)
              → AreAt a b s (l + 1) (left_at b s l rows) (set changed l false)
          by (inl last) =
              let f = reweighed b l (shown_at rows l).figures in
              rw (same_test s b.frame.sweeps last) record {
                outs = mixed_figures (mixed_left at.outs swept inside (sym same_leaving)) l f;
                shown = shown_moved at.shown (with_weights rows b l) weighed_here
                    (λ k there apart. shown_figures rows l k f (shown_at rows k).figures
                    (get_or-set_other rows.figures l k f no_figures (apart last)));
                flags = flags_put inside false not_differs;
              }
          by (inr earlier) = rw (other_test s b.frame.sweeps earlier) record {
            outs = mixed_left at.outs swept inside (sym same_leaving);
            shown = shown_moved at.shown rows (λ last. absurd (earlier last)) (λ k there apart. refl);
            flags = flags_put inside false not_differs;
          }
