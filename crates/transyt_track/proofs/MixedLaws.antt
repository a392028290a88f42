-- Rows that go over from one evaluation to another, over any two.
use Rattle.std.proofs.Common.{◌≡◌, ◌≢◌, ℕ, ◌+◌, ◌*◌, ◌<◌, ◌≤◌, Bool, true, false, cond, List, length, get_or, set}
use Rattle.std.proofs.Common.{refl, ap, sym, subst, ◌∙◌, arith, ◌==◌, ◌⊎◌, inl, inr, if◌then◌else◌}
use Rattle.std.proofs.lemmas.Bool.{cases_eq}
use Rattle.std.proofs.lemmas.Bool.Decides.{nat_tests}
use Rattle.std.proofs.lemmas.List.{length-set}
use Rattle.transyt_delay.specs.declared.figures.Figures.{Figures}
use Rattle.transyt_net.specs.Parts.{Network}
use Rattle.transyt_kept.specs.Cell.{CellValue, no_figures}
use Rattle.transyt_kept.specs.Rows.{RowsValue, row, out_at, with_out, with_figures, with_rest, placed, shown_at, AreRows}
use Rattle.transyt_kept.proofs.PairLaws.{out_elsewhere}
use Rattle.transyt_kept.proofs.ShownLaws.{put_shown, shown_here, shown_elsewhere}
use Rattle.transyt_sweep.specs.Reading.{Fits}
use Rattle.transyt_sweep.specs.Sweeps.{out_of, evaluated}
use Rattle.transyt_sweep.specs.Front.{AreMixed, AreEvaluation, is_before}
use Rattle.transyt_sweep.proofs.FrontLaws.{before_self, before_other, before_turn, mixed_put, mixed_shown}
use Rattle.transyt_track.specs.Front.{AreShownMixed}

-- no pair comes before itself
before_here : (s l : ℕ) → is_before s l s l ≡ false
before_here s l = grind (arith, nat_tests)

-- a value after a move of the front: the early one at the pair that it passes, and elsewhere what it was
moved : {A : Type 0} (early late old new : A) (t k s l : ℕ) → old ≡ (if is_before t k s l then early else late)
    → ((t ≡ s → k ≡ l → ⊥) → new ≡ old) → (t ≡ s → k ≡ l → new ≡ early)
    → new ≡ (if is_before t k s (l + 1) then early else late)
moved early late old new t k s l was elsewhere here = by (cases_eq t s) (cases_eq k l)
  where
    other : (t ≡ s → k ≡ l → ⊥) → new ≡ (if is_before t k s (l + 1) then early else late)
    other apart = elsewhere apart ∙ was ∙ ap (λ b. cond b early late) (sym (before_other t k s l apart))

    by : (t ≡ s) ⊎ (t ≡ s → ⊥) → (k ≡ l) ⊎ (k ≡ l → ⊥) → new ≡ (if is_before t k s (l + 1) then early else late)
    by (inl sweep) (inl link) =
        here sweep link
        ∙ sym (ap (λ b. cond b early late) ((λ j. is_before (sweep j) (link j) s (l + 1)) ∙ before_self s l))
    by (inl sweep) (inr apart) = other (λ _ e. apart e)
    by (inr apart) _ = other (λ e _. apart e)

module _ {net : Network} {f g : ℕ → ℕ → List ℕ} {s l : ℕ} {rows : RowsValue} (mixed : AreMixed net f g s l rows) where
  -- before the front stands f, from it on g
  pub mixed_here : s ≤ net.frame.sweeps → l < length net.links → out_at rows s l ≡ g s l
  mixed_here swept inside = mixed.outs s l swept inside ∙ ap (λ b. cond b (f s l) (g s l)) (before_here s l)

  -- a pair in which both are equal is left as it is
  pub mixed_left : s ≤ net.frame.sweeps → l < length net.links → f s l ≡ g s l → AreMixed net f g s (l + 1) rows
  mixed_left swept inside same = record {
    fits = mixed.fits;
    outs = λ t k within there.
        moved (f t k) (g t k) (out_at rows t k) (out_at rows t k) t k s l (mixed.outs t k within there) (λ _. refl)
        (λ sweep link. rw (sweep, link) (mixed_here swept inside ∙ sym same));
  }

  -- a pair is written, at the last sweep all of it
  pub mixed_placed : AreRows rows → (c : CellValue) → s ≤ net.frame.sweeps → l < length net.links → c.out ≡ f s l
      → AreMixed net f g s (l + 1) (placed rows s l c)
  mixed_placed kept c swept inside made = by (s == rows.sweeps)
    where
      put : AreMixed net f g s (l + 1) (with_out rows s l c.out)
      put = mixed_put net f g s l rows mixed kept c.out swept inside made

      by : (b : Bool) → AreMixed net f g s (l + 1)
          (if b then with_rest (with_out rows s l c.out) l c else with_out rows s l c.out)
      by true = mixed_shown net f g s (l + 1) (with_out rows s l c.out) put l c
      by false = put

  -- figures are written
  pub mixed_figures : (m : ℕ) (w : Figures) → AreMixed net f g s l (with_figures rows m w)
  mixed_figures m w = record {
    fits = record {
      step_count = mixed.fits.step_count;
      sweeps = mixed.fits.sweeps;
      link_count = length-set rows.figures m w ∙ mixed.fits.link_count;
    };
    outs = λ t k within there.
        ap (λ n. row rows.outs (t * n + k)) (length-set rows.figures m w) ∙ mixed.outs t k within there;
  }

-- a link of rows with other figures
pub shown_figures : (rows : RowsValue) (l k : ℕ) (f new : Figures) → get_or (set rows.figures l f) k no_figures ≡ new
    → shown_at (with_figures rows l f) k ≡ record (shown_at rows k) { figures = new }
shown_figures rows l k f new is =
    (λ j. record (shown_at rows k) {
      out = row rows.outs (rows.sweeps * length-set rows.figures l f j + k);
      figures = is j;
    })

module _ {net : Network} {f g : ℕ → CellValue} {s l : ℕ} {rows : RowsValue} (mixed : AreShownMixed net f g s l rows)
  where
    -- one link more, whose rows say what f says, and elsewhere what they said
    pub shown_moved : (new : RowsValue) → (net.frame.sweeps ≡ s → shown_at new l ≡ f l)
        → ((k : ℕ) → k < length net.links → (net.frame.sweeps ≡ s → k ≡ l → ⊥) → shown_at new k ≡ shown_at rows k)
        → AreShownMixed net f g s (l + 1) new
    shown_moved new here elsewhere = record {
      shown = λ k there.
          moved (f k) (g k) (shown_at rows k) (shown_at new k) net.frame.sweeps k s l (mixed.shown k there)
          (elsewhere k there) (λ last link. rw link (here last));
    }

    -- from the front on stands g
    pub shown_now : net.frame.sweeps ≡ s → l < length net.links → shown_at rows l ≡ g l
    shown_now last inside =
        mixed.shown l inside
        ∙ ap (λ b. cond b (f l) (g l)) (ap (λ u. is_before u l s l) last ∙ before_here s l)

    -- at the end of a sweep the next begins
    pub shown_turn : length net.links ≡ l → AreShownMixed net f g (s + 1) 0 rows
    shown_turn all = record {
      shown = λ k there. mixed.shown k there
          ∙ ap (λ b. cond b (f k) (g k)) (before_turn net.frame.sweeps k s l (omega (arith, there, all)));
    }

    -- departures of an earlier sweep are written
    pub shown_earlier : Fits net rows → l < length net.links → (net.frame.sweeps ≡ s → ⊥) → (x : List ℕ)
        → AreShownMixed net f g s (l + 1) (with_out rows s l x)
    shown_earlier fits inside earlier x =
        shown_moved (with_out rows s l x) (λ last. absurd (earlier last))
        (λ k there _. ap (λ o. record (shown_at rows k) { out = o })
        (out_elsewhere rows s l (omega (arith, fits.link_count)) x rows.sweeps k (omega (arith, fits.link_count))
        (λ e _. earlier (sym fits.sweeps ∙ e))))

    -- a pair is written
    pub shown_placed : Fits net rows → AreRows rows → (c : CellValue) → l < length net.links
        → (net.frame.sweeps ≡ s → c ≡ f l) → AreShownMixed net f g s (l + 1) (placed rows s l c)
    shown_placed fits kept c inside made = by (cases_eq s rows.sweeps)
      where
        there_in : (k : ℕ) → k < length net.links → k < length rows.figures
        there_in k there = omega (arith, fits.link_count)

        by : (s ≡ rows.sweeps) ⊎ (s ≡ rows.sweeps → ⊥) → AreShownMixed net f g s (l + 1) (placed rows s l c)
        by (inl last) =
            let test : (s == rows.sweeps) ≡ true = grind (arith, nat_tests) in
            subst (AreShownMixed net f g s (l + 1))
            (sym (λ j. if test j then with_rest (with_out rows (last j) l c.out) l c else with_out rows s l c.out))
            (shown_moved (put_shown rows l c) (λ now. shown_here rows kept l c (there_in l inside) ∙ made now)
            (λ k there apart. shown_elsewhere rows kept l c (there_in l inside) k (there_in k there)
            (apart (sym fits.sweeps ∙ sym last))))
        by (inr earlier) =
            let test : (s == rows.sweeps) ≡ false = let apart : s ≢ rows.sweeps = earlier in grind (arith, nat_tests) in
            subst (λ w. AreShownMixed net f g s (l + 1)
            (if w then with_rest (with_out rows s l c.out) l c else with_out rows s l c.out)) (sym test)
            (shown_earlier fits inside (λ last. earlier (sym last ∙ sym fits.sweeps)) c.out)

-- after the last sweep the rows are the evaluation
pub mixed_end : {net : Network} {g : ℕ → ℕ → List ℕ} {shown_g : ℕ → CellValue} {s : ℕ} {rows : RowsValue}
    → AreMixed net (out_of net) g s 0 rows → AreShownMixed net (evaluated net) shown_g s 0 rows
    → s ≡ net.frame.sweeps + 1 → AreEvaluation net rows
mixed_end {net} {g} {shown_g} {s} outs shown all = record {
  fits = outs.fits;
  outs = λ t k within there.
      outs.outs t k within there ∙ ap (λ w. cond w (out_of net t k) (g t k)) (ends t k within);
  shown = λ k there.
      shown.shown k there ∙ ap (λ w. cond w (evaluated net k) (shown_g k)) (ends net.frame.sweeps k (omega arith));
}
  where
    ends : (t k : ℕ) → t ≤ net.frame.sweeps → is_before t k s 0 ≡ true
    ends t k within = grind (arith, nat_tests)
