-- The rows while the links are worked out one after another.
use Rattle.std.proofs.Common.{rules, ◌≡◌, ℕ, ◌+◌, ◌<◌, ◌≤◌, true, false, cond, List, length, ap, sym, ◌∙◌, arith}
use Rattle.std.proofs.Common.{◌⊎◌, inl, inr, if◌then◌else◌}
use Rattle.std.proofs.lemmas.Bool.{cases_eq}
use Rattle.std.proofs.lemmas.Bool.Decides.{nat_tests}
use Rattle.std.proofs.lemmas.List.{length-set}
use Rattle.transyt_net.specs.Parts.{Network}
use Rattle.transyt_sweep.specs.Cell.{CellValue, cell_by}
use Rattle.transyt_sweep.specs.Sweeps.{read_at, out_of, read_of, cell_at}
use Rattle.transyt_kept.specs.Rows.{RowsValue, out_at, with_out, with_rest, AreRows}
use Rattle.transyt_sweep.specs.Reading.{read_in}
use Rattle.transyt_sweep.specs.Front.{AreMixed, is_before}
use Rattle.transyt_kept.proofs.PairLaws.{out_here, out_elsewhere, out_shown}
use Rattle.transyt_sweep.proofs.ReadLaws.{cell_same}

pub before_self : (s l : ℕ) → is_before s l s (l + 1) ≡ true
before_self s l = grind (arith, nat_tests)

pub before_other : (t k s l : ℕ) → (t ≡ s → k ≡ l → ⊥) → is_before t k s (l + 1) ≡ is_before t k s l
before_other t k s l apart = grind (arith, nat_tests)

pub before_turn : (t k s links : ℕ) → k < links → is_before t k s links ≡ is_before t k (s + 1) 0
before_turn t k s links inside = grind (arith, nat_tests)

pub before_end : (t k sweeps : ℕ) → t ≤ sweeps → is_before t k (sweeps + 1) 0 ≡ true
before_end t k sweeps swept = grind (arith, nat_tests)

module _ (net : Network) (f g : ℕ → ℕ → List ℕ) (s l : ℕ) (rows : RowsValue) (mixed : AreMixed net f g s l rows) where
  -- one link more
  pub mixed_put : AreRows rows → (x : List ℕ) → s ≤ net.frame.sweeps → l < length net.links → x ≡ f s l
      → AreMixed net f g s (l + 1) (with_out rows s l x)
  mixed_put kept x swept inside made = record {
    fits = search rules;
    outs = λ t k within there. by t k within there (cases_eq t s) (cases_eq k l);
  }
    where
      inside_in : l < length rows.figures
      inside_in = omega (arith, mixed.fits.link_count)

      elsewhere : (t k : ℕ) → t ≤ net.frame.sweeps → k < length net.links → (t ≡ s → k ≡ l → ⊥)
          → out_at (with_out rows s l x) t k ≡ (if is_before t k s (l + 1) then f t k else g t k)
      elsewhere t k within there apart =
          out_elsewhere rows s l inside_in x t k (omega (arith, mixed.fits.link_count)) apart
          ∙ mixed.outs t k within there
          ∙ ap (λ b. cond b (f t k) (g t k)) (sym (before_other t k s l apart))

      by : (t k : ℕ) → t ≤ net.frame.sweeps → k < length net.links → (t ≡ s) ⊎ (t ≡ s → ⊥) → (k ≡ l) ⊎ (k ≡ l → ⊥)
          → out_at (with_out rows s l x) t k ≡ (if is_before t k s (l + 1) then f t k else g t k)
      by t k within there (inl sweep) (inl link) =
          rw (sweep, link) (out_here rows kept s l (omega (arith, mixed.fits.sweeps)) inside_in x ∙ made
          ∙ sym (ap (λ b. cond b (f s l) (g s l)) (before_self s l)))
      by t k within there (inl sweep) (inr other) = elsewhere t k within there (λ _ e. other e)
      by t k within there (inr other) _ = elsewhere t k within there (λ e _. other e)

  -- with the rest of the last sweep written, the departures are the same
  pub mixed_shown : (m : ℕ) (c : CellValue) → AreMixed net f g s l (with_rest rows m c)
  mixed_shown m c = record {
    fits = search (rules, length-set);
    outs = λ t k within there. out_shown rows m c t k ∙ mixed.outs t k within there;
  }

-- at the end of a sweep the next begins
pub mixed_turn : (net : Network) (f g : ℕ → ℕ → List ℕ) (s links : ℕ) (rows : RowsValue) → length net.links ≡ links
    → AreMixed net f g s links rows → AreMixed net f g (s + 1) 0 rows
mixed_turn net f g s links rows all mixed = record {
  fits = mixed.fits;
  outs = λ t k within there. mixed.outs t k within there
      ∙ ap (λ b. cond b (f t k) (g t k)) (before_turn t k s links (omega (arith, there, all)));
}

-- the departures that a link reads in these rows are those of the definition
pub cell_is : (net : Network) (g : ℕ → ℕ → List ℕ) (s l : ℕ) (rows : RowsValue) → AreMixed net (out_of net) g s l rows
    → 1 ≤ s → s ≤ net.frame.sweeps → l < length net.links → cell_by net (read_in rows s l) l ≡ cell_at net s l
cell_is net g s l rows mixed first swept inside =
    cell_same net (read_in rows s l) (read_of net s l) (omega arith)
    (λ j there. let before : is_before (read_at s l j) j s l ≡ true = grind (arith, nat_tests) in
    mixed.outs (read_at s l j) j (grind (arith, nat_tests)) there
    ∙ ap (λ b. cond b (read_of net s l j) (g (read_at s l j) j)) before)
    l

-- at the first link of its own sweep none is worked out, nor at an earlier one
pub not_before_first : (t k s : ℕ) → s ≤ t → is_before t k s 0 ≡ false
not_before_first t k s later = grind (arith, nat_tests)
