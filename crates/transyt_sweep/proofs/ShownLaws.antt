-- The last sweep of an evaluation, link by link.
use Rattle.std.proofs.Common.{◌≡◌, ◌≢◌, ℕ, ◌+◌, ◌<◌, ◌≤◌, true, false, length, ap, sym, ◌∙◌, arith}
use Rattle.std.proofs.Common.{◌==◌, ◌⊎◌, inl, inr}
use Rattle.std.proofs.lemmas.Bool.{cases_eq}
use Rattle.std.proofs.lemmas.Bool.Decides.{nat_tests}
use Rattle.transyt_net.specs.Parts.{Network}
use Rattle.transyt_sweep.specs.Cell.{CellValue}
use Rattle.transyt_sweep.specs.Sweeps.{cell_at, evaluated}
use Rattle.transyt_kept.specs.Rows.{RowsValue, placed, shown_at, AreRows}
use Rattle.transyt_sweep.specs.Reading.{Fits}
use Rattle.transyt_sweep.specs.Front.{AreShown, is_before}
use Rattle.transyt_sweep.proofs.SweepLaws.{evaluated_is}
use Rattle.transyt_kept.proofs.ShownLaws.{put_shown, shown_here, shown_elsewhere}
use Rattle.transyt_sweep.proofs.FrontLaws.{before_other}

-- one link more
pub shown_put : (net : Network) (s l : ℕ) (rows : RowsValue) (c : CellValue) → Fits net rows → AreRows rows
    → AreShown net s l rows → s ≤ net.frame.sweeps → l < length net.links → c ≡ cell_at net s l
    → AreShown net s (l + 1) (placed rows s l c)
shown_put net s l rows c fits kept shown swept inside made k there before =
    by (cases_eq s rows.sweeps) (cases_eq k l)
  where
    inside_in : l < length rows.figures
    inside_in = omega (arith, fits.link_count)

    by : (s ≡ rows.sweeps) ⊎ (s ≡ rows.sweeps → ⊥) → (k ≡ l) ⊎ (k ≡ l → ⊥)
        → shown_at (placed rows s l c) k ≡ evaluated net k
    by (inl last) which =
        let test : (s == rows.sweeps) ≡ true = grind (arith, nat_tests) in
        rw (test, last) (at which)
      where
        at : (k ≡ l) ⊎ (k ≡ l → ⊥) → shown_at (put_shown rows l c) k ≡ evaluated net k
        at (inl same) =
            ap (shown_at (put_shown rows l c)) same
            ∙ shown_here rows kept l c inside_in
            ∙ made
            ∙ ap (λ u. cell_at net u l) (last ∙ fits.sweeps)
            ∙ sym (evaluated_is net l)
            ∙ ap (evaluated net) (sym same)
        at (inr other) =
            shown_elsewhere rows kept l c inside_in k (omega (arith, fits.link_count)) other
            ∙ shown k there (sym (before_other net.frame.sweeps k s l (λ _ e. other e)) ∙ before)
    by (inr other) which =
        let apart : s ≢ rows.sweeps = other in
        let none : is_before net.frame.sweeps k s (l + 1) ≡ false = grind (arith, nat_tests, fits.sweeps) in
        absurd (cc)
