-- The rows are filled link by link and sweep by sweep.
use Rattle.std.proofs.Common.{◌≡◌, ℕ, ◌+◌, ◌*◌, ◌<◌, ◌≤◌, Bool, true, false, cond, [], length}
use Rattle.std.proofs.Common.{refl, ap, sym, ◌∙◌, arith}
use Rattle.std.proofs.Common.{◌==◌, if◌then◌else◌}
use Rattle.std.proofs.lemmas.List.{length-replicate, get_or-replicate}
use Rattle.transyt_profile.specs.Profile.{uniform}
use Rattle.transyt_net.specs.Parts.{Network}
use Rattle.transyt_sweep.specs.Cell.{CellValue}
use Rattle.transyt_sweep.specs.Sweeps.{out_of, start, cell_at}
use Rattle.transyt_kept.specs.Cell.{no_figures}
use Rattle.transyt_kept.specs.Rows.{RowsValue, row, empty_rows, with_out, with_rest, placed, AreRows}
use Rattle.transyt_sweep.specs.Front.{AreMixed, AreFilled, AreEvaluation, is_before, empty_out}
use Rattle.transyt_sweep.specs.Opened.{AreStarted, AreOpened}
use Rattle.transyt_sweep.proofs.SweepLaws.{out_of_pair, out_of_start}
use Rattle.transyt_kept.proofs.PairLaws.{pair_inside}
use Rattle.transyt_sweep.proofs.FrontLaws.{mixed_put, mixed_shown, mixed_turn, before_turn, before_end}
use Rattle.transyt_sweep.proofs.FrontLaws.{not_before_first}
use Rattle.transyt_sweep.proofs.ShownLaws.{shown_put}

module _ (net : Network) (s l : ℕ) (rows : RowsValue) (filled : AreFilled net s l rows) where
  -- one link more
  pub filled_put : AreRows rows → (c : CellValue) → 1 ≤ s → s ≤ net.frame.sweeps → l < length net.links
      → c ≡ cell_at net s l → AreFilled net s (l + 1) (placed rows s l c)
  filled_put kept c first swept inside made = record {
    outs = outs (s == rows.sweeps);
    shown = shown_put net s l rows c filled.outs.fits kept filled.shown swept inside made;
  }
    where
      put : AreMixed net (out_of net) (empty_out net) s (l + 1) (with_out rows s l c.out)
      put = mixed_put net (out_of net) (empty_out net) s l rows filled.outs kept c.out swept inside
          (ap (λ (v : CellValue). v.out) made ∙ sym (out_of_pair net s l first))

      outs : (b : Bool) → AreMixed net (out_of net) (empty_out net) s (l + 1)
          (if b then with_rest (with_out rows s l c.out) l c else with_out rows s l c.out)
      outs true = mixed_shown net (out_of net) (empty_out net) s (l + 1) (with_out rows s l c.out) put l c
      outs false = put

  -- at the end of a sweep the next begins
  pub filled_turn : length net.links ≡ l → AreFilled net (s + 1) 0 rows
  filled_turn all = record {
    outs = mixed_turn net (out_of net) (empty_out net) s l rows all filled.outs;
    shown = λ k there before. filled.shown k there
        (before_turn net.frame.sweeps k s l (omega (arith, there, all)) ∙ before);
  }

-- at the end of the last sweep they are the evaluation
pub filled_end : (net : Network) (rows : RowsValue) → AreFilled net (net.frame.sweeps + 1) 0 rows
    → AreEvaluation net rows
filled_end net rows filled = record {
  fits = filled.outs.fits;
  outs = λ s l swept inside. filled.outs.outs s l swept inside
      ∙ ap (λ b. cond b (out_of net s l) (empty_out net s l)) (before_end s l net.frame.sweeps swept);
  shown = λ l inside. filled.shown l inside (before_end net.frame.sweeps l net.frame.sweeps (omega arith));
}

-- rows in which all is 0, before any link is started
pub empty_started : (net : Network)
    → AreStarted net 0 0 (empty_rows net.frame.step_count net.frame.sweeps (length net.links))
empty_started net = record {
  outs = record {
    fits = record { step_count = refl; sweeps = refl; link_count = length-replicate (length net.links) no_figures };
    outs = λ t k swept inside.
        ap (λ n. row (empty_rows net.frame.step_count net.frame.sweeps (length net.links)).outs (t * n + k))
        (length-replicate (length net.links) no_figures)
        ∙ get_or-replicate ((net.frame.sweeps + 1) * length net.links) (t * length net.links + k)
        (uniform net.frame.step_count 0) [] (pair_inside net.frame.sweeps (length net.links) t k swept inside)
        ∙ sym (ap (λ b. cond b (out_of net t k) (empty_out net t k)) (not_before_first t k 0 (omega arith)));
  };
  rest = refl;
}

-- one link more is started
pub started_put : (net : Network) (l : ℕ) (rows : RowsValue) → AreStarted net 0 l rows → AreRows rows
    → l < length net.links → AreStarted net 0 (l + 1) (with_out rows 0 l (start net l))
started_put net l rows started kept inside = record {
  outs = mixed_put net (out_of net) (empty_out net) 0 l rows started.outs kept (start net l) (omega arith) inside
      (sym (out_of_start net l));
  rest = ap (λ (r : RowsValue). record r { outs = (with_out rows 0 l (start net l)).outs }) started.rest;
}

-- all links are started
pub started_end : (net : Network) (l : ℕ) (rows : RowsValue) → length net.links ≡ l → AreStarted net 0 l rows
    → AreOpened net rows
started_end net l rows all started = record {
  outs = mixed_turn net (out_of net) (empty_out net) 0 l rows all started.outs;
  rest = started.rest;
}

-- the first sweep begins
pub opened_filled : (net : Network) (rows : RowsValue) → 1 ≤ net.frame.sweeps → AreOpened net rows
    → AreFilled net 1 0 rows
opened_filled net rows some opened = record {
  outs = opened.outs;
  shown = λ k there before.
      let none : is_before net.frame.sweeps k 1 0 ≡ false = not_before_first net.frame.sweeps k 1 some in
      absurd (cc);
}
