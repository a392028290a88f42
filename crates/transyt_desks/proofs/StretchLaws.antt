-- Stretches: a move that doesn't lower the index adds its work, and one that does ends the stretch.
use Rattle.std.proofs.Common.{◌≡◌, ℕ, suc, ◌+◌, ◌<◌, ◌≤◌, false, Option, Some, None, ap, sym, ◌∙◌, subst, arith}
use borrow.Author.Count.{below_more}
use Rattle.transyt_net.specs.Parts.{Network}
use Rattle.transyt_moves.specs.Moves.{move}
use Rattle.transyt_sweep.specs.Climb.{lowers}
use Rattle.transyt_sweep.specs.Sweeps.{index}
use Rattle.transyt_track.specs.Due.{edit_work}
use Rattle.transyt_desks.specs.declared.results.MadeMove.{MadeMove}
use Rattle.transyt_desks.specs.declared.stretch.Stretch.{Stretch}
use Rattle.transyt_desks.specs.Stretches.{IsStretch, made_at, passing, place_at, work_before}

module _ (net : Network) (place count n : ℕ) (s : Stretch) (is : IsStretch net place count n s) (going : s.made ≡ None) where
  -- one move more passes
  pub stretch_passes : (work : ℕ) → work ≡ edit_work net (move net (place_at place count n))
      → lowers net (place_at place count n) ≡ false → edit_work net (move net (place_at place count n)) ≤ 8000
      → IsStretch net place count (n + 1) (record (passing s work) { made = s.made })
  stretch_passes work worked higher few =
      let all : s.passed ≡ n = is.whole going in
      let more : s.passed + 1 ≡ suc n = omega (arith, all) in
      record {
        inside = omega (arith, all);
        passes = λ k less. below_more (λ k. lowers net (place_at place count k) ≡ false) n
            (λ k fewer. is.passes k (omega (arith, all, fewer))) higher k (omega (arith, all, less));
        work = (λ i. (is.work ∙ ap (work_before net place count) all) i + worked i) ∙ sym (ap (work_before net place count) more);
        few = omega (arith, is.few, few, worked);
        next = λ made yes. absurd (cc);
        found = λ made yes. absurd (cc);
        small = λ made yes. absurd (cc);
        whole = λ no. omega (arith, all);
      }

  -- one move more lowers the index, and was made
  pub stretch_made : (to : ℕ) (o : Option MadeMove) → n < to
      → ((made : MadeMove) → o ≡ Some made → made_at net (index net) (place_at place count n) ≡ Some made)
      → ((made : MadeMove) → o ≡ Some made → made.work ≤ 8000) → (o ≡ None → ⊥)
      → IsStretch net place count to (record { passed = s.passed; work = s.work; made = o })
  stretch_made to o less found small some =
      let all : s.passed ≡ n = is.whole going in
      record {
        inside = omega (arith, all, less);
        passes = is.passes;
        work = is.work;
        few = is.few;
        next = λ made yes. omega (arith, all, less);
        found = λ made yes. subst (λ j. made_at net (index net) (place_at place count j) ≡ Some made) (sym all) (found made yes);
        small = small;
        whole = λ no. absurd (some no);
      }
