-- The greens of an allowed plan fill the cycle.
use Rattle.std.proofs.Common.{◌≡◌, ◌≢◌, ℕ, zero, suc, ◌+◌, ◌-◌, ◌<◌, ◌≤◌, List, map, length, sum, get_or}
use Rattle.std.proofs.Common.{sym, ◌∙◌, ap, refl, arith, inl, inr, take, set, None, eq-zero-or-pos}
use Rattle.std.specs.List.{range_with_len}
use Rattle.std.proofs.lemmas.List.{get_or-map, length-map, take_all, length-set, get_or-set_other}
use Rattle.std.proofs.lemmas.List.Folds.{fold-map}
use Rattle.std.proofs.lemmas.List.Sums.{sum_by_more, sum_by-set, get_or-le-sum_by}
use Rattle.std.proofs.lemmas.List.FromFn.{length-map-range_with_len, sum_by-map-range_with_len_more, get_or-map-range_with_len}
use Rattle.transyt_parts.specs.declared.node.Stage.{Stage}
use Rattle.transyt_parts.specs.Made.{bare_stage}
use Rattle.transyt_parts.specs.Plan.{stage_of, no_stage, length_at, stage_lengths, plan_fault}
use Rattle.transyt_parts.proofs.PlanFacts.{planned}
use Rattle.transyt_equisat.specs.Peaks.{Fits, intergreens, greens_of, IsPlanOf}

-- the green of the stage at a place
abbrev pub green_at : ℕ → List Stage → ℕ → ℕ
green_at steps stages k = length_at steps stages k - (stage_of stages k).intergreen

-- a plan without a fault has two stages or more, and its lengths add up to the cycle
pub plan_parts : (steps : ℕ) (plan : List Stage) → plan_fault steps plan ≡ None
    → (2 ≤ length plan) × (sum (stage_lengths steps plan) ≡ steps)
plan_parts steps plan none = let is = (planned steps plan).0 none in (is.two, is.in_order)

-- greens and intergreens make up the lengths
sum_parts : (steps : ℕ) (plan : List Stage) (n : ℕ) → n ≤ length plan
    → ((k : ℕ) → k < length plan → (stage_of plan k).intergreen ≤ length_at steps plan k)
    → sum (map (green_at steps plan) (range_with_len 0 n)) + intergreens (take n plan)
    ≡ sum (map (length_at steps plan) (range_with_len 0 n))
sum_parts steps plan zero inside room = refl
sum_parts steps plan (suc n) inside room =
    let next : suc n ≡ n + 1 = omega arith in
    let same : 0 + n ≡ n = omega arith in
    let greens = ap (λ m. sum (map (green_at steps plan) (range_with_len 0 m))) next
    ∙ sum_by-map-range_with_len_more (λ x. x) (green_at steps plan) 0 n n same in
    let lengths = ap (λ m. sum (map (length_at steps plan) (range_with_len 0 m))) next
    ∙ sum_by-map-range_with_len_more (λ x. x) (length_at steps plan) 0 n n same in
    let gaps = ap (λ m. intergreens (take m plan)) next ∙ sum_by_more (λ (s : Stage). s.intergreen) plan n no_stage (omega arith) in
    omega (arith, greens, lengths, gaps, sum_parts steps plan n (omega arith) room, room n (omega arith))

-- greens and intergreens sum to the lengths
pub lengths_sum : (steps : ℕ) (plan : List Stage)
    → ((k : ℕ) → k < length plan → (stage_of plan k).intergreen ≤ length_at steps plan k)
    → sum (greens_of steps plan) + intergreens plan ≡ sum (stage_lengths steps plan)
lengths_sum steps plan room =
    ap (λ ss. sum (greens_of steps plan) + intergreens ss) (sym (take_all (length plan) plan (omega arith)))
    ∙ sum_parts steps plan (length plan) (omega arith) room

-- stages that differ at most in their changes have the same intergreens
pub same_gaps : (plan stages : List Stage) → map bare_stage plan ≡ map bare_stage stages → intergreens plan ≡ intergreens stages
same_gaps plan stages same =
    let bare = fold-map (λ (n : ℕ) (s : Stage). n + s.intergreen) bare_stage 0 in
    sym (bare plan) ∙ ap intergreens same ∙ bare stages

-- the greens of an allowed plan fill the cycle
pub plan_fits : (steps : ℕ) (stages plan : List Stage) → IsPlanOf steps stages plan → Fits steps stages (greens_of steps plan)
plan_fits steps stages plan is =
    let plan_is = (planned steps plan).0 is.allowed in
    let count : length plan ≡ length stages =
    sym (length-map plan bare_stage) ∙ ap length is.same ∙ length-map stages bare_stage in
    record {
      count = length-map-range_with_len (green_at steps plan) 0 (length plan) ∙ count;
      least = λ k below.
          let inside : k < length plan = omega arith in
          let here = get_or-map-range_with_len (green_at steps plan) 0 (length plan) k k 0 inside (omega arith) in
          let same : bare_stage (stage_of plan k) ≡ bare_stage (stage_of stages k) =
          sym (get_or-map bare_stage plan k no_stage no_stage inside)
          ∙ ap (λ ss. get_or ss k no_stage) is.same ∙ get_or-map bare_stage stages k no_stage no_stage below in
          omega (arith, plan_is.greens k inside, here, ap (λ (s : Stage). s.least) same);
      fills = omega (
        arith,
        lengths_sum steps plan (λ k inside. omega (arith, plan_is.greens k inside)),
        plan_is.in_order,
        same_gaps plan stages is.same,
      );
    }

-- a green leaves room for another one
one_beside : (steps : ℕ) (stages : List Stage) (gs : List ℕ) (k j : ℕ) → Fits steps stages gs → j ≢ k → k < length stages
    → j < length stages → 0 < (stage_of stages j).least → get_or gs k 0 + (stage_of stages k).intergreen < steps
one_beside steps stages gs k j fits other inside beside some =
    omega (
      arith,
      sum_by-set (λ n. n) gs k 0 0 (omega (arith, fits.count)),
      get_or-le-sum_by (λ (s : Stage). s.intergreen) stages k no_stage inside,
      get_or-set_other gs k j 0 0 other,
      get_or-le-sum_by (λ n. n) (set gs k 0) j 0 (omega (arith, fits.count, length-set gs k 0)),
      fits.least j beside,
      fits.fills,
    )

-- of two greens or more one takes less than the cycle with its intergreen
pub one_shorter : (steps : ℕ) (stages : List Stage) (gs : List ℕ) (k : ℕ) → Fits steps stages gs → 2 ≤ length stages
    → ((j : ℕ) → j < length stages → 0 < (stage_of stages j).least) → k < length stages
    → get_or gs k 0 + (stage_of stages k).intergreen < steps
one_shorter steps stages gs k fits two some inside =
    elim (eq-zero-or-pos k) [
      | inl first ↦ one_beside steps stages gs k 1 fits (λ same. omega arith) inside (omega arith) (some 1 (omega arith))
      | inr later ↦ one_beside steps stages gs k 0 fits (λ same. omega arith) inside (omega arith) (some 0 (omega arith))
    ]
