-- The links of the three junctions, computed from the definitions.
use Rattle.std.proofs.Common.{◌≡◌, ℕ, List, [], ◌∷◌, get_or, map, ap, refl}
use Rattle.std.specs.List.{range_with_len}
use Rattle.transyt_profile.specs.Platoon.{smoothed}
use Rattle.transyt_profile.specs.StopLine.{sum_back, greatest}
use Rattle.transyt_stage.specs.ThreeJunctions.{three_junctions}
use Rattle.transyt_sweep.specs.Cell.{CellValue}
use Rattle.transyt_sweep.specs.Sweeps.{seen, out_of, evaluated}
use Rattle.transyt_sweep.specs.WorkedLinks.{arrivals_of_three, gos_of_three, queues_of_three, outs_of_three}
use Rattle.transyt_sweep.proofs.laws.worked_links.Goals as goal

-- a row of each link
abbrev rows : (CellValue → List ℕ) → List (List ℕ)
rows row = map (λ l. row (evaluated three_junctions l)) (range_with_len 0 8)

-- arrivals, GO, the queue and departures
come_out : rows (λ v. v.arrivals) ∷ rows (λ v. v.go) ∷ rows (λ v. v.queue) ∷ rows (λ v. v.out) ∷ []
    ≡ arrivals_of_three ∷ gos_of_three ∷ queues_of_three ∷ outs_of_three ∷ []
unfolding sum_back greatest smoothed seen out_of evaluated
come_out = refl

-- those of one kind
abbrev kind : ℕ → List (List (List ℕ)) → List (List ℕ)
kind k rows = get_or rows k []

pub returns : goal.returns
returns c = record {
  arrivals = ap (kind 0) come_out;
  go = ap (kind 1) come_out;
  queue = ap (kind 2) come_out;
  out = ap (kind 3) come_out;
}
