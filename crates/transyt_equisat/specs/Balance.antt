-- The balance of a node: the plan whose greatest degree of saturation is least. Times are in steps.
use Rattle.std.specs.Prelude.{ℕ, List, zero, suc, ◌+◌, ◌-◌, ◌*◌, ◌%◌, Bool, not, ◌&&◌, nat_eq, [], ◌∷◌, map, sum, ◌≡◌}
use Rattle.std.specs.Prelude.{◌<◌, length, slice_index, slice_index_or, slice_set, Option, Some, None, if◌then◌else◌}
use Rattle.transyt_equisat.specs.declared.greens.Share.{Share}
use Rattle.std.specs.List.{list_all, filter, range_with_len, find, fold, flat_map}
use Rattle.transyt_parts.specs.declared.node.Stage.{Stage}
use Rattle.transyt_parts.specs.Parts.{NodeValue, LinkValue, total_flow}
use Rattle.transyt_parts.specs.Plan.{stage_of}
use Rattle.transyt_net.specs.Parts.{Network, node_of}
use Rattle.transyt_equisat.specs.declared.fraction.Fraction.{Fraction}
use Rattle.transyt_equisat.specs.declared.balancing.Peak.{Peak}
use Rattle.transyt_equisat.specs.Degrees.{is_above, nothing, AtMost, IsSame, is_counted, counts_in, degree}
use Rattle.transyt_equisat.specs.Peaks.{intergreens, green_of, peak, greens_of, IsPlanOf}

-- the peak, the number of the first link that reaches it, and the shares of the stages in order
pub record GreensValue : Type 0 where
  pub top : ℕ
  pub base : ℕ
  pub link : ℕ
  pub stages : List Share

-- all greens of these stages, none below its least, that take so many steps with the intergreens
abbrev pub all_greens : List Stage → ℕ → List (List ℕ)
all_greens [] zero = [] ∷ []
all_greens [] (suc left) = []
all_greens (s ∷ ss) left = flat_map (λ e. map (λ es. e ∷ es) (all_greens ss (left - (e + s.intergreen))))
    (range_with_len s.least (left + 1 - (s.least + s.intergreen)))

-- the least of these, the first where some are equal
abbrev pub least_of : List Fraction → Fraction
least_of [] = nothing
least_of (d ∷ ds) = fold (λ a b. if is_above a b then b else a) d ds

-- the least peak of all greens that fill the cycle
abbrev pub least_peak : Network → NodeValue → Fraction
least_peak net n = least_of (map (peak net n.number) (all_greens n.stages net.frame.step_count))

-- the first of n numbers from e on that passes; the one behind them where none does
abbrev pub first_from : (ℕ → Bool) → ℕ → ℕ → ℕ
first_from test e zero = e
first_from test e (suc n) = if test e then e else first_from test (e + 1) n

-- the first green of the stage at a place, from its least on, at which the degree of each of its counted links passes
abbrev pub first_green : Network → NodeValue → (Fraction → Bool) → ℕ → ℕ
first_green net n test k =
    first_from
    (λ e. list_all (λ l. test (degree net.frame.step_count l e)) (filter (counts_in n.number (k + 1)) net.links))
    (stage_of n.stages k).least (net.frame.step_count - (stage_of n.stages k).least)

-- these greens, with so many steps more for the first
abbrev pub first_more : ℕ → List ℕ → List ℕ
first_more left greens = slice_set greens 0 (slice_index greens 0 + left)

-- the least greens of the stages at which no counted link is above v
abbrev pub least_greens : Network → NodeValue → Fraction → List ℕ
least_greens net n v = map (first_green net n (λ d. not (is_above d v))) (range_with_len 0 (length n.stages))

-- the greens of the stages: the least, and what is left of the cycle for the first
abbrev pub greens_at : Network → NodeValue → Fraction → List ℕ
greens_at net n v =
    first_more (net.frame.step_count - (sum (least_greens net n v) + intergreens n.stages)) (least_greens net n v)

-- the need of the stage at a place: the least green at which each of its counted links is below v; 0 where v is 0
abbrev pub need_at : Network → NodeValue → Fraction → ℕ → ℕ
need_at net n v k = if nat_eq v.top 0 then 0 else first_green net n (λ d. is_above v d) k

-- the change of the stage at a place: that of the first stays, each other comes a length behind the one before
abbrev pub change_at : ℕ → List Stage → List ℕ → ℕ → ℕ
change_at steps stages greens zero = (stage_of stages 0).change
change_at steps stages greens (suc k) =
    (change_at steps stages greens k + slice_index greens k + (stage_of stages k).intergreen) % steps

-- whether two fractions are equal
abbrev pub is_same : Fraction → Fraction → Bool
is_same a b = nat_eq (a.top * b.base) (b.top * a.base)

-- whether a link counts at the node of a number, and has the degree v at its green
abbrev pub reaches : Network → ℕ → Fraction → List ℕ → LinkValue → Bool
reaches net number v greens l = is_counted number l && is_same (degree net.frame.step_count l (green_of greens l)) v

-- the first link that reaches v; none where v is 0
abbrev pub reaching : Network → ℕ → Fraction → List ℕ → Option LinkValue
reaching net number v greens = if nat_eq v.top 0 then None else find (reaches net number v greens) net.links

-- the degree and number of a link that was found; 0 where none was
abbrev pub peak_of : ℕ → List ℕ → Option LinkValue → Peak
peak_of steps greens None = record { top = 0; base = 1; link = 0 }
peak_of steps greens (Some l) =
    record { top = total_flow l * steps; base = l.saturation * green_of greens l; link = l.number }

-- the share of the stage at a place, with these greens and needs
abbrev pub share_of : ℕ → List Stage → List ℕ → (ℕ → ℕ) → ℕ → Share
share_of steps stages greens need k =
    record { change = change_at steps stages greens k; green = slice_index greens k; need = need k }

-- its share for a peak and greens
abbrev pub share_at : Network → NodeValue → Fraction → List ℕ → ℕ → Share
share_at net n v greens k = share_of net.frame.step_count n.stages greens (need_at net n v) k

-- the answer for a peak and greens
abbrev pub answer_of : Network → NodeValue → Fraction → List ℕ → GreensValue
answer_of net n v greens = record {
  top = (peak_of net.frame.step_count greens (reaching net n.number v greens)).top;
  base = (peak_of net.frame.step_count greens (reaching net n.number v greens)).base;
  link = (peak_of net.frame.step_count greens (reaching net n.number v greens)).link;
  stages = map (share_at net n v greens) (range_with_len 0 (length n.stages));
}

-- the answer for a peak
abbrev pub balance_at : Network → NodeValue → Fraction → GreensValue
balance_at net n v = answer_of net n v (greens_at net n v)

-- the balance of the node at a place
abbrev pub balance : Network → ℕ → GreensValue
balance net p = balance_at net (node_of net p) (least_peak net (node_of net p))

-- the share at a place that has none
abbrev pub no_share : Share
no_share = record { change = 0; green = 0; need = 0 }

-- the stages at the changes of these shares
abbrev pub timed : List Stage → List Share → List Stage
timed stages shares =
    map (λ k. record (stage_of stages k) { change = (slice_index_or shares k no_share).change })
    (range_with_len 0 (length stages))

-- the peak that an answer tells
abbrev pub peak_told : GreensValue → Fraction
peak_told g = record { top = g.top; base = g.base }

-- the worth of the answer for a node: its plan is allowed and has the greens and the peak told, no allowed plan of
-- the node has a lower peak, and a lower one would need more steps than there are
pub record IsBalanced (net : Network) (n : NodeValue) (g : GreensValue) : Type 0 where
  pub allowed : IsPlanOf net.frame.step_count n.stages (timed n.stages g.stages)
  pub greens : greens_of net.frame.step_count (timed n.stages g.stages) ≡ map (λ h. h.green) g.stages
  pub attained : IsSame (peak_told g) (peak net n.number (greens_of net.frame.step_count (timed n.stages g.stages)))
  pub least : (plan : List Stage) → IsPlanOf net.frame.step_count n.stages plan
      → AtMost (peak_told g) (peak net n.number (greens_of net.frame.step_count plan))
  pub certificate : 0 < g.top → net.frame.step_count < sum (map (λ h. h.need) g.stages) + intergreens n.stages
