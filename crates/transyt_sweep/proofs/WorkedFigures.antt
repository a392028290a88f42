-- The figures of the three junctions' links, by the root of what is under each.
use Rattle.std.proofs.Common.{◌≡◌, ℕ, ◌+◌, ◌-◌, ◌*◌, ◌/◌, ◌<◌, ◌≤◌, List, [], ◌∷◌, map, sum, ap, sym, lit<, lit≤}
use Rattle.std.specs.List.{range_with_len}
use Rattle.transyt_num.specs.Root.{root}
use Rattle.transyt_num.proofs.RootLaws.{root_is}
use Rattle.transyt_parts.specs.Made.{new_weights}
use Rattle.transyt_delay.specs.declared.terms.Terms.{Terms}
use Rattle.transyt_delay.specs.declared.figures.Figures.{Figures}
use Rattle.transyt_delay.specs.Figures.{figures, in_period, under_root, uniform_of, stops_of, index_of}
use Rattle.transyt_profile.specs.Platoon.{smoothed}
use Rattle.transyt_profile.specs.StopLine.{sum_back, greatest}
use Rattle.transyt_stage.specs.ThreeJunctions.{its_frame, three_junctions}
use Rattle.transyt_sweep.specs.Cell.{terms_frame}
use Rattle.transyt_sweep.specs.Sweeps.{seen, out_of, evaluated, index}
use Rattle.transyt_sweep.specs.WorkedLinks.{new_figures, figures_of_three}

-- the figures of terms, where this is the root that the random delay takes
abbrev pub figures_with : Terms → ℕ → Figures
figures_with t r =
    let random : ℕ = (r + in_period t.frame t.arrivals - in_period t.frame t.room) / 4 in
    new_figures (uniform_of t) random (stops_of t)
    (index_of (uniform_of t) random (stops_of t) t.frame.stop_penalty t.weights)

-- a root is the number between whose squares, its own and the next, it lies
pub figures_by_root : (t : Terms) (r : ℕ)
    → r * r ≤ under_root (in_period t.frame t.arrivals) (in_period t.frame t.room)
    → under_root (in_period t.frame t.arrivals) (in_period t.frame t.room) < (r + 1) * (r + 1)
    → figures t ≡ figures_with t r
figures_by_root t r least most =
    let is_root : r ≡ root (under_root (in_period t.frame t.arrivals) (in_period t.frame t.room)) =
    root_is (under_root (in_period t.frame t.arrivals) (in_period t.frame t.room)) r least most in
    ap (figures_with t) (sym is_root)

-- terms of these sums and weights
abbrev pub its_terms : ℕ → ℕ → ℕ → ℕ → ℕ → ℕ → Terms
its_terms arrivals room queued stopped delay stop = record {
  arrivals = arrivals;
  room = room;
  queued = queued;
  stopped = stopped;
  frame = terms_frame its_frame;
  weights = new_weights delay stop;
}

-- link by link
pub figures_come_out : map (λ l. (evaluated three_junctions l).figures) (range_with_len 0 8) ≡ figures_of_three
unfolding sum_back greatest smoothed seen out_of evaluated
figures_come_out = λ j.
    figures_by_root (its_terms 13599728 14441664 76481140 12685032 3 2) 47643865 (lit≤ tt) (lit< tt) j
    ∷ figures_by_root (its_terms 2424996 24734721 3772216 943054 5 7) 669509108 (lit≤ tt) (lit< tt) j
    ∷ figures_by_root (its_terms 15324984 10427776 72994296 9848440 2 11) 153046985 (lit≤ tt) (lit< tt) j
    ∷ figures_by_root (its_terms 8924480 16122216 47788847 6068106 4 1) 218397803 (lit≤ tt) (lit< tt) j
    ∷ figures_by_root (its_terms 14183665 13881940 75995112 13422987 6 5) 42237116 (lit≤ tt) (lit< tt) j
    ∷ figures_by_root (its_terms 21924990 6672220 46705404 6301526 1 9) 460449011 (lit≤ tt) (lit< tt) j
    ∷ figures_by_root (its_terms 2349969 7372220 15958680 1705649 7 3) 151600464 (lit≤ tt) (lit< tt) j
    ∷ figures_by_root (its_terms 6252317 15116670 15234329 4169314 9 4) 267337533 (lit≤ tt) (lit< tt) j
    ∷ []

-- and the index is the sum of theirs
pub index_comes_out : index three_junctions ≡ 556223009
index_comes_out = ap (λ (fs : List Figures). sum (map (λ (f : Figures). f.index) fs)) figures_come_out
