-- The row of a junction with a link, and the network at its end, by the root that each random delay takes.
use Rattle.std.proofs.Common.{◌≡◌, ℕ, ◌+◌, ◌-◌, ◌%◌, nat_lt, [], ◌∷◌, sum, false, true, map, Option, None, Some, refl, ap, ◌∙◌}
use Rattle.std.proofs.Common.{arith, lit<, lit≤, if◌then◌else◌}
use Rattle.std.proofs.lemmas.Bool.Decides.{nat_tests}
use Rattle.std.specs.Option.{option_map}
use Rattle.transyt_delay.specs.declared.figures.Figures.{Figures}
use Rattle.transyt_profile.specs.Platoon.{smoothed}
use Rattle.transyt_profile.specs.StopLine.{sum_back, greatest}
use Rattle.transyt_net.specs.Parts.{Network}
use Rattle.transyt_moves.specs.Moves.{move, move_count}
use Rattle.transyt_sweep.specs.Sweeps.{seen, out_of, evaluated}
use Rattle.transyt_sweep.specs.Climb.{Climb, tried_at, is_below, lowers, moved, least, first, ended, stepped}
use Rattle.transyt_sweep.specs.Climb.{after_search, climb, climb_within}
use Rattle.transyt_sweep.specs.WorkedLinks.{new_figures}
use Rattle.transyt_sweep.proofs.WorkedFigures.{figures_by_root, its_terms}
use Rattle.transyt_net.specs.Edits.{set_offset}
use Rattle.transyt_climbs.specs.declared.networks.NetworkAt.TheVariants as plan
use Rattle.transyt_climbs.specs.Climbs.{end_of, row_by, own_climb, climbed_row}
use Rattle.transyt_climbs.specs.WorkedClimbs.{climbed_at, junction}

-- the junction at another offset
abbrev at_offset : ℕ → Network
at_offset offset = record (junction 16) { nodes = map (set_offset offset) (junction 16).nodes }

-- the figures of the link by the steps that its stage has: 7 and 9
abbrev seven : Figures
seven = new_figures 3188425 1432032 99768 13935199

abbrev nine : Figures
nine = new_figures 2223996 632135 86466 8632377

here : (evaluated (junction 16) 0).figures ≡ seven
unfolding sum_back greatest smoothed seen out_of evaluated
here = figures_by_root (its_terms 10774998 14441664 57391656 8979165 3 2) 115728109 (lit≤ tt) (lit< tt)

on : (evaluated (at_offset 7) 0).figures ≡ seven
unfolding sum_back greatest smoothed seen out_of evaluated
on = figures_by_root (its_terms 10774998 14441664 57391656 8979165 3 2) 115728109 (lit≤ tt) (lit< tt)

back : (evaluated (at_offset 3) 0).figures ≡ seven
unfolding sum_back greatest smoothed seen out_of evaluated
back = figures_by_root (its_terms 10774998 14441664 57391656 8979165 3 2) 115728109 (lit≤ tt) (lit< tt)

longer : (evaluated (junction 0) 0).figures ≡ nine
unfolding sum_back greatest smoothed seen out_of evaluated
longer = figures_by_root (its_terms 10774998 19255552 40031937 7781943 3 2) 256945162 (lit≤ tt) (lit< tt)

-- the index of a link's figures
abbrev of_link : Figures → ℕ
of_link f = sum (f.index ∷ [])

-- the third move is the first that lowers the index
lowers_0 : lowers (junction 16) 0 ≡ false
unfolding lowers tried_at move
lowers_0 = λ j. is_below (of_link (here j)) (Some (of_link (on j)))

lowers_1 : lowers (junction 16) 1 ≡ false
unfolding lowers tried_at move
lowers_1 = λ j. is_below (of_link (here j)) (Some (of_link (back j)))

lowers_2 : lowers (junction 16) 2 ≡ true
unfolding lowers tried_at move
lowers_2 = λ j. is_below (of_link (here j)) (Some (of_link (longer j)))

first_is : first (junction 16) 0 ≡ Some 2
unfolding move_count
first_is = λ j. if lowers_0 j then Some 0 else option_map (λ r. r + 1)
    (if lowers_1 j then Some 0 else option_map (λ r. r + 1)
    (if lowers_2 j then Some 0 else option_map (λ r. r + 1)
    (least (λ r. lowers (junction 16) ((0 + (r + 1 + 1 + 1)) % 6)) 3)))

-- with no look left there is no step
not_below : (c d : Climb) (r : ℕ) → (if nat_lt r 0 then c else d) ≡ d
not_below c d r =
    let below : nat_lt r 0 ≡ false = grind (arith, nat_tests) in
    ap (λ b. if b then c else d) below

none_left : (net : Network) (o : Option ℕ) → after_search (climb_within 2) net 2 6 0 o ≡ ended false net 2 0
none_left net None = refl
none_left net (Some r) =
    let place = (2 + r) % move_count net in
    not_below (stepped net 2 (r + 1) place (climb_within 2 (moved net place) place (0 - (r + 1)))) (ended false net 2 0) r

climb_is : own_climb (junction 16) ≡ stepped (junction 16) 0 3 2 (ended false (moved (junction 16) 2) 2 0)
unfolding own_climb climb move_count moved move
climb_is =
    ap (after_search (climb_within 3) (junction 16) 0 6 3) first_is
    ∙ ap (stepped (junction 16) 0 3 2)
    (none_left (moved (junction 16) 2) (first (moved (junction 16) 2) 2))

-- so the row is this
pub row_is_worked : (number : ℕ) → climbed_row number (junction 16) ≡ climbed_at number 13935199 1 false 3 8632377
unfolding moved move move_count
row_is_worked number =
    ap (row_by number (junction 16)) climb_is
    ∙ (λ j. climbed_at number (of_link (here j)) 1 false 3 (of_link (longer j)))

-- and the network at its end has the third move made
pub end_is_worked : end_of (plan.Plan (junction 16)) ≡ Some (junction 0)
unfolding moved move move_count
end_is_worked = ap (λ (c : Climb). Some c.net) climb_is
