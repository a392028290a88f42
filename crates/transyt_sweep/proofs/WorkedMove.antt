-- A move that lowers the index of the three junctions: the offset of the first, four steps on.
use Rattle.std.proofs.Common.{◌≡◌, ℕ, suc, ◌+◌, ◌%◌, [], ◌∷◌, Bool, true, false, Some, map, sum, ap, refl, ◌∙◌, lit<, lit≤}
use Rattle.transyt_delay.specs.declared.figures.Figures.{Figures}
use Rattle.transyt_profile.specs.Platoon.{smoothed}
use Rattle.transyt_profile.specs.StopLine.{sum_back, greatest}
use Rattle.transyt_net.specs.declared.edit.Edit.TheVariants.{Offset}
use Rattle.transyt_net.specs.Parts.{Network}
use Rattle.transyt_net.specs.Edits.{with_edit}
use Rattle.transyt_moves.specs.Moves.{move, move_count}
use Rattle.transyt_stage.specs.ThreeJunctions.{three_junctions}
use Rattle.transyt_sweep.specs.Sweeps.{seen, out_of, evaluated, index}
use Rattle.transyt_sweep.specs.Climb.{tried_at, is_below, lowers, least, first}
use Rattle.transyt_sweep.proofs.WorkedFigures.{figures_by_root, its_terms, index_comes_out}

-- the three junctions with that offset
abbrev moved_on : Network
moved_on = with_edit three_junctions (Offset 21 8)

-- its index, link by link
index_moves : index moved_on ≡ 554272112
unfolding sum_back greatest smoothed seen out_of evaluated
index_moves = λ j. sum (map (λ (f : Figures). f.index) (
    figures_by_root (its_terms 13599728 14441664 77515398 12922643 3 2) 47643865 (lit≤ tt) (lit< tt) j
    ∷ figures_by_root (its_terms 2424996 24734721 3772216 943054 5 7) 669509108 (lit≤ tt) (lit< tt) j
    ∷ figures_by_root (its_terms 15324984 10427776 72994296 9848440 2 11) 153046985 (lit≤ tt) (lit< tt) j
    ∷ figures_by_root (its_terms 8933138 16122216 54397313 8259046 4 1) 218143381 (lit≤ tt) (lit< tt) j
    ∷ figures_by_root (its_terms 14183665 13881940 75995112 13422987 6 5) 42237116 (lit≤ tt) (lit< tt) j
    ∷ figures_by_root (its_terms 21924990 6672220 46705404 6301526 1 9) 460449011 (lit≤ tt) (lit< tt) j
    ∷ figures_by_root (its_terms 2349969 7372220 15958680 1705649 7 3) 151600464 (lit≤ tt) (lit< tt) j
    ∷ figures_by_root (its_terms 6254281 15116670 8082255 2116221 9 4) 267279364 (lit≤ tt) (lit< tt) j
    ∷ []))

-- so a try of that move finds it
pub tried_first : tried_at three_junctions 0 ≡ Some 554272112
unfolding tried_at move
tried_first = ap Some index_moves

-- and the move lowers the index
pub lowers_first : lowers three_junctions 0 ≡ true
unfolding lowers
lowers_first = λ j. is_below (index_comes_out j) (tried_first j)

-- the second is the least that passes where it does and the first doesn't
second_passes : (test : ℕ → Bool) (n : ℕ) → test 0 ≡ false → test 1 ≡ true → least test (suc (suc n)) ≡ Some 1
second_passes test n fails passes = rw (fails, passes) refl

-- the last move is barred
barred_last : lowers three_junctions 71 ≡ false
unfolding move tried_at lowers
barred_last = refl

count_of_moves : move_count three_junctions ≡ 72
unfolding move_count
count_of_moves = refl

-- from the last place on it is the next that lowers the index, which is the first move
pub first_from_last : first three_junctions 71 ≡ Some 1
first_from_last =
    ap (λ n. least (λ r. lowers three_junctions ((71 + r) % n)) n) count_of_moves
    ∙ second_passes (λ r. lowers three_junctions ((71 + r) % 72)) 70 barred_last lowers_first
