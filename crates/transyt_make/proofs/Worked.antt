-- The worked towns, computed from the definitions.
use Rattle.std.proofs.Common.{◌≡◌, ◌/◌, [], ◌∷◌, map, refl}
use Rattle.transyt_make.specs.Draws.{after_draws}
use Rattle.transyt_make.specs.Made.{made, made_node, made_link}
use Rattle.transyt_make.specs.WorkedTowns.{worked_draws, town_of_one, nodes_of_ten, links_of_ten, links_of_sixteen}

-- the first six draws
pub draws_of_one : map (λ k. after_draws 1 k / 65536) (1 ∷ 2 ∷ 3 ∷ 4 ∷ 5 ∷ 6 ∷ []) ≡ worked_draws
unfolding after_draws
draws_of_one = refl

-- the whole town of one node
pub one_is : made 1 1 ≡ town_of_one
unfolding made after_draws
one_is = refl

-- nodes of the town of ten
pub nodes_are : map (made_node 999999999) (7 ∷ 9 ∷ []) ≡ nodes_of_ten
unfolding after_draws
nodes_are = refl

-- links of the town of ten
pub links_are : map (made_link 999999999 10) (1 ∷ 7 ∷ 29 ∷ 32 ∷ 36 ∷ 38 ∷ []) ≡ links_of_ten
unfolding after_draws
links_are = refl

-- links of the town of sixteen
pub far_links_are : map (made_link 999999999 16) (31 ∷ 62 ∷ []) ≡ links_of_sixteen
unfolding after_draws
far_links_are = refl
