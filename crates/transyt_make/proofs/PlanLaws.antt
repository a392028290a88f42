-- The plans of the nodes have no fault.
use Rattle.std.proofs.Common.{◌≡◌, ℕ, suc, zero, ◌+◌, ◌-◌, ◌*◌, ◌/◌, ◌%◌, ◌<◌, ◌≤◌, ◌==◌, true, [], ◌∷◌}
use Rattle.std.proofs.Common.{map, refl, ap, ◌∙◌}
use Rattle.std.proofs.Common.{arith, nat_le, sum, None}
use Rattle.std.proofs.lemmas.List.{append-nil}
use Rattle.std.proofs.lemmas.Bool.Decides.{nat_tests}
use Rattle.std.specs.List.{range_with_len}
use Rattle.transyt_cycle.specs.Cycle.{minus_mod}
use Rattle.transyt_parts.specs.Plan.{plan_fault, first_fault}
use Rattle.transyt_parts.specs.Made.{new_stage}
use Rattle.transyt_net.specs.Parts.{Network}
use Rattle.transyt_net.specs.Faults.{with_plan}
use Rattle.transyt_make.specs.Draws.{draw, after_draws}
use Rattle.transyt_make.specs.Made.{made_node, made_link, made_plan, with_feeds, made}
use Rattle.transyt_make.specs.declared.town.Town.{Town}
use Rattle.transyt_make.specs.declared.works.Works.{Works}
use Rattle.transyt_make.specs.Works.{node_works, link_works, feed_works}

-- the first stage is as long as the second one's change says, and the second takes the rest
first_long : (c : ℕ) → c < 50 → minus_mod 50 c 0 ≡ c
first_long c small = grind arith

rest_long : (c : ℕ) → 0 < c → c < 50 → minus_mod 50 0 c ≡ 50 - c
rest_long c some small = grind arith

-- a plan of two such stages has no fault
plan_free : (c : ℕ) → 15 ≤ c → c ≤ 35 → plan_fault 50 (new_stage 0 3 4 ∷ new_stage c 3 4 ∷ []) ≡ None
plan_free c low high =
    let one = first_long c (omega (arith, high)) in
    let two = rest_long c (omega (arith, low)) (omega (arith, high)) in
    let whole : (sum (c ∷ (50 - c) ∷ []) == 50) ≡ true = grind (arith, nat_tests) in
    let first : nat_le 7 c ≡ true = grind (arith, nat_tests) in
    let second : nat_le 7 (50 - c) ≡ true = grind (arith, nat_tests) in
    rw (one, two, whole, first, second)

-- the second stage of a node begins at a step of 15 to 35
drawn_low : (x : ℕ) → x / 65536 % 21 ≤ 20
drawn_low x = grind arith

-- no node has a fault in its plan
pub no_fault : (seed a n : ℕ) → first_fault 50 (map (made_node seed) (range_with_len a n)) ≡ None
no_fault seed a zero = refl
no_fault seed a (suc n) =
    let second = draw seed (2 * a + 1) 21 in
    let small : second ≤ 20 = drawn_low (after_draws seed (2 * a + 1 + 1)) in
    rw (plan_free (15 + second) (omega arith) (omega (arith, small))) (no_fault seed (a + 1) n)

-- with its climb plan the network is the one that is made
pub planned : (seed n : ℕ) (d e : Network) → d ≡ with_feeds seed n (4 * n) → e ≡ with_plan d made_plan
    → e ≡ made seed n
unfolding made
planned seed n d e fed plan =
    let none : 4 * n - 4 * n ≡ 0 = omega arith in
    let links = map (made_link seed n) (range_with_len 0 (4 * n)) in
    rw (plan, fed, none, append-nil links)

-- so the town that has its nodes, its links and their feeds is made
pub filled : (town : Town) (a b d : Works) (e : Network) → a ≡ node_works town town.nodes
    → b ≡ link_works a.town (4 * a.town.nodes) → d ≡ feed_works b.town (4 * b.town.nodes)
    → e ≡ made d.town.seed d.town.nodes → e ≡ made town.seed town.nodes
filled town a b d e nodes links feeds all =
    let town_of : Works → Town = λ w. w.town in
    let same : d.town ≡ town = ap town_of feeds ∙ ap town_of links ∙ ap town_of nodes in
    all ∙ ap (λ (t : Town). made t.seed t.nodes) same

-- so no plan of the network that is made has a fault
pub made_planned : (seed n : ℕ) (d : Network) → d ≡ made seed n → first_fault d.frame.step_count d.nodes ≡ None
unfolding made
made_planned seed n d same =
    rw same (no_fault seed 0 n)
