-- Links that were written, and their total flows, which are kept beside them.
use Rattle.std.proofs.Common.{◌≡◌, ℕ, ◌<◌, ◌≤◌, List, length, map, get_or, set, sym, ap, ◌∙◌, subst, arith, All}
use Rattle.std.proofs.lemmas.List.{map-set, get_or-map, get_or-set_same, length-set}
use Rattle.std.proofs.lemmas.List.Elements.{All-get_or}
use Rattle.std.proofs.lemmas.List.Sums.{sum_by-le}
use Rattle.transyt_parts.specs.declared.link.Feed.{Feed}
use Rattle.transyt_net.specs.Parts.{Network, link_of, no_link, LinkValue}
use Rattle.transyt_parts.specs.Parts.{total_flow}
use Rattle.transyt_net.specs.Valid.{link_numbers, on_numbered, IsSound, IsLink, IsValid, link_number}

-- the total flow of a link, by the limits of its flows
pub total_small : (net : Network) (p : ℕ) → IsValid net → p < length net.links → total_flow (link_of net p) ≤ 89991
total_small net p valid inside =
    let is = All-get_or (IsLink net.frame.step_count net.nodes (link_numbers net.links)) net.links p no_link inside
    valid.sound.links in
    let each : All (λ (f : Feed). f.flow ≤ 9999) (link_of net p).feeds = λ k d within. (is.feeds k d within).flow in
    omega (arith, sum_by-le (λ (f : Feed). f.flow) 9999 (link_of net p).feeds each, is.entry, is.feed_count)

-- the total that stands at a place
pub total_at : (totals : List ℕ) (links : List LinkValue) (p t : ℕ) (d : LinkValue) → totals ≡ map total_flow links
    → p < length links → t ≡ get_or totals p t → t ≡ total_flow (get_or links p d)
total_at totals links p t d kept inside read =
    read ∙ ap (λ ts. get_or ts p t) kept ∙ get_or-map total_flow links p d t inside

-- the totals after a link and its total were written
pub total_set : (totals : List ℕ) (links : List LinkValue) (p t : ℕ) (new : LinkValue) → totals ≡ map total_flow links
    → t ≡ total_flow new → set totals p t ≡ map total_flow (set links p new)
total_set totals links p t new kept total =
    (λ j. set (kept j) p (total j)) ∙ sym (map-set total_flow links p new)

-- a link that was written keeps to the limits where the network is sound then
pub link_set : (net : Network) (p : ℕ) (new : LinkValue) → IsSound (record net { links = set net.links p new })
    → p < length net.links
    → IsLink net.frame.step_count net.nodes (link_numbers (set net.links p new)) new
link_set net p new sound inside =
    let links : List LinkValue = set net.links p new in
    let there : p < length links = omega (arith, length-set net.links p new) in
    subst (IsLink net.frame.step_count net.nodes (link_numbers links)) (get_or-set_same net.links p new new inside)
    (All-get_or (IsLink net.frame.step_count net.nodes (link_numbers links)) links p new there sound.links)

-- the network with these links is the one with the link of a number written
pub links_put : (net now : Network) (links : List LinkValue) (k : ℕ) (f : LinkValue → LinkValue) → net ≡ now
    → links ≡ on_numbered link_number f net.links k
    → record net { links = links } ≡ record now { links = on_numbered link_number f now.links k }
links_put net now links k f same put =
    ap (λ (ls : List LinkValue). record net { links = ls }) put
    ∙ ap (λ (n : Network). record n { links = on_numbered link_number f n.links k }) same
