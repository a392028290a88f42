-- Where a link is found.
use Rattle.std.proofs.Common.{◌≡◌, ℕ, ◌<◌, length, ap, ◌∙◌, arith}
use Rattle.std.proofs.lemmas.List.{length-map, get_or-map}
use Rattle.transyt_parts.specs.Valid.{link_number}
use Rattle.transyt_net.specs.Parts.{Network, link_of, no_link}
use Rattle.transyt_net.specs.Valid.{IsValid, link_numbers, link_place, found_or_first}
use Rattle.transyt_net.proofs.OrderLaws.{place_alone}

-- in a valid network the place of a number is where a link of that number stands
pub place_of_number : (net : Network) (k p : ℕ) → IsValid net → p < length net.links → (link_of net p).number ≡ k
    → link_place net k ≡ p
place_of_number net k p valid inside here =
    ap found_or_first (place_alone (link_numbers net.links) k p valid.sound.links_differ
    (omega (arith, inside, length-map net.links link_number)) (get_or-map link_number net.links p no_link 0 inside ∙ here))
