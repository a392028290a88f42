-- The worked values, computed from the definitions.
use Rattle.std.proofs.Common.{◌≡◌, [], ◌∷◌, map, Some, None, refl, arith, lit<}
use Rattle.transyt_parts.specs.Made.{new_feed, new_rule}
use Rattle.transyt_net.specs.EditFaults.{edit_fault}
use Rattle.transyt_net.specs.Valid.{IsSound}
use Rattle.transyt_net.specs.Parts.{no_link}
use Rattle.transyt_net.specs.WorkedNets.{town}
use Rattle.transyt_net.specs.WorkedNets as net
use Rattle.transyt_net.specs.WorkedFaults as fault

-- the drawn network, each edit, the cycle and the shape
pub networks : map (λ r. r.0) net.networks ≡ map (λ r. r.1) net.networks
networks = refl

-- the edits that take back
pub inverses : map (λ r. r.0) net.inverses ≡ map (λ r. r.1) net.inverses
inverses = refl

-- the faults of edits
pub edits : map (λ r. edit_fault town r.0) fault.edits ≡ map (λ r. r.1) fault.edits
edits = refl

-- of new nodes and stages
pub nodes : map (λ r. r.0) fault.nodes ≡ map (λ r. r.1) fault.nodes
nodes = refl

-- of new links
pub links : map (λ r. r.0) fault.links ≡ map (λ r. r.1) fault.links
links = refl

-- of new feeds, rules and climb plans
pub others : map (λ r. r.0) fault.others ≡ map (λ r. r.1) fault.others
others = refl

-- units per step, places and counts
pub numbers : fault.numbers ≡ 598611 ∷ 138888888 ∷ 0 ∷ 1 ∷ 2 ∷ 0 ∷ 3 ∷ 2 ∷ 0 ∷ 7 ∷ 4 ∷ 17 ∷ 613 ∷ []
numbers = refl

-- places
pub places : fault.places ≡ Some 0 ∷ Some 2 ∷ None ∷ []
places = refl

-- feeds
pub feeds : fault.feeds ≡ (new_feed 9 77 61 ∷ new_feed 5 311 23 ∷ []) ∷ [] ∷ [] ∷ []
feeds = refl

-- rules
pub rules : fault.rules ≡ Some (new_rule 9 35) ∷ None ∷ None ∷ []
rules = refl

-- a link that runs in no stage keeps to no count of stages
pub stageless : IsSound fault.stageless → ⊥
stageless sound = let some = (sound.links 0 no_link (lit< tt)).stage_count.0 in absurd (omega (arith, some))
