-- The part that an edit names, whether the network has it, and where it stands.
use Rattle.std.specs.Prelude.{⊤, ℕ, ◌≤◌, length, IsTrue, ◌≡◌, ◌<◌, true, false, nat_eq, List, slice_index_or}
use Rattle.transyt_net.specs.Edits.{Edit, Change, Part, Cruise, Named, NamesNode, NamesLink, named, the_node, the_link}
use Rattle.transyt_net.specs.Parts.{Network, NodeValue, LinkValue}
use Rattle.transyt_net.specs.Valid.{is_among, node_numbers, link_numbers, is_fed}

-- there is a link of this number
abbrev pub HasLink : Network → ℕ → Type 0
HasLink net link = IsTrue (is_among (link_numbers net.links) link)

-- the node has the stage that an edit of it names
abbrev pub NodeTakes : Edit → NodeValue → Type 0
NodeTakes (Change node stage change) n = (1 ≤ stage) × (stage ≤ length n.stages)
NodeTakes e n = ⊤

-- the link has the feed that an edit of it names
abbrev pub LinkTakes : Edit → LinkValue → Type 0
LinkTakes (Part link feeder flow) l = IsTrue (is_fed l.feeds feeder)
LinkTakes (Cruise link feeder seconds) l = IsTrue (is_fed l.feeds feeder)
LinkTakes e l = ⊤

-- the network has this part, which takes the edit
abbrev pub Takes : Network → Edit → Named → Type 0
Takes net e (NamesNode node) = IsTrue (is_among (node_numbers net.nodes) node) × NodeTakes e (the_node net node)
Takes net e (NamesLink link) = HasLink net link × LinkTakes e (the_link net link)

-- the part that an edit names is there
abbrev pub IsThere : Network → Edit → Type 0
IsThere net e = Takes net e (named e)

-- p is the first place whose number is k
pub record IsPlace {A : Type 0} (key : A → ℕ) (xs : List A) (k p : ℕ) : Type 0 where
  pub inside : p < length xs
  pub here : (d : A) → nat_eq k (key (slice_index_or xs p d)) ≡ true
  pub first : (d : A) (i : ℕ) → i < p → nat_eq k (key (slice_index_or xs i d)) ≡ false
