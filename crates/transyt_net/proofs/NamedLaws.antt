-- The part that an allowed edit names takes it, and the edit is a write to that part.
use Rattle.std.proofs.Common.{◌≡◌, ℕ, List, Some, None, refl, sym, ap, subst, ◌∙◌}
use Rattle.transyt_net.specs.Edits.{Edit, Offset, Change, Entry, Part, Cruise, Saturation, Weight, with_edit, inverse}
use Rattle.transyt_net.specs.Edits.{node_in, link_in, Named, named, NamesNode, NamesLink, edited, back_to, node_edit}
use Rattle.transyt_net.specs.Edits.{link_edit, node_back, link_back}
use Rattle.transyt_net.specs.Parts.{Network, NodeValue, LinkValue}
use Rattle.transyt_net.specs.Valid.{numbered, on_numbered, node_number, link_number}
use Rattle.transyt_net.specs.EditFaults.{edit_fault}
use Rattle.transyt_net.specs.There.{Takes}
use Rattle.transyt_net.proofs.AllowedLaws.{there}
use Rattle.transyt_net.proofs.TotalLaws.{links_put}

-- a network takes an edit of this part that is allowed
pub takes : (net now : Network) (e : Edit) (part : Named) → net ≡ now → named e ≡ part → edit_fault now e ≡ None
    → Takes net e part
takes net now e part same names none =
    subst (Takes net e) names (there net e (ap (λ (n : Network). edit_fault n e) same ∙ none))

-- an edit is what it does to the node that it names
pub node_done : (net now : Network) (e : Edit) (k : ℕ) (nodes : List NodeValue) → net ≡ now → named e ≡ NamesNode k
    → nodes ≡ on_numbered node_number (node_edit e) net.nodes k → record net { nodes = nodes } ≡ with_edit now e
node_done net now e k nodes same names put =
    ap (λ (xs : List NodeValue). record net { nodes = xs }) put ∙ ap (edited net e) (sym names)
    ∙ ap (λ (n : Network). with_edit n e) same

-- or to the link
pub link_done : (net now : Network) (e : Edit) (k : ℕ) (links : List LinkValue) → net ≡ now → named e ≡ NamesLink k
    → links ≡ on_numbered link_number (link_edit e) net.links k → record net { links = links } ≡ with_edit now e
link_done net now e k links same names put = links_put net now links k (link_edit e) same put ∙ ap (edited now e) (sym names)

-- the inverse has the numbers of the node that is named
pub node_back_done : (net now : Network) (e : Edit) (k : ℕ) (n : NodeValue) → net ≡ now → named e ≡ NamesNode k
    → numbered node_number net.nodes k ≡ Some n → node_back e n ≡ inverse now e
node_back_done net now e k n same names at =
    ap (λ o. node_back e (node_in o)) (sym at) ∙ ap (back_to net e) (sym names) ∙ ap (λ (m : Network). inverse m e) same

-- or of the link
pub link_back_done : (net now : Network) (e : Edit) (k : ℕ) (l : LinkValue) → net ≡ now → named e ≡ NamesLink k
    → numbered link_number net.links k ≡ Some l → link_back e l ≡ inverse now e
link_back_done net now e k l same names at =
    ap (λ o. link_back e (link_in o)) (sym at) ∙ ap (back_to net e) (sym names) ∙ ap (λ (m : Network). inverse m e) same

-- an edit keeps the numbers
pub node_numbers_kept : (e : Edit) (n : NodeValue) → (node_edit e n).number ≡ n.number
node_numbers_kept (Offset node offset) n = refl
node_numbers_kept (Change node stage change) n = refl
node_numbers_kept e n = refl

-- an edit keeps a link's number
pub link_numbers_kept : (e : Edit) (l : LinkValue) → (link_edit e l).number ≡ l.number
link_numbers_kept (Entry link flow) l = refl
link_numbers_kept (Part link feeder flow) l = refl
link_numbers_kept (Cruise link feeder seconds) l = refl
link_numbers_kept (Saturation link flow) l = refl
link_numbers_kept (Weight link weights) l = refl
link_numbers_kept e l = refl
