-- The inverse takes an edit back.
use Rattle.std.proofs.Common.{◌≡◌, ℕ, suc, zero, ◌-◌, List, [], ◌∷◌, Option, Some, refl, ap}
use Rattle.std.proofs.Common.{arith, unwrap_or}
use Rattle.std.proofs.lemmas.Bool.Decides.{nat_tests}
use Rattle.transyt_parts.specs.declared.node.Stage.{Stage}
use Rattle.transyt_net.specs.Edits.{Edit, Offset, Change, Entry, Part, Cruise, Saturation, Weight, with_edit, inverse}
use Rattle.transyt_net.specs.Edits.{set_offset, set_change, change_to}
use Rattle.transyt_net.specs.Edits.{feeder_of, node_in, link_in, no_feed, link_edit, link_back, the_link}
use Rattle.transyt_net.specs.Parts.{Network, NodeValue, LinkValue}
use Rattle.transyt_net.specs.Valid.{numbered, on_numbered, on_place, node_number, link_number}
use Rattle.transyt_parts.specs.Plan.{stage_of}
use Rattle.transyt_net.proofs.NamedLaws.{link_numbers_kept}

-- a change of a stage, and a second that puts back the first, leave all
put_back_at : (ss : List Stage) (p change : ℕ)
    → on_place (change_to (stage_of ss p).change) (on_place (change_to change) ss p) p ≡ ss
put_back_at [] p change = refl
put_back_at (s ∷ ss) zero change = refl
put_back_at (s ∷ ss) (suc p) change = ap (λ xs. s ∷ xs) (put_back_at ss p change)

-- a write, and a second that puts back what the first found, leave all
back_is : {A : Type 0} (key : A → ℕ) (found : Option A → A) (some : (x : A) → found (Some x) ≡ x) (f : A → A)
    (g : A → A → A) (same : (x : A) → key (f x) ≡ key x) (xs : List A) (k : ℕ)
    → ((x : A) → g x (f x) ≡ x) → on_numbered key (g (found (numbered key xs k))) (on_numbered key f xs k) k ≡ xs
back_is key found some f g same [] k back = refl
back_is key found some f g same (x ∷ xs) k back = grind (arith, nat_tests, same x, some x, back x, back_is key found some f g same xs k back)

-- the same for an edit of a link
link_undone : (net : Network) (e : Edit) (k : ℕ) → ((l : LinkValue) → link_edit (link_back e l) (link_edit e l) ≡ l)
    → record net {
      links = on_numbered link_number (link_edit (link_back e (the_link net k)))
          (on_numbered link_number (link_edit e) net.links k) k;
    } ≡ net
link_undone net e k back =
    ap (λ ls. record net { links = ls })
    (back_is link_number link_in (λ l. refl) (link_edit e) (λ old. link_edit (link_back e old)) (link_numbers_kept e)
    net.links k back)

-- the inverse of an edit takes it back
pub undone : (net : Network) (e : Edit) → with_edit (with_edit net e) (inverse net e) ≡ net
undone net (Offset node offset) =
    ap (λ ns. record net { nodes = ns })
    (back_is node_number node_in (λ n. refl) (set_offset offset) (λ old. set_offset old.offset) (λ n. refl) net.nodes node
    (λ n. refl))
undone net (Change node stage change) =
    let put : NodeValue → NodeValue → NodeValue = λ old. set_change stage (stage_of old.stages (stage - 1)).change in
    ap (λ ns. record net { nodes = ns })
    (back_is node_number node_in (λ n. refl) (set_change stage change) put (λ n. refl) net.nodes node
    (λ n. ap (λ ss. record n { stages = ss }) (put_back_at n.stages (stage - 1) change)))
undone net (Entry link flow) = link_undone net (Entry link flow) link (λ l. refl)
undone net (Part link feeder flow) =
    link_undone net (Part link feeder flow) link (λ l. ap (λ fs. record l { feeds = fs })
    (back_is feeder_of (λ o. unwrap_or o no_feed) (λ f. refl) (λ f. record f { flow = flow })
    (λ old f. record f { flow = old.flow }) (λ f. refl) l.feeds feeder (λ f. refl)))
undone net (Cruise link feeder seconds) =
    link_undone net (Cruise link feeder seconds) link (λ l. ap (λ fs. record l { feeds = fs })
    (back_is feeder_of (λ o. unwrap_or o no_feed) (λ f. refl) (λ f. record f { cruise = seconds })
    (λ old f. record f { cruise = old.cruise }) (λ f. refl) l.feeds feeder (λ f. refl)))
undone net (Saturation link flow) = link_undone net (Saturation link flow) link (λ l. refl)
undone net (Weight link weights) = link_undone net (Weight link weights) link (λ l. refl)
