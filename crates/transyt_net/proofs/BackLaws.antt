-- The inverse of an allowed edit is allowed.
use Rattle.std.proofs.Common.{◌≡◌, ℕ, ◌-◌, true, List, [], ◌∷◌, length, None, refl, sym, ap, subst, ◌∙◌, arith}
use Rattle.std.proofs.lemmas.Bool.Decides.{nat_tests}
use Rattle.transyt_parts.specs.declared.link.Feed.{Feed}
use Rattle.transyt_net.specs.Edits.{Edit, Offset, Change, Entry, Part, Cruise, Saturation, Weight, with_edit, inverse}
use Rattle.transyt_net.specs.Edits.{set_offset, set_change, change_to, edited, link_edit}
use Rattle.transyt_net.specs.Edits.{feeder_of, node_in, link_in, NamesLink}
use Rattle.transyt_net.specs.Parts.{Network, LinkValue}
use Rattle.transyt_net.specs.Valid.{on_numbered, IsValid, node_number, link_number, is_fed}
use Rattle.transyt_net.specs.EditFaults.{edit_fault}
use Rattle.transyt_net.specs.There.{Takes, LinkTakes, IsThere}
use Rattle.transyt_net.proofs.PlaceLaws.{length_kept_at}
use Rattle.transyt_net.proofs.UndoLaws.{undone}
use Rattle.transyt_net.proofs.NamedLaws.{link_numbers_kept}
use Rattle.transyt_net.proofs.FoundLaws.{some_numbered, numbered_after, still}
use Rattle.transyt_net.proofs.AllowedLaws.{there, allowed}

-- a feeder still feeds a link after a write of its feed
fed_still : (f : Feed → Feed) (same : (x : Feed) → (f x).feeder ≡ x.feeder) (feeds : List Feed) (feeder : ℕ)
    → is_fed feeds feeder ≡ true → is_fed (on_numbered feeder_of f feeds feeder) feeder ≡ true
fed_still f same [] feeder fed = fed
fed_still f same (x ∷ xs) feeder fed = grind (arith, nat_tests, same x, fed_still f same xs feeder)

-- the link that an edit names is there after it, and takes it again
link_still : (net : Network) (e : Edit) (k : ℕ) → ((l : LinkValue) → LinkTakes e l → LinkTakes e (link_edit e l))
    → Takes net e (NamesLink k) → Takes (edited net e (NamesLink k)) e (NamesLink k)
link_still net e k kept h =
    let at = some_numbered link_number net.links k h.0 in
    let after = numbered_after link_number (link_edit e) (link_numbers_kept e) net.links k at.0 at.1 in (
      still link_number (link_edit e) (link_numbers_kept e) net.links k k h.0,
      subst (λ o. LinkTakes e (link_in o)) (sym after) (kept at.0 (subst (λ o. LinkTakes e (link_in o)) at.1 h.1)),
    )

-- the part of the inverse is there after the edit
there_after : (net : Network) (e : Edit) → IsThere net e → IsThere (with_edit net e) (inverse net e)
there_after net (Offset node offset) h = (still node_number (set_offset offset) (λ n. refl) net.nodes node node h.0, tt)
there_after net (Change node stage change) h =
    let at = some_numbered node_number net.nodes node h.0 in
    let after = numbered_after node_number (set_change stage change) (λ m. refl) net.nodes node at.0 at.1 in
    let same = ap (λ o. length (node_in o).stages) after ∙ length_kept_at (change_to change) at.0.stages (stage - 1)
    ∙ ap (λ o. length (node_in o).stages) (sym at.1) in
    (still node_number (set_change stage change) (λ n. refl) net.nodes node node h.0, (h.1.0, omega (arith, h.1.1, same)))
there_after net (Entry link flow) h = link_still net (Entry link flow) link (λ l is. is) h
there_after net (Part link feeder flow) h =
    link_still net (Part link feeder flow) link (λ l. fed_still (λ f. record f { flow = flow }) (λ f. refl) l.feeds feeder) h
there_after net (Cruise link feeder seconds) h =
    link_still net (Cruise link feeder seconds) link (λ l. fed_still (λ f. record f { cruise = seconds }) (λ f. refl) l.feeds feeder) h
there_after net (Saturation link flow) h = link_still net (Saturation link flow) link (λ l is. is) h
there_after net (Weight link weights) h = link_still net (Weight link weights) link (λ l is. is) h

-- the inverse of an allowed edit is allowed after it
pub back_allowed : (net : Network) (e : Edit) → IsValid net → edit_fault net e ≡ None
    → edit_fault (with_edit net e) (inverse net e) ≡ None
back_allowed net e h none =
    allowed (with_edit net e) (inverse net e) (there_after net e (there net e none)) (subst IsValid (sym (undone net e)) h)
