-- The first fault of the nodes' plans.
use Rattle.std.proofs.Common.{◌≡◌, ℕ, List, [], ◌∷◌, All, Option, None, Some, refl, ap, ◌∙◌}
use Rattle.std.proofs.lemmas.List.Elements.{All-nil, All-cons, All-head, All-tail}
use Rattle.std.specs.Option.{option_or}
use Rattle.transyt_parts.specs.declared.stage_plan.PlanFault.{PlanFault}
use Rattle.transyt_parts.specs.Parts.{NodeValue}
use Rattle.transyt_parts.specs.Plan.{plan_fault, first_fault}

no_first : (a b : Option PlanFault) → option_or a b ≡ None → (a ≡ None) × (b ≡ None)
no_first None b h = (refl, h)
no_first (Some fault) b h = absurd (cc)

-- no fault of the nodes: none of them has one
pub all_planned : (steps : ℕ) (nodes : List NodeValue) → first_fault steps nodes ≡ None
    → All (λ n. plan_fault steps n.stages ≡ None) nodes
all_planned steps [] h = All-nil (λ n. plan_fault steps n.stages ≡ None)
all_planned steps (n ∷ ns) h =
    let both = no_first (plan_fault steps n.stages) (first_fault steps ns) h in
    All-cons (λ x. plan_fault steps x.stages ≡ None) n ns both.0 (all_planned steps ns both.1)

-- none of the nodes has a fault: there is no first
pub none_first : (steps : ℕ) (nodes : List NodeValue) → All (λ n. plan_fault steps n.stages ≡ None) nodes
    → first_fault steps nodes ≡ None
none_first steps [] all = refl
none_first steps (n ∷ ns) all =
    ap (λ o. option_or o (first_fault steps ns)) (All-head (λ x. plan_fault steps x.stages ≡ None) n ns all)
    ∙ none_first steps ns (All-tail (λ x. plan_fault steps x.stages ≡ None) n ns all)
