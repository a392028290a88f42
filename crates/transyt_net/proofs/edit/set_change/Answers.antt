-- The stage is written at its place.
use Rattle.std.proofs.Common.{rules, ◌≡◌, ◌<◌, ◌-◌, ℕ, List, set, ap, sym, ◌∙◌, length}
use Rattle.transyt_parts.specs.declared.node.Stage.{Stage}
use Rattle.transyt_parts.specs.Parts.{NodeValue}
use Rattle.transyt_net.specs.Valid.{on_place}
use Rattle.transyt_net.specs.Edits.{set_change, change_to}
use Rattle.transyt_net.proofs.PlaceLaws.{on_place_here}
use Rattle.transyt_net.proofs.edit.set_change.Goals as goal

-- the change of the stage is set
pub returns-clause-value : goal.returns-clause-value
returns-clause-value c =
    let items : List Stage = c.node.inside.stages.items in
    let p : ℕ = c.args.stage - 1 in
    let old : Stage = c.index_mut.result.now in
    let inside : p < length items = search rules in
    let made : set items p (change_to c.args.change old) ≡ on_place (change_to c.args.change) items p =
    ap (λ (s : Stage). set items p (change_to c.args.change s)) c.index_mut.ensures.value
    ∙ sym (on_place_here (change_to c.args.change) items p old inside) in
    ap (λ (ss : List Stage). record { number = c.node.inside.number; offset = c.node.inside.offset; stages = ss }) made
    ∙ ap (λ (n : NodeValue). set_change c.args.stage c.args.change n) c.node.view_is
