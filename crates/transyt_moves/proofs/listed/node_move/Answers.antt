-- A place from 2 on is a stage's: half of it is the stage, its last bit the way.
use Rattle.std.proofs.Common.{◌≡◌, ◌+◌, ◌-◌, ◌/◌, ◌%◌, ◌<◌, length, get_or}
use Rattle.std.proofs.Common.{List, refl, sym, ap, ◌∙◌, arith, ◌==◌}
use Rattle.transyt_parts.specs.Parts.{NodeValue}
use Rattle.transyt_parts.specs.declared.node.Stage.{Stage}
use Rattle.transyt_parts.specs.Plan.{stage_of, no_stage}
use Rattle.std.proofs.lemmas.List.{get_or_default}
use Rattle.transyt_net.specs.declared.edit.Edit.TheVariants.{Change}
use Rattle.transyt_moves.specs.Moves.{shifted}
use Rattle.transyt_moves.proofs.MoveLaws.{stage_move}
use Rattle.transyt_moves.proofs.listed.node_move.Goals as goal

-- the stage is numbered from 1
pub returns : goal.returns
returns c =
    let i = c.args.place / 2 - 1 in
    let inside : i < length c.args.node.now.stages = omega (arith, c.requires.place, c.if-place-lt2.false) in
    let number : c.args.place / 2 ≡ i + 1 = omega (arith, c.if-place-lt2.false) in
    let stages = ap (λ (n : NodeValue). n.stages) c.node.view_is in
    let stage : c.index.result.now ≡ stage_of c.args.node.now.stages i =
    c.index.ensures ∙ ap (λ (l : List Stage). get_or l i c.index.result.now) stages
    ∙ get_or_default _ _ _ no_stage inside in
    let name = ap (λ (n : NodeValue). n.number) c.node.view_is in
    (λ j. Change (name j) (number j) ((c.shifted-2.ensures
    ∙ ap (λ (s : Stage). shifted (c.args.place % 2 == 1) c.args.moves.now.nodes.step_count s.change c.args.moves.now.size) stage) j))
    ∙ sym (stage_move c.args.moves.now.nodes.step_count c.args.moves.now.size _ i _ c.args.place inside refl number)
