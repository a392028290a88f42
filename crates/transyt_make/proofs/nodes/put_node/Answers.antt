-- The draft ends in the new node, which takes its two stages.
use Rattle.std.proofs.Common.{◌+◌, ap, ◌∙◌, arith}
use Rattle.std.proofs.lemmas.Result.{on_ok_weaker}
use Rattle.transyt_parts.specs.Made.{new_node, new_stage, add_stage}
use Rattle.transyt_net.specs.Parts.{Network}
use Rattle.transyt_make.specs.declared.works.Works.{Works}
use Rattle.transyt_make.proofs.NodeLaws.{next_free, stage_free, first_stage, second_stage, node_done}
use Rattle.transyt_make.proofs.nodes.put_node.Goals as goal

-- the node has no fault
pub grant_node-requires : goal.grant_node-requires
grant_node-requires c =
    next_free c.args.junction.town c.args.works.now c.args.junction.place _ c.requires c.args.junction.inside
    c.draw-offset.ensures.below

-- nor has its first stage
pub grant_stage-requires-clause-free : goal.grant_stage-requires-clause-free
grant_stage-requires-clause-free c =
    let before = c.args.works.now.draft in
    let made = c.in_ok-grant_node.ensures in
    stage_free c.grant_node.new.draft before.nodes (new_node (c.args.junction.place + 1) c.draw-offset.result) 0
    (ap (λ (d : Network). d.frame.step_count) made
    ∙ ap (λ (w : Works). w.draft.frame.step_count) c.requires)
    (ap (λ (d : Network). d.nodes) made) (omega arith) (omega arith)

-- nor its second
pub grant_stage-requires-2-clause-free : goal.grant_stage-requires-2-clause-free
grant_stage-requires-2-clause-free c =
    let before = c.args.works.now.draft in
    let n = add_stage (new_stage 0 3 4) (new_node (c.args.junction.place + 1) c.draw-offset.result) in
    let made = first_stage before _ _ c.args.junction.place c.draw-offset.result c.in_ok-grant_node.ensures
    c.in_ok-grant_stage.ensures in
    stage_free c.grant_stage.new.draft before.nodes n (15 + c.draw-change.result)
    (ap (λ (d : Network). d.frame.step_count) made
    ∙ ap (λ (w : Works). w.draft.frame.step_count) c.requires)
    (ap (λ (d : Network). d.nodes) made) (omega arith) (omega (arith, c.draw-change.ensures.below))

-- with both it is the next node
pub returns : goal.returns
returns c =
    let w = c.args.works.now in
    let made = first_stage w.draft _ _ c.args.junction.place c.draw-offset.result c.in_ok-grant_node.ensures
    c.in_ok-grant_stage.ensures in
    on_ok_weaker c.grant_stage-2.result
    (λ stage. node_done c.args.junction.town w c.args.junction.place _ _ _ _ _ c.requires c.draw-offset.ensures.value
    c.draw-offset.ensures.taken c.draw-change.ensures.value c.draw-change.ensures.taken
    (second_stage w.draft _ _ c.args.junction.place c.draw-offset.result (15 + c.draw-change.result) made stage))
    c.grant_stage-2.ensures
