-- GO without lags.
use Rattle.std.proofs.Common.{◌^◌, sym, ap, ◌∙◌, arith, map, replicate}
use Rattle.std.specs.List.{range_with_len}
use Rattle.transyt_net.specs.Parts.{LinkValue, perstep}
use Rattle.transyt_stage.specs.Green.{passed_at, shown_of}
use Rattle.transyt_stage.proofs.ShownLaws.{passed_without_lags, passed_below}
use Rattle.transyt_stage.proofs.green.fill_go.Goals as goal

pub per_step-room-requires : goal.per_step-room-requires
per_step-room-requires c =
    omega (arith, ap (λ (l : LinkValue). l.saturation) c.found.view_is, c.link-found.ensures.kept.saturation)

-- at each step at which the link is shown, the GO of a step of green
pub returns-clause-value : goal.returns-clause-value
returns-clause-value c =
    let signals = c.signals.result in
    let link = c.found.view_is ∙ c.link-found.ensures.value in
    let room = c.per_step-room.ensures.value ∙ ap (λ (l : LinkValue). perstep c.args.net.now.frame l.saturation) link in
    let own =
    passed_without_lags signals.step_count signals.node.now signals.stages.now c.per_step-room.result c.fill.new.self
    c.show_stages.new.out
    (c.fill.ensures.after (λ y same. same) ∙ ap (λ n. replicate n 0) (c.requires.steps ∙ sym c.signals.ensures.steps))
    (c.show_stages.ensures.steps ∙ c.fill.ensures.len ∙ c.requires.steps ∙ sym c.signals.ensures.steps)
    c.show_stages.ensures.shown c.found.inside.start_lag c.found.inside.end_lag (omega arith) (omega arith) in
    own
    ∙ (λ i. map (passed_at (shown_of (c.signals.ensures.steps i) (c.signals.ensures.node i) (c.signals.ensures.stages i))
    (link i).start_lag (link i).end_lag (room i)) (range_with_len 0 (c.signals.ensures.steps i)))

-- and that is small
pub returns-clause-small : goal.returns-clause-small
returns-clause-small c =
    let signals = c.signals.result in
    passed_below signals.step_count signals.node.now signals.stages.now c.per_step-room.result c.fill.new.self
    c.show_stages.new.out
    (c.fill.ensures.after (λ y same. same) ∙ ap (λ n. replicate n 0) (c.requires.steps ∙ sym c.signals.ensures.steps))
    (c.show_stages.ensures.steps ∙ c.fill.ensures.len ∙ c.requires.steps ∙ sym c.signals.ensures.steps)
    c.show_stages.ensures.shown (2 ^ 30) c.per_step-room.ensures.small
