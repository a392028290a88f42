-- The bare network is valid.
use Rattle.std.proofs.Common.{◌∙◌, ap}
use Rattle.transyt_net.specs.Valid.{node_numbers}
use Rattle.transyt_variants.proofs.BareLaws.{bare_from, bare_made, bare_numbers}
use Rattle.transyt_variants.proofs.bare.bare_net.Goals as goal

pub add_bare-requires : goal.add_bare-requires
add_bare-requires c = record {
  from = bare_from c.args.net.now c.args.time.seconds c.steps_of.result c.frame.result c.nodes.result.now c.frame.ensures.value
      c.steps_of.ensures c.nodes.ensures.value c.nodes.ensures.valid c.requires;
  none = c.new-nodes.ensures.items;
}

pub with_signals-made-requires-clause-numbers : goal.with_signals-made-requires-clause-numbers
with_signals-made-requires-clause-numbers c =
    bare_numbers c.frame.result.step_count c.steps_of.result c.nodes.result.now c.deref.result.now
    (c.deref.ensures.value ∙ c.in_default.ensures)
    ∙ ap node_numbers c.nodes.ensures.value

pub with_signals-made-requires-clause-valid : goal.with_signals-made-requires-clause-valid
with_signals-made-requires-clause-valid c =
    bare_made c.args.net.now c.args.time.seconds c.steps_of.result c.frame.result c.frame-2.result c.nodes.result.now
    c.deref.result.now c.frame.ensures.value c.frame-2.ensures.value c.steps_of.ensures c.nodes.ensures.value
    (c.deref.ensures.value ∙ c.in_default.ensures) c.nodes.ensures.valid c.requires
