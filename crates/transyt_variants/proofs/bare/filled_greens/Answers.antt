-- The least greens are short, and so is what is left of the cycle.
use Rattle.std.proofs.Common.{◌≤◌, ◌+◌, ◌-◌, ap, ◌∙◌, length, arith}
use Rattle.std.proofs.lemmas.List.{length-map}
use Rattle.std.proofs.lemmas.List.Elements.{All-set, All-weaker}
use Rattle.transyt_parts.specs.declared.node.Stage.{Stage}
use Rattle.transyt_variants.proofs.BareLaws.{leasts_short}
use Rattle.transyt_variants.proofs.bare.filled_greens.Goals as goal

pub overflow_add-index_mut : goal.overflow_add-index_mut
overflow_add-index_mut c =
    let h = c.args.here.now in
    let made = c.in_ok-greens.ensures in
    let small = leasts_short h.lengths.before h.stages.now c.in_ok-greens.greens.items h.lengths.before_most h.each made in
    let count = ap length made ∙ length-map h.stages.now (λ (s : Stage). s.least) in
    omega (
      arith,
      c.index_mut.ensures.value,
      small 0 c.index_mut.result.now (omega (arith, count, h.some)),
      h.lengths.after_most,
    )

pub returns-clause-small : goal.returns-clause-small
returns-clause-small c =
    let h = c.args.here.now in
    let es = c.in_ok-greens.greens.items in
    let made = c.in_ok-greens.ensures in
    let small = leasts_short h.lengths.before h.stages.now es h.lengths.before_most h.each made in
    let count = ap length made ∙ length-map h.stages.now (λ (s : Stage). s.least) in
    let first = small 0 c.index_mut.result.now (omega (arith, count, h.some)) in
    All-set (λ e. e ≤ 240) es 0 (c.index_mut.result.now + (h.lengths.after - c.least_length.result))
    (omega (arith, c.index_mut.ensures.value, first, h.lengths.after_most))
    (All-weaker (λ e. e ≤ 120) (λ e. e ≤ 240) (λ e low. omega (arith, low)) es small)
