-- One row is written, of values that are small.
use Rattle.std.proofs.Common.{◌≡◌, ◌<◌, ◌^◌, [], length, set, ap, ◌∙◌, arith}
use Rattle.std.proofs.lemmas.List.{length-replicate}
use Rattle.std.proofs.lemmas.List.Elements.{All-replicate}
use Rattle.transyt_profile.specs.Profile.{uniform}
use Rattle.transyt_kept.specs.Rows.{row, pair_place}
use Rattle.transyt_kept.specs.Marked.{KeptValue}
use Rattle.transyt_kept.proofs.WrittenLaws.{out_written}
use Rattle.transyt_kept.proofs.rows.Rows.fill_out.Goals as goal

pub invariant_of-self : goal.invariant_of-self
invariant_of-self c =
    let i = c.self.inside in
    let place = c.pair_place-place.result in
    let value = c.args.value in
    let there : place < length i.outs.now =
    omega (arith, c.pair_place-place.ensures.within, ap (λ (v : KeptValue). length v.now.outs) c.self.view_is) in
    rw (c.fill.ensures, c.self.invariant.rows.outs.steps place [] there)
    (out_written c.self.invariant place (uniform i.size.step_count value) (length-replicate i.size.step_count value)
    (All-replicate (λ v. v < 2 ^ 30) i.size.step_count value c.requires.small))

pub returns-clause-value : goal.returns-clause-value
returns-clause-value c =
    let i = c.self.inside in
    let now = c.args.self.now.now in
    let place = c.pair_place-place.result in
    let value = c.args.value in
    let there : place < length i.outs.now =
    omega (arith, c.pair_place-place.ensures.within, ap (λ (v : KeptValue). length v.now.outs) c.self.view_is) in
    let steps : length (row i.outs.now place) ≡ now.step_count =
    c.self.invariant.rows.outs.steps place [] there ∙ ap (λ (v : KeptValue). v.now.step_count) c.self.view_is in
    let outs : set i.outs.now place (uniform (length (row i.outs.now place)) value)
    ≡ set now.outs (pair_place now c.args.sweep c.args.link) (uniform now.step_count value) =
    (λ j. set (c.self.view_is j).now.outs (c.pair_place-place.ensures.value j) (uniform (steps j) value)) in
    rw c.fill.ensures (λ j. record (c.self.view_is j) { now = record (c.self.view_is j).now { outs = outs j } })
