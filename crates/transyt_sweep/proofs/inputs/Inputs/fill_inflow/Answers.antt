-- The entry flow, the arrivals of the feeds, and both turns folded to one.
use Rattle.std.proofs.Common.{◌≡◌, ℕ, ◌^◌, ◌<◌, All, length, arith, ap, ◌∙◌}
use Rattle.std.specs.Vec.{with_items}
use Rattle.std.proofs.lemmas.List.{with_items_is}
use Rattle.transyt_profile.specs.Profile.{folded, uniform}
use Rattle.transyt_parts.specs.Parts.{LinkValue}
use Rattle.transyt_net.specs.Parts.{Network, link_of, perstep}
use Rattle.transyt_sweep.specs.Inflow.{read_by, with_feeds}
use Rattle.transyt_sweep.proofs.InflowLaws.{all_small, started_small}
use Rattle.transyt_sweep.proofs.inputs.Inputs.fill_inflow.Goals as goal

-- the feeds have room
pub add_all-requires-clause-turns : goal.add_all-requires-clause-turns
add_all-requires-clause-turns c = record {
  len = omega arith;
  small = λ j d h. omega (
    arith,
    c.feeds_of.ensures.few,
    started_small c.args.self.now.step_count c.per_step-entry.result c.start_turns.new.turns c.per_step-entry.ensures.small
        c.start_turns.ensures j d h,
  );
}

-- all values of the two turns, folded, are small
pub fold_into-requires-clause-fit : goal.fold_into-requires-clause-fit
fold_into-requires-clause-fit c =
    all_small c.args.self.now.step_count (length c.deref_mut.result.now) c.per_step-entry.result
    (length c.feeds_of.result.now) c.start_turns.new.turns c.add_all.new.turns c.per_step-entry.ensures.small
    c.start_turns.ensures c.feeds_of.ensures.few c.add_all.ensures.grows
    (ap length c.deref_mut.ensures.value ∙ c.requires.steps)

pub invariant_of-rows : goal.invariant_of-rows
invariant_of-rows c =
    let was = c.args.rows.now in
    let is = with_items_is was.arrivals c.fold_into.new.out (c.fold_into.auto.out ∙ c.deref_mut.ensures.len) in
    let same = ap length is ∙ c.fold_into.auto.out ∙ ap length c.deref_mut.ensures.value in
    let small : All (λ v. v < 2 ^ 48) (with_items was.arrivals c.fold_into.new.out).items =
    rw (is ∙ c.fold_into.ensures)
    (all_small c.args.self.now.step_count (length c.deref_mut.result.now) c.per_step-entry.result
    (length c.feeds_of.result.now) c.start_turns.new.turns c.add_all.new.turns
    c.per_step-entry.ensures.small c.start_turns.ensures c.feeds_of.ensures.few c.add_all.ensures.grows
    (ap length c.deref_mut.ensures.value ∙ c.requires.steps)) in
    grind (arith, same)

-- all arrivals
pub returns-clause-arrivals : goal.returns-clause-arrivals
returns-clause-arrivals c =
    let n : ℕ = c.args.self.now.step_count in
    let net : Network = c.args.self.now.net.now in
    let link : LinkValue = link_of net c.args.self.now.link in
    let entry = ap (λ (l : LinkValue). perstep net.frame l.entry) (c.at.view_is ∙ c.link-at.ensures.value) in
    let start : folded n c.start_turns.new.turns ≡ uniform net.frame.step_count (perstep net.frame link.entry) =
    c.start_turns.ensures
    ∙ (λ j. uniform (c.args.self.now.steps j) ((c.per_step-entry.ensures.value ∙ entry) j)) in
    with_items_is c.args.rows.now.arrivals c.fold_into.new.out (c.fold_into.auto.out ∙ c.deref_mut.ensures.len)
    ∙ c.fold_into.ensures
    ∙ ap (λ m. folded m c.add_all.new.turns) (ap length c.deref_mut.ensures.value ∙ c.requires.steps)
    ∙ c.add_all.ensures.value
    ∙ (λ j. with_feeds net (read_by c.args.self.now) (start j) (c.feeds_of.ensures.value j))
