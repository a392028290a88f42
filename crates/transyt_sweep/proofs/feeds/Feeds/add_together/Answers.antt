-- The arrivals by the slots' factors are those of the feeds.
use Rattle.std.proofs.Common.{◌≡◌, ℕ, ◌<◌, List, All, ap, length, sym, subst, ◌∙◌, arith, rules}
use Rattle.transyt_profile.specs.Profile.{folded}
use Rattle.transyt_net.specs.Parts.{Network}
use Rattle.transyt_sweep.specs.Inflow.{HaveRoom, IsGroup, read_by, with_carried, with_feeds}
use Rattle.transyt_sweep.proofs.SendingLaws.{with_served}
use Rattle.transyt_sweep.proofs.feeds.Feeds.add_together.Goals as goal

pub invariant_of-sendable : goal.invariant_of-sendable
invariant_of-sendable c = record {
  group = subst IsGroup (sym c.renew.ensures.served.same) c.requires.group;
  are = λ i d below.
      let one = c.renew.ensures.served.each i d (omega (arith, below, c.renew.ensures.served.same)) in record {
        are = rw c.args.self.now.inputs.now.steps one.are;
        feeder = omega (arith, one.below, c.args.self.now.inputs.now.rows_links);
      };
}

pub send-requires-clause-turns : goal.send-requires-clause-turns
send-requires-clause-turns c =
    subst (λ k. HaveRoom c.args.self.now.inputs.now.step_count k c.args.turns.now) (sym c.renew.ensures.served.same)
    c.requires.turns

-- side by side
pub returns-then-send-clause-value : goal.returns-then-send-clause-value
returns-then-send-clause-value c =
    let n : ℕ = c.args.self.now.inputs.now.step_count in
    let read : ℕ → List ℕ = read_by c.args.self.now.inputs.now in
    let slots = c.renew.new.slots in
    let sum : folded n c.send.new.turns ≡ with_carried read (folded n c.args.turns.now) slots =
    c.if-send.ensures.value (search rules) in
    sum
    ∙ with_served c.args.self.now.inputs.now.net.now read (folded n c.args.turns.now) c.args.self.now.list.now slots
    c.renew.ensures.served

pub returns-then-send-clause-grows : goal.returns-then-send-clause-grows
returns-then-send-clause-grows c = λ limit within j d h.
    omega (arith, c.requires.group.some, c.if-send.ensures.grows (search rules) limit within j d h)

-- one after the other
pub returns-clause-grows : goal.returns-clause-grows
returns-clause-grows c = λ limit within.
    let n : ℕ = c.args.self.now.inputs.now.step_count in
    let stays : c.send.new.turns ≡ c.args.turns.now = c.if-send.ensures.stays (search rules) in
    c.add_each.ensures.grows limit (subst (λ (t : List ℕ). All (λ v. v < limit) (folded n t)) (sym stays) within)

pub add_each-requires-clause-turns : goal.add_each-requires-clause-turns
add_each-requires-clause-turns c =
    subst (HaveRoom c.args.self.now.inputs.now.step_count (length c.args.self.now.list.now))
    (sym (c.if-send.ensures.stays (search rules))) c.requires.turns

pub returns-clause-value : goal.returns-clause-value
returns-clause-value c =
    let n : ℕ = c.args.self.now.inputs.now.step_count in
    let net : Network = c.args.self.now.inputs.now.net.now in
    let stays : c.send.new.turns ≡ c.args.turns.now = c.if-send.ensures.stays (search rules) in
    c.add_each.ensures.value
    ∙ ap (λ (t : List ℕ). with_feeds net (read_by c.args.self.now.inputs.now) (folded n t) c.args.self.now.list.now) stays
