-- The network of a cycle time, or none, by cases.
use Rattle.std.proofs.Common.{◌≡◌, ◌∙◌, ◌||◌, not, true, false, None, Some, ap, sym}
use Rattle.transyt_net.specs.Parts.{Network}
use Rattle.transyt_variants.specs.declared.cycles.AtCycle.TheVariants.{Plan}
use Rattle.transyt_variants.specs.Cycles.{is_whole, may_have, steps_of, first_barred}
use Rattle.transyt_variants.proofs.CycleLaws.{had, not_had}
use Rattle.transyt_variants.proofs.cycles.cycle_made.Goals as goal

-- no whole number of steps
pub returns-then-not-is_whole : goal.returns-then-not-is_whole
returns-then-not-is_whole c =
    let net = c.args.net.now in
    let whole : is_whole net c.args.time.seconds ≡ false = sym c.if-not-is_whole.ensures in
    not_had net c.args.time.seconds (λ j. not (whole j) || not (may_have (steps_of net c.args.time.seconds) net))

-- not one that there may be
pub returns-then-not-may_have : goal.returns-then-not-may_have
returns-then-not-may_have c =
    let net = c.args.net.now in
    let whole : is_whole net c.args.time.seconds ≡ true = sym c.if-not-is_whole.ensures in
    let may : may_have (steps_of net c.args.time.seconds) net ≡ false =
    sym (c.if-not-may_have.ensures ∙ ap (λ n. may_have n net) c.steps_of.ensures) in
    not_had net c.args.time.seconds (λ j. not (whole j) || not (may j))

-- what a plan asks for
pub plan_at-requires : goal.plan_at-requires
plan_at-requires c =
    let net = c.args.net.now in
    record {
      low = c.args.time.low;
      high = c.args.time.high;
      whole = sym c.if-not-is_whole.ensures;
      may = sym (c.if-not-may_have.ensures ∙ ap (λ n. may_have n net) c.steps_of.ensures);
      none = sym (c.in-None.ensures ∙ ap (λ n. first_barred n net.nodes) c.steps_of-2.ensures);
    }

-- a node that bars it
pub returns-in-Some : goal.returns-in-Some
returns-in-Some c =
    let net = c.args.net.now in
    let whole : is_whole net c.args.time.seconds ≡ true = sym c.if-not-is_whole.ensures in
    let may : may_have (steps_of net c.args.time.seconds) net ≡ true =
    sym (c.if-not-may_have.ensures ∙ ap (λ n. may_have n net) c.steps_of.ensures) in
    let first : first_barred (steps_of net c.args.time.seconds) net.nodes ≡ Some c.in-Some.node =
    sym (c.in-Some.ensures ∙ ap (λ n. first_barred n net.nodes) c.steps_of-2.ensures) in
    had net c.args.time.seconds (Some c.in-Some.node) whole may first

-- none: there is a plan
pub returns-in_ok-plan_at-in-None : goal.returns-in_ok-plan_at-in-None
returns-in_ok-plan_at-in-None c =
    let net = c.args.net.now in
    let whole : is_whole net c.args.time.seconds ≡ true = sym c.if-not-is_whole.ensures in
    let may : may_have (steps_of net c.args.time.seconds) net ≡ true =
    sym (c.if-not-may_have.ensures ∙ ap (λ n. may_have n net) c.steps_of.ensures) in
    let first : first_barred (steps_of net c.args.time.seconds) net.nodes ≡ None =
    sym (c.in-None.ensures ∙ ap (λ n. first_barred n net.nodes) c.steps_of-2.ensures) in
    ap (λ (n : Network). Plan n) c.in_ok-plan_at-in-None.ensures ∙ had net c.args.time.seconds None whole may first
