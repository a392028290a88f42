-- One round more of a climb on its way, whose step is counted, or its last.
use Rattle.std.proofs.Common.{refl, sym, ◌∙◌, arith}
use Rattle.transyt_climb.specs.Turns.{Machine, machine}
use Rattle.transyt_climb.proofs.CountedLaws.{counted_start, counted_on, counted_over, fewer_left}
use Rattle.transyt_desks.specs.Desks.{desk_zero}
use Rattle.transyt_desks.proofs.climbing.climb_by_rounds.Goals as goal

pub loop-round-init : goal.loop-round-init
loop-round-init g c = record {
  counted = counted_start c.args.climber.now.budget (desk_zero c.args.desks.now) c.args.climber.now c.requires.start c.requires.closed;
  alike = c.requires.alike;
  workers = refl;
  steps = λ one. refl;
}

pub loop-round-preserved : goal.loop-round-preserved
loop-round-preserved g c =
    let so = c.loop-round.invariant in
    let told = c.stretch_round-round.ensures in
    let after : Machine = machine c.stretch_round-round.new.climber (desk_zero c.stretch_round-round.new.self) in
    record {
      counted = counted_on so.counted after _ _ told.made.round (sym c.is_end.ensures ∙ c.if-is_end.false) told.made.few
          c.step_count-took.result c.step_count-took.ensures.value c.step_count-took.ensures.few;
      alike = told.alike;
      workers = told.workers ∙ so.workers;
      steps = λ one. omega (arith, told.steps (so.workers ∙ one), so.steps one);
    }

pub loop-round-smaller : goal.loop-round-smaller
loop-round-smaller g c =
    let after : Machine = machine c.stretch_round-round.new.climber (desk_zero c.stretch_round-round.new.self) in
    fewer_left c.loop-round.invariant.counted.climbing after _ _ c.stretch_round-round.ensures.made.round
    (sym c.is_end.ensures ∙ c.if-is_end.false)

pub returns-then-is_end : goal.returns-then-is_end
returns-then-is_end g c =
    let so = c.loop-round.invariant in
    let told = c.stretch_round-round.ensures in
    let after : Machine = machine c.stretch_round-round.new.climber (desk_zero c.stretch_round-round.new.self) in
    let end = counted_over so.counted after _ _ told.made.round (sym c.is_end.ensures ∙ c.if-is_end.true) in
    record {
      took = end.took_is;
      local = c.is_local.ensures ∙ end.local_is;
      state = end.state;
      looks = end.looks;
      alike = told.alike;
      workers = told.workers ∙ so.workers;
      steps = λ one. omega (arith, told.steps (so.workers ∙ one), so.steps one);
    }
