-- One turn more of a climb on its way is a round, whose step is counted, or its last.
use Rattle.std.proofs.Common.{refl, sym, ◌∙◌, arith}
use Rattle.transyt_climb.specs.Turns.{Machine, machine}
use Rattle.transyt_climb.proofs.WayLaws.{round_one}
use Rattle.transyt_climb.proofs.CountedLaws.{counted_start, counted_on, counted_over, fewer_left}
use Rattle.transyt_climb.proofs.climbing.climb_on.Goals as goal

-- no step is counted yet
pub loop-turn-init : goal.loop-turn-init
loop-turn-init g c = record {
  counted = counted_start c.args.climber.now.budget c.args.session.now c.args.climber.now c.requires.start
      c.requires.closed;
  steps = refl;
}

-- the step of a turn is counted
pub loop-turn-preserved : goal.loop-turn-preserved
loop-turn-preserved g c =
    let so = c.loop-turn.invariant in
    let told = c.turn-turn.ensures in
    let after : Machine = machine c.turn-turn.new.self c.turn-turn.new.session in
    record {
      counted = counted_on so.counted after 1 _ (round_one _ after _ told.answer told.state)
          (sym c.is_end.ensures ∙ c.if-is_end.false) (omega (arith, told.few)) c.step_count-took.result
          c.step_count-took.ensures.value c.step_count-took.ensures.few;
      steps = omega (arith, told.steps, so.steps);
    }

-- fewer places are left
pub loop-turn-smaller : goal.loop-turn-smaller
loop-turn-smaller g c =
    let told = c.turn-turn.ensures in
    let after : Machine = machine c.turn-turn.new.self c.turn-turn.new.session in
    fewer_left c.loop-turn.invariant.counted.climbing after 1 _ (round_one _ after _ told.answer told.state)
    (sym c.is_end.ensures ∙ c.if-is_end.false)

-- the end
pub returns-then-is_end : goal.returns-then-is_end
returns-then-is_end g c =
    let so = c.loop-turn.invariant in
    let told = c.turn-turn.ensures in
    let after : Machine = machine c.turn-turn.new.self c.turn-turn.new.session in
    let end = counted_over so.counted after 1 _ (round_one _ after _ told.answer told.state) (sym c.is_end.ensures ∙ c.if-is_end.true) in
    record {
      took = end.took_is;
      local = c.is_local.ensures ∙ end.local_is;
      state = end.state;
      looks = end.looks;
      steps = omega (arith, told.steps, so.steps);
    }
