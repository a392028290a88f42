-- After so many rounds four times as many steps have arrived, and then one more in each: each place has its value from
-- before and the arrivals of all platoons so far.
use Rattle.std.proofs.Common.{◌*◌}
use Rattle.transyt_profile.proofs.Arrived.{HaveArrived}
use Rattle.transyt_profile.proofs.group.Abreast.arrive_turn.Given as goal

abbrev pub invariant-loop-four : goal.invariant-loop-four
invariant-loop-four g l = HaveArrived l.self.ready l.initial.turns (4 * l.four) l.goings l.turns

abbrev pub invariant-loop-step : goal.invariant-loop-step
invariant-loop-step g l = HaveArrived l.self.ready l.fn.turns l.step l.goings l.turns
