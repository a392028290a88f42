-- A search from here finds what one from the start finds, since no number before this one passes.
use Rattle.std.proofs.Common.{◌≡◌, ◌-◌}
use Rattle.transyt_equisat.specs.Degrees.{is_above}
use Rattle.transyt_equisat.specs.Sharing.{degree_of, need_by_demand}
use Rattle.transyt_equisat.specs.Balance.{first_from}
use Rattle.transyt_equisat.proofs.stage_demand.StageDemand.need.Given as goal

abbrev pub invariant-loop-green : goal.invariant-loop-green
invariant-loop-green l =
    first_from (λ e. is_above l.peak (degree_of l.steps l.demand e)) l.green (l.steps - l.green)
    ≡ need_by_demand l.self.asked.now l.peak l.self.place
