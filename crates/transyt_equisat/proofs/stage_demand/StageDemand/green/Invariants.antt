-- A search from here finds what one from the start finds, since no number before this one passes.
use Rattle.std.proofs.Common.{◌≡◌, ◌-◌, not}
use Rattle.transyt_equisat.specs.Degrees.{is_above}
use Rattle.transyt_equisat.specs.Sharing.{degree_of, green_by_demand}
use Rattle.transyt_equisat.specs.Balance.{first_from}
use Rattle.transyt_equisat.proofs.stage_demand.StageDemand.green.Given as goal

abbrev pub invariant-loop-green : goal.invariant-loop-green
invariant-loop-green l =
    first_from (λ e. not (is_above (degree_of l.steps l.demand e) l.peak)) l.green (l.steps - l.green)
    ≡ green_by_demand l.self.asked.now l.peak l.self.place
