-- The work of the first tries.
use Rattle.std.proofs.Common.{◌≡◌, ◌≤◌, ◌*◌}
use Rattle.transyt_reporter.specs.Conditions.{places_work}
use Rattle.transyt_reporter.proofs.certifying.TriedPlaces.work.Given as goal

-- it is little
abbrev pub invariant-loop-number : goal.invariant-loop-number
invariant-loop-number l = record {
  value : l.work ≡ places_work l.self.session.now.net l.self.from l.number;
  few : l.work ≤ 8000 * l.number;
}
