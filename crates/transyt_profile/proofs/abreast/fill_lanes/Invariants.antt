-- The platoons so far fit, and their lanes and sums are ready.
use Rattle.std.proofs.Common.{◌≡◌, length, get_or, sum}
use Rattle.transyt_profile.specs.Arriving.{sent}
use Rattle.transyt_profile.specs.Passing.{Fits, InLane}
use Rattle.transyt_profile.proofs.Lanes.{AreFirst}
use Rattle.transyt_profile.proofs.abreast.fill_lanes.Given as goal

abbrev pub invariant-loop-number : goal.invariant-loop-number
invariant-loop-number l = record {
  len : length l.totals ≡ 4;
  fit : AreFirst (λ i p. Fits p) l.platoons l.number;
  ready : AreFirst (λ i p. InLane i l.lanes p) l.platoons l.number;
  totals : AreFirst (λ i p. get_or l.totals i 0 ≡ sum (sent p)) l.platoons l.number;
}
