-- The sums with one link more are the sums up to it.
use Rattle.std.proofs.Common.{◌≡◌, ℕ, ◌+◌, arith}
use Rattle.std.proofs.lemmas.List.FromFn.{sum_by-map-range_with_len_more}
use Rattle.transyt_report.specs.Measures.{stops_at, waiting_at}
use Rattle.transyt_report.proofs.totals.network_figures.Goals as goal

-- the sums have one link more
pub loop-place-preserved : goal.loop-place-preserved
loop-place-preserved c =
    let net = c.args.session.now.net in
    let l : ℕ = c.loop-place.place in
    let same : 0 + l ≡ l = omega arith in
    let delays = sum_by-map-range_with_len_more (λ x. x) (waiting_at net) 0 l l same in
    let stops = sum_by-map-range_with_len_more (λ x. x) (stops_at net) 0 l l same in
    let so = c.loop-place.invariant in
    record {
      delay = omega (arith, delays, so.delay, c.waiting_at-delay.ensures.value);
      few_delays = omega (arith, so.few_delays, c.waiting_at-delay.ensures.small);
      stops = omega (arith, stops, so.stops, c.stops_at.ensures.value, c.from-stops.ensures);
      few_stops = omega (arith, so.few_stops, c.stops_at.ensures.small, c.from-stops.ensures);
    }
