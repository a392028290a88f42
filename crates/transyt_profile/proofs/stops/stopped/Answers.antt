-- The sum of stopped arrivals, one step more.
use Rattle.std.proofs.Common.{◌^◌, ◌<◌, ℕ, nat_lt, if◌then◌else◌, get_or, arith}
use Rattle.std.proofs.lemmas.List.FromFn.{sum_by-map-range_with_len_more}
use Rattle.transyt_profile.proofs.stops.stopped.Goals as goal

-- one step more adds its stopped arrivals
pub loop-i-preserved : goal.loop-i-preserved
loop-i-preserved c =
    let arrival : get_or c.args.arrivals.now c.loop-i.i 0 < 2 ^ 48 = c.requires.fit c.loop-i.i 0 (omega arith) in
    let stops : ℕ → ℕ = λ i. if nat_lt 0 (get_or c.args.queue.now i 0) then get_or c.args.arrivals.now i 0 else 0 in
    let i = c.loop-i.i in
    let more = sum_by-map-range_with_len_more (λ x. x) stops 0 i i (omega arith) in
    record {
      small = omega (arith, c.stopping-all.ensures.part);
      so_far = omega (arith, c.stopping-all.ensures.value, more);
    }
