-- A batch adds its rows, one or more.
use Rattle.std.proofs.Common.{◌≡◌, ◌+◌, ℕ, length, ap, subst, sym, ◌∙◌, rules}
use Rattle.transyt_climbs.specs.Deals.{first_rows}
use Rattle.transyt_climbs.proofs.DealLaws.{rows_counted}
use Rattle.transyt_climbs.proofs.table.climb_networks.Goals as goal

pub loop-rows-smaller : goal.loop-rows-smaller
loop-rows-smaller g c =
    let asked = g.P.NetworkList.list c.args.work.now.asked.now in
    let net = c.args.work.now.net.now in
    let n : ℕ = c.from-batch.result.first + c.from-batch.result.deal.count in
    let all : c.climb_batch.new.rows.items ≡ first_rows asked net n =
    subst (λ w. c.climb_batch.new.rows.items ≡ first_rows (g.P.NetworkList.list w.asked.now) w.net.now n) c.from-batch.ensures.work
    c.in_ok-climb_batch.ensures in
    let long : length c.climb_batch.new.rows.items ≡ n = rows_counted asked net n _ all in
    search rules

pub loop-rows-preserved : goal.loop-rows-preserved
loop-rows-preserved g c =
    let asked = g.P.NetworkList.list c.args.work.now.asked.now in
    let net = c.args.work.now.net.now in
    let n : ℕ = c.from-batch.result.first + c.from-batch.result.deal.count in
    let all : c.climb_batch.new.rows.items ≡ first_rows asked net n =
    subst (λ w. c.climb_batch.new.rows.items ≡ first_rows (g.P.NetworkList.list w.asked.now) w.net.now n) c.from-batch.ensures.work
    c.in_ok-climb_batch.ensures in
    let long : length c.climb_batch.new.rows.items ≡ n = rows_counted asked net n _ all in
    record {
      rows = all ∙ ap (first_rows asked net) (sym long);
      few = search rules;
      written = c.tell.ensures.written ∙ c.loop-rows.invariant.written;
      faults = c.tell.ensures.faults ∙ c.loop-rows.invariant.faults;
    }
