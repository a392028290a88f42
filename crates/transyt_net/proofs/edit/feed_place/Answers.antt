-- A feeder that feeds the link is found before the feeds end.
use Rattle.std.proofs.Common.{◌≡◌, ◌<◌, false, nat_eq, arith}
use Rattle.std.proofs.lemmas.Bool.{both_ways}
use Rattle.std.proofs.lemmas.List.Folds.{list_any_none}
use Rattle.transyt_parts.specs.Valid.{is_fed}
use Rattle.transyt_net.proofs.edit.feed_place.Goals as goal

-- else no feed would have the feeder
pub unreachable-requires : goal.unreachable-requires
unreachable-requires c =
    let none : is_fed c.args.feeds.now c.args.feeder ≡ false =
    list_any_none (λ f. nat_eq c.args.feeder f.feeder) c.args.feeds.now
    (λ k d inside. let before : k < c.loop-place.place = omega arith in c.loop-place.invariant k d before) in
    both_ways _ none c.requires
