-- The three feeders are links of the neighbour, and the link has no feed yet.
use Rattle.std.proofs.Common.{◌+◌, ap, sym, ◌∙◌, arith}
use Rattle.std.proofs.lemmas.Result.{on_ok_weaker}
use Rattle.transyt_make.specs.declared.works.Works.{Works}
use Rattle.transyt_make.specs.Made.{side_at, turning}
use Rattle.transyt_make.proofs.FedLaws.{fed_most, turning_within, place_there, link_there, unfed_at, feeds_done, unfed_done}
use Rattle.transyt_make.proofs.feeds.put_feeds_of.Goals as goal

-- there are few draws
pub draw_feeds-feeds-requires-clause-few : goal.draw_feeds-feeds-requires-clause-few
draw_feeds-feeds-requires-clause-few c =
    let a = c.args.approach in
    omega (arith, ap (λ (w : Works). w.draws.taken) c.requires, fed_most a.town.nodes a.place, a.inside, a.town.most)

-- the link has no feed yet
pub put_three-requires-clause-unfed : goal.put_three-requires-clause-unfed
put_three-requires-clause-unfed c =
    let a = c.args.approach in
    rw (c.number.ensures.value, c.requires) (unfed_at a.town.seed a.town.nodes a.place a.inside)

-- it is there
pub put_three-requires-clause-there : goal.put_three-requires-clause-there
put_three-requires-clause-there c =
    let a = c.args.approach in
    rw c.requires
    (place_there a.town.seed a.town.nodes a.place a.place c.number.result (omega arith) a.inside
    (sym c.number.ensures.value))

-- and so are its feeders
pub put_three-requires-clause-feeders : goal.put_three-requires-clause-feeders
put_three-requires-clause-feeders c =
    let a = c.args.approach in
    let feeds = c.draw_feeds-feeds in
    let from = c.in-Some.ensures.within in
    let within = turning_within (side_at a.place) in
    let there = link_there a.town.seed a.town.nodes a.place c.in-Some.from in
    rw c.requires (
      there (side_at a.place) feeds.result.first.feeder (omega arith) from.0 from.1 (omega arith) (omega arith)
          feeds.ensures.first,
      there (turning (side_at a.place)) feeds.result.second.feeder (omega arith) from.0 from.1 within.0
          (omega (arith, within.1)) feeds.ensures.second,
      there (turning (side_at a.place) + 1) feeds.result.third.feeder (omega arith) from.0 from.1 (omega arith)
          (omega (arith, within.1)) (omega (arith, feeds.ensures.third)),
    )

-- without a neighbour it has all its feeds already
pub returns-in-None : goal.returns-in-None
returns-in-None c =
    let a = c.args.approach in
    c.requires ∙ unfed_done a.town a.place a.inside (sym c.neighbour.ensures.value ∙ c.in-None.is)

-- with one it has them now
pub returns-in-Some : goal.returns-in-Some
returns-in-Some c =
    let a = c.args.approach in
    let feeds = c.draw_feeds-feeds.ensures in
    on_ok_weaker c.put_three.result
    (feeds_done a.town c.args.works.now a.place c.in-Some.from _ _ _ _ _ _ c.requires a.inside c.number.ensures.value
    (sym c.neighbour.ensures.value ∙ c.in-Some.is) feeds.value feeds.taken)
    c.put_three.ensures
