-- With its climb plan the town is the network of the seed.
use Rattle.std.proofs.Common.{ap}
use Rattle.transyt_make.specs.declared.works.Works.{Works}
use Rattle.transyt_make.proofs.PlanLaws.{planned}
use Rattle.transyt_make.proofs.making.put_plan.Goals as goal

pub returns-in-Ok : goal.returns-in-Ok
returns-in-Ok c =
    let town = c.args.works.now.town in
    planned town.seed town.nodes c.args.works.now.draft c.plan.new.self (ap (λ (w : Works). w.draft) c.requires)
    c.in-Ok.ensures.ok
