-- The numbers of the row are those of the climb.
use Rattle.std.proofs.Common.{true, refl, sym, ◌∙◌, ap}
use Rattle.transyt_net.specs.Parts.{Network}
use Rattle.transyt_sweep.specs.Sweeps.{index}
use Rattle.transyt_sweep.specs.Climb.{Climb, climb, ended}
use Rattle.transyt_session.specs.Session.{SessionValue}
use Rattle.transyt_climb.specs.Turns.{start_of}
use Rattle.transyt_climbs.proofs.RowLaws.{row_is, IsPlanned, planned, unplanned}
use Rattle.transyt_climbs.proofs.climbing.climb_once.Goals as goal

-- the climber is at its start
pub climb_on-ended-requires-clause-start : goal.climb_on-ended-requires-clause-start
climb_on-ended-requires-clause-start g c =
    (planned c.args.session.now.net c.in-Some.climber
    (sym c.in-Some.is ∙ c.start.ensures ∙ ap (λ (n : Network). start_of n n.plan) c.net.ensures)).start

-- the row of a climb, and the network at its end
pub returns : goal.returns
returns g c =
    let net : Network = c.args.session.now.net in
    let told = c.climb_on-ended.ensures in
    let plan : IsPlanned net c.in-Some.climber =
    planned net c.in-Some.climber
    (sym c.in-Some.is ∙ c.start.ensures ∙ ap (λ (n : Network). start_of n n.plan) c.net.ensures) in
    record {
      row = row_is net (climb net 0 c.in-Some.climber.budget) plan.climb_is c.index-from.ensures told.took told.local
          (c.looked.ensures.value ∙ told.looks) (c.index.ensures ∙ ap (λ (s : SessionValue). index s.net) told.state);
      end = ap (λ (s : SessionValue). s.net) told.state ∙ ap (λ (k : Climb). k.net) (sym plan.climb_is);
    }

-- where nothing is listed the network stays
pub returns-in_default : goal.returns-in_default
returns-in_default g c =
    let net : Network = c.args.session.now.net in
    let none = unplanned net (sym c.in_default.is ∙ c.start.ensures ∙ ap (λ (n : Network). start_of n n.plan) c.net.ensures) in
    record {
      row = row_is net (ended true net 0 0) none c.index-from.ensures refl refl refl c.index-from.ensures;
      end = ap (λ (k : Climb). k.net) (sym none);
    }
