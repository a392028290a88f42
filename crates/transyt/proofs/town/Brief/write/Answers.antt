-- The network of a seed has a climb plan.
use Rattle.std.proofs.Common.{ℕ, IsSome, refl, subst, sym}
use Rattle.transyt_net.specs.Parts.{Network}
use Rattle.transyt_make.specs.Made.{made}
use Rattle.transyt.proofs.town.Brief.write.Goals as goal

has_plan : (seed nodes : ℕ) → IsSome (made seed nodes).plan
unfolding made
has_plan seed nodes = refl

-- that of the code too
pub write_brief-requires-clause-plan : goal.write_brief-requires-clause-plan
write_brief-requires-clause-plan g c κs within =
    subst (λ (net : Network). IsSome net.plan) (sym c.in-Ok.ensures) (has_plan c.args.self.town.seed c.args.self.town.nodes)
