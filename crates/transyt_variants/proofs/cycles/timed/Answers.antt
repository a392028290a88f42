-- One stage more.
use Rattle.std.proofs.Common.{ℕ, get_or, refl}
use Rattle.transyt_parts.specs.declared.node.Stage.{Stage}
use Rattle.transyt_parts.specs.Plan.{stage_of}
use Rattle.transyt_equisat.specs.Balance.{no_share}
use Rattle.transyt_equisat.proofs.AskedLaws.{range_more}
use Rattle.transyt_variants.proofs.cycles.timed.Goals as goal

pub loop-place-preserved : goal.loop-place-preserved
loop-place-preserved c =
    let f : ℕ → Stage = λ k. record (stage_of c.args.stages.now k) { change = (get_or c.args.shares.now k no_share).change } in
    range_more f c.loop-place.made.items c.push.new.self.items c.loop-place.place (f c.loop-place.place)
    c.loop-place.invariant c.in_ok-push.ensures.items refl
