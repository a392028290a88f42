-- One stage more.
use Rattle.std.proofs.Common.{◌≡◌, ℕ, suc, ◌+◌, ◌%◌, length, get_or, ap, sym, ◌∙◌, arith}
use Rattle.std.proofs.Math.Nat.{mod-lt}
use Rattle.transyt_parts.specs.declared.node.Stage.{Stage}
use Rattle.transyt_parts.specs.Plan.{stage_of}
use Rattle.transyt_equisat.specs.Balance.{change_at}
use Rattle.transyt_equisat.proofs.AskedLaws.{range_more}
use Rattle.transyt_variants.proofs.BareLaws.{laid_stage}
use Rattle.transyt_variants.proofs.bare.laid.Goals as goal

pub loop-place-preserved : goal.loop-place-preserved
loop-place-preserved c =
    let p : ℕ = c.loop-place.place in
    let ss = c.args.fitting.now.stages.now in
    let gs = c.args.fitting.now.greens.now in
    let f : ℕ → Stage = laid_stage c.args.fitting.now.steps ss gs in
    let made : ℕ → Stage = λ a. record (stage_of ss p) { change = a } in
    let next : p + 1 ≡ suc p = omega arith in
    record {
      so_far = range_more f c.loop-place.made.items c.push.new.self.items p (made c.loop-place.change)
          c.loop-place.invariant.so_far c.in_ok-push.ensures.items (ap made c.loop-place.invariant.change);
      change = ap (λ n. (n + get_or gs p 0 + (stage_of ss p).intergreen) % c.args.fitting.now.steps) c.loop-place.invariant.change
          ∙ sym (ap (change_at c.args.fitting.now.steps ss gs) next);
      small = mod-lt (c.loop-place.change + get_or gs p 0 + (stage_of ss p).intergreen) c.args.fitting.now.steps_some;
    }

pub returns : goal.returns
returns c =
    let done : c.loop-place.place ≡ length c.args.fitting.now.stages.now = omega (arith, c.loop-place.auto.place-end) in
    rw (c.loop-place.invariant.so_far, done)
