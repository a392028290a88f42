-- Three or four of the four platoons are sent, which bring what the slots' factors bring.
use Rattle.std.proofs.Common.{◌≡◌, [], ◌∷◌, length, sym, ◌∙◌, arith}
use Rattle.std.proofs.lemmas.List.{length-take-le}
use Rattle.std.proofs.lemmas.List.Elements.{All-take, All-from_recursion}
use Rattle.transyt_profile.specs.declared.platoon.Platoon.{Platoon}
use Rattle.transyt_profile.specs.Profile.{folded}
use Rattle.transyt_sweep.specs.Inflow.{read_by}
use Rattle.transyt_sweep.proofs.GroupLaws.{group_carried}
use Rattle.transyt_sweep.proofs.feeds.Sendable.send.Goals as goal

pub returns-clause-value : goal.returns-clause-value
returns-clause-value c = λ is.
    let sent = c.args.self.now in
    c.disperse_together.ensures.value is
    ∙ group_carried (read_by sent.inputs.now) (folded sent.inputs.now.step_count c.args.turns.now) sent.slots.now
    c.platoon.result c.platoon-2.result c.platoon-3.result c.platoon-4.result sent.group c.platoon.ensures.brings
    c.platoon-2.ensures.brings c.platoon-3.ensures.brings c.platoon-4.ensures.brings

pub returns-clause-grows : goal.returns-clause-grows
returns-clause-grows c = λ is limit within j d h.
    let sent =
    c.platoon.result ∷ c.platoon-2.result ∷ c.platoon-3.result ∷ c.platoon-4.result ∷ [] in
    omega (
      arith,
      c.args.self.now.group.few,
      length-take-le (length c.args.self.now.slots.now) sent c.args.self.now.group.few,
      c.disperse_together.ensures.grows is limit within j d h,
    )

pub slice_bounds-group-end : goal.slice_bounds-group-end
slice_bounds-group-end c =
    sym (length-take-le (length c.args.self.now.slots.now)
    (c.platoon.result ∷ c.platoon-2.result ∷ c.platoon-3.result ∷ c.platoon-4.result ∷ []) c.args.self.now.group.few)

pub invariant_of-group : goal.invariant_of-group
invariant_of-group c =
    let sent = c.args.self.now in
    let count = length sent.slots.now in
    let platoons = c.platoon.result ∷ c.platoon-2.result ∷ c.platoon-3.result ∷ c.platoon-4.result ∷ [] in
    let len = length-take-le count platoons sent.group.few in
    let Long : Platoon → Type 0 = λ p. length p.leaving.now ≡ sent.inputs.now.step_count in
    record {
      steps = sent.inputs.now.some;
      most = sent.inputs.now.most;
      some = omega (arith, sent.group, len);
      few = omega (arith, sent.group, len);
      same = All-take Long count platoons (All-from_recursion Long platoons (
        c.platoon.ensures.steps,
        (c.platoon-2.ensures.steps, (c.platoon-3.ensures.steps, (c.platoon-4.ensures.steps, tt))),
      ));
    }
