-- With both turns past, the dispersed platoons are added.
use Rattle.std.proofs.Common.{ℕ, ◌+◌, ◌*◌, ◌^◌, ◌<◌, List, get_or, sym, ◌∙◌, arith}
use Rattle.std.proofs.lemmas.List.FromFn.{length-map-range_with_len}
use Rattle.transyt_profile.specs.Profile.{folded}
use Rattle.transyt_profile.proofs.AddedLaws.{is_added_each, each_grows, length-folded, get_or-folded, folded_each}
use Rattle.transyt_profile.specs.Arriving.{arriving, sent}
use Rattle.transyt_profile.specs.declared.platoon.Platoon.{Platoon}
use Rattle.transyt_profile.proofs.Arrived.{arriving_each}
use Rattle.transyt_profile.proofs.Mixing.{dispersed_small}
use Rattle.transyt_profile.proofs.Turns.{length-sent}
use Rattle.transyt_profile.proofs.group.Abreast.add_each.Goals as goal

-- no place of two turns holds more than their fold
pub arrive_turn-requires : goal.arrive_turn-requires
arrive_turn-requires g c =
    let few : g.row.N * 24 < 2 ^ 63 = omega (arith, c.args.self.now.count, c.args.self.now.ready.few) in
    let stood = folded_each c.args.self.now.ready.step_count c.args.turns.now (2 ^ 48) c.requires.fit c.requires.turns_len in
    (omega arith, (few, (c.pass_turn.ensures, (c.requires.turns_len, stood))))

-- the values added at both places of a step are its arrivals
pub returns-clause-value : goal.returns-clause-value
returns-clause-value g c =
    let n : ℕ = c.args.self.now.ready.step_count in
    let ps : List Platoon = c.args.self.now.ready.platoons.now in
    is_added_each arriving ps (folded n c.args.turns.now) (folded n c.arrive_turn.new.turns)
    (length-folded n c.arrive_turn.new.turns ∙ sym (length-folded n c.args.turns.now))
    (λ k h.
    let inside : k < n = omega (arith, h, length-folded n c.args.turns.now) in
    omega (
      arith,
      get_or-folded n c.arrive_turn.new.turns k inside,
      get_or-folded n c.args.turns.now k inside,
      c.arrive_turn.ensures k,
      c.arrive_turn.ensures (n + k),
      arriving_each n k ps c.args.self.now.ready.ready.same inside,
    ))

-- so a limit on what stood goes up by those of the platoons
pub returns-clause-grows : goal.returns-clause-grows
returns-clause-grows g c = λ limit within.
    let n : ℕ = c.args.self.now.ready.step_count in
    let ps : List Platoon = c.args.self.now.ready.platoons.now in
    rw (returns-clause-value g c)
    (each_grows arriving ps (folded n c.args.turns.now) limit (2 ^ 22)
    (λ i d h.
    length-map-range_with_len _ 0 _ ∙ length-sent (get_or ps i d) ∙ c.args.self.now.ready.ready.same i d h
    ∙ sym (length-folded n c.args.turns.now))
    (λ i d h.
    let p : Platoon = get_or ps i d in
    dispersed_small (sent p) _ _ (2 ^ 22)
    (omega (arith, length-sent p, c.args.self.now.ready.ready.same i d h, c.args.self.now.ready.some))
    (λ k e below. omega (arith, c.args.self.now.ready.ready.fit i d h k e below, p.travel.now.limit_fits)))
    within)
