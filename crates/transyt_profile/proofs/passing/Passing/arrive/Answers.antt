-- One step more of the second turn, where it arrives.
use Rattle.std.proofs.Common.{◌≡◌, ℕ, ◌+◌, ◌*◌, ◌%◌, ◌^◌, ◌<◌, length, get_or, get_or-set_same, get_or-set_other, ap, ◌∙◌, arith}
use Rattle.std.proofs.Math.Nat.{mod-lt}
use Rattle.std.proofs.lemmas.List.Elements.{All-set}
use Rattle.transyt_profile.specs.Passing.{gone_by, steps_of}
use Rattle.transyt_profile.specs.Platoon.{mixed}
use Rattle.transyt_profile.specs.declared.platoon.Platoon.{Platoon}
use Rattle.transyt_profile.proofs.Arrived.{arrived_more}
use Rattle.transyt_profile.proofs.Turns.{second_gone}
use Rattle.transyt_profile.proofs.passing.Passing.arrive.Goals as goal

-- within the two turns
within : (p : Platoon) (i place : ℕ) → i < steps_of p → place ≡ p.travel.now.place → place + i < 2 * steps_of p
within p i place step is =
    omega (arith, is, p.place, mod-lt p.travel.now.time {m = steps_of p} (omega (arith, step)), step)

-- the value that goes by is the smoothed profile's next
pub returns-clause-passed : goal.returns-clause-passed
returns-clause-passed c =
    let s = c.args.start.now in
    let p = s.platoon.now in
    let next : steps_of p + 1 + s.step ≡ steps_of p + (s.step + 1) = omega arith in
    let passed = c.requires.passed in
    record {
      value = c.mix-self.ensures.value ∙ ap (mixed _ _) passed.value ∙ second_gone p s.step s.within ∙ ap (gone_by p) next;
      is = record {
        small = c.mix-self.ensures.small;
        factor = passed.is.factor;
        place = passed.is.place;
        fits = passed.is.fits;
      };
    }

-- and it is added
pub returns-clause-arrives : goal.returns-clause-arrives
returns-clause-arrives c =
    let s = c.args.start.now in
    let p = s.platoon.now in
    let n : ℕ = steps_of p in
    let i : ℕ = s.step in
    let passed = c.requires.passed in
    let gone = c.mix-self.ensures.value ∙ ap (mixed _ _) passed.value ∙ second_gone p i s.within in
    let place : ℕ = c.args.self.now.place in
    let is_place : place ≡ p.travel.now.time % n = passed.is.place ∙ p.place in
    let inside : place + i < length c.args.turns.now = omega (arith, within p i place s.within passed.is.place, c.requires.turns_len) in
    arrived_more (λ m. gone_by p (n + 1 + m)) (p.travel.now.time % n) i place c.args.turns.now _ is_place
    (get_or-set_same c.args.turns.now (place + i) (get_or c.args.turns.now (place + i) 0 + c.mix-self.result) 0 inside
    ∙ ap (λ v. get_or c.args.turns.now (place + i) 0 + v) gone)
    (λ j other. get_or-set_other c.args.turns.now (place + i) j _ 0 other)

-- a value below its travel's limit
pub returns-clause-grows : goal.returns-clause-grows
returns-clause-grows c = λ limit all.
    (let s = c.args.start.now in
    let place : ℕ = c.args.self.now.place + s.step in
    let inside = within s.platoon.now s.step _ s.within c.requires.passed.is.place in
    All-set (λ v. v < limit + 2 ^ 22) c.args.turns.now place _
    (omega (
      arith,
      all place 0 (omega (arith, inside, c.requires.turns_len)),
      c.mix-self.ensures.small,
      s.platoon.now.travel.now.limit_fits,
    ))
    (λ k d less. omega (arith, all k d less)))
