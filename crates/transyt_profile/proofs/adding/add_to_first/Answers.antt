-- Two turns to whose first a profile is added, folded.
use Rattle.std.proofs.Common.{ℕ, ◌-◌, ◌^◌, List, length, sym, arith}
use Rattle.std.proofs.lemmas.Grind.{elements}
use Rattle.transyt_profile.specs.Profile.{folded}
use Rattle.transyt_profile.proofs.AddedLaws.{length-added, get_or-added, length-folded, get_or-folded, added_grows, folded_first}
use Rattle.transyt_profile.proofs.adding.add_to_first.Goals as goal

-- both values of a step come to less than 2^48
pub overflow_add-turns : goal.overflow_add-turns
overflow_add-turns c =
    let i = c.loop-i.i in
    let fold = folded_first _ c.args.turns.now (2 ^ 48 - 2 ^ 44) i c.requires.turns_fit (omega arith) in
    omega (arith, fold, c.requires.fit i 0 (omega arith), c.loop-i.invariant.rest i (omega arith))

-- each step of the fold is a sum of two values
pub returns-clause-value : goal.returns-clause-value
returns-clause-value c =
    let n : ℕ = length c.args.x.now in
    let stood : List ℕ = folded n c.args.turns.now in
    let is : List ℕ = folded n c.loop-i.turns in
    grind (
      arith,
      elements,
      length-folded n c.args.turns.now,
      length-folded n c.loop-i.turns,
      length-added stood c.args.x.now,
      get_or-folded n c.args.turns.now,
      get_or-folded n c.loop-i.turns,
      get_or-added stood c.args.x.now,
    )

-- so a limit on what stood goes up by the limit on what is added
pub returns-clause-grows : goal.returns-clause-grows
returns-clause-grows c = λ limit within.
    let n : ℕ = length c.args.x.now in
    rw (returns-clause-value c) (added_grows _ _ limit _ (sym (length-folded n c.args.turns.now)) within c.requires.fit)
