-- Two turns are started.
use Rattle.std.proofs.Common.{arith}
use Rattle.std.proofs.lemmas.Grind.{elements}
use Rattle.transyt_profile.proofs.AddedLaws.{length-folded, get_or-folded}
use Rattle.transyt_profile.proofs.filling.start_turns.Goals as goal

-- the value and 0 at each step
pub returns : goal.returns
returns c =
    let n = c.args.step_count in
    grind (arith, elements, length-folded n c.second.turns, get_or-folded n c.second.turns)
