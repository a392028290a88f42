-- The product is the mean.
use Rattle.std.proofs.Common.{◌^◌}
use Rattle.transyt_profile.proofs.Parts.{mixed_by}
use Rattle.transyt_profile.proofs.Mixing.{mixed_below}
use Rattle.transyt_profile.proofs.mixer.Mixer.mix.Goals as goal

-- by the law of the reciprocal
pub returns-clause-value : goal.returns-clause-value
returns-clause-value c =
    let m = c.args.self.now in
    rw (c.from.ensures, c.from-2.ensures, c.from-3.ensures, c.from-4.ensures, m.starting, m.before)
    (mixed_by m.weight m.reciprocal c.args.starting c.args.before m.most (2 ^ 64) m.least m.close m.room
    c.requires.starting c.requires.before)

-- a mean of numbers below a limit
pub returns-clause-small : goal.returns-clause-small
returns-clause-small c = rw (returns-clause-value c) (mixed_below _ _ _ _ c.requires.starting c.requires.before)
