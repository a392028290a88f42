-- One step more of the first turn.
use Rattle.std.proofs.Common.{ap, ◌∙◌}
use Rattle.transyt_profile.specs.Platoon.{mixed}
use Rattle.transyt_profile.proofs.Turns.{first_gone}
use Rattle.transyt_profile.proofs.passing.Passing.pass.Goals as goal

pub returns : goal.returns
returns c =
    let s = c.args.start.now in
    let passed = c.requires in
    record {
      value = c.mix-self.ensures.value ∙ ap (mixed _ _) passed.value ∙ first_gone s.platoon.now s.step s.within;
      is = record {
        small = c.mix-self.ensures.small;
        factor = passed.is.factor;
        place = passed.is.place;
        fits = passed.is.fits;
      };
    }
