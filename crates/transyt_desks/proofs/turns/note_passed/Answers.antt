-- One look more is counted.
use Rattle.std.proofs.Common.{◌∙◌, ap, false, arith}
use Rattle.transyt_climb.specs.Turns.{Counters, noted}
use Rattle.transyt_desks.proofs.PassingLaws.{noted_more, noted_none}
use Rattle.transyt_desks.proofs.turns.note_passed.Goals as goal

pub loop-looked-init : goal.loop-looked-init
loop-looked-init c =
    noted_none c.args.climber.now (λ some. omega (arith, c.place.ensures.value, c.place.ensures.below some))

pub loop-looked-preserved : goal.loop-looked-preserved
loop-looked-preserved c =
    c.note.ensures ∙ ap (λ (x : Counters). noted false x) c.loop-looked.invariant ∙ noted_more c.loop-looked.looked c.args.climber.now
