-- Desks that stand for one network are alike.
use Rattle.std.proofs.Common.{ap}
use Rattle.transyt_net.specs.Parts.{shape}
use Rattle.transyt_desks.proofs.tests.align.Goals as goal

pub align-requires-clause-alike : goal.align-requires-clause-alike
align-requires-clause-alike g c κs within = record { shape = λ k less. ap shape (c.requires.same k less) }
