-- The run of the program, by the bytes that the ends of std tell.
use Rattle.std.proofs.Common.{ap, refl}
use Rattle.transyt_io.specs.Streams.{StdEnd}
use Rattle.transyt.proofs.ProgramLaws.{given_ran, given_headline}
use Rattle.transyt.proofs.over.run_over.Goals as goal

-- the writer holds what the sink told
pub returns-clause-ran : goal.returns-clause-ran
returns-clause-ran g c =
    given_ran _ _ _ _ _ _ _
    c.args.given c.run_program-number.ensures.ran (ap (λ (end : StdEnd). end.told) c.new-source.ensures)
    (ap (λ (end : StdEnd). end.told) c.new-sink.ensures) refl c.into_inner.ensures

-- the report of the input
pub returns-clause-headline : goal.returns-clause-headline
returns-clause-headline g c = given_headline _ _ _ _ _ c.args.given (returns-clause-ran g c)
