-- The run of the program, from the meaning of the top call's status.
use Rattle.std.proofs.Common.{List, String, Global, map, string_bytes, ap, ◌∙◌}
use Rattle.transyt.specs.Program.{after_name}
use Rattle.transyt.proofs.ProgramLaws.{inside_call, program_ran, program_headline}
use Rattle.transyt.proofs.program.run_program.Goals as goal

-- the top call was made over the sink that tells remarks, so over the sink in it, and the number is that of its status
pub returns-clause-ran : goal.returns-clause-ran
returns-clause-ran g c = rw c.in-Ok.is (program_ran _ _ _ _ c.run-status.result c.exit_of.result
    (ap (λ (xs : List (String Global)). map (string_bytes {Z = Global}) xs)
    (c.after_name.ensures ∙ ap (λ (xs : List (String Global)). after_name xs) c.deref.ensures.value))
    c.exit_of.ensures.status (inside_call (λ t. t.sink) c.run-status.ensures))

-- the headline
pub returns-clause-headline : goal.returns-clause-headline
returns-clause-headline g c = rw c.in-Ok.is (program_headline (program_ran _ _ _ _ c.run-status.result
    c.exit_of.result
    (ap (λ (xs : List (String Global)). map (string_bytes {Z = Global}) xs)
    (c.after_name.ensures ∙ ap (λ (xs : List (String Global)). after_name xs) c.deref.ensures.value))
    c.exit_of.ensures.status (inside_call (λ t. t.sink) c.run-status.ensures)))
