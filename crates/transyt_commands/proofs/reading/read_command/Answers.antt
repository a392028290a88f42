-- The keyword finds its row of the table, and the tests in order find the first code of that row.
use Rattle.std.proofs.Common.{◌≡◌, ℕ, List, Some, IfErr, sym, subst, ◌∙◌, ap, false}
use Rattle.transyt_io.specs.Lines.{is_skipped}
use Rattle.transyt_syntax.specs.Syntax.{counts_of, said, says_of, syntax_code}
use Rattle.transyt_syntax.proofs.Says.{error_is, found_of, kept_says, not_nothing}
use Rattle.transyt_commands.specs.Commands.{commands}
use Rattle.transyt_commands.proofs.reading.read_command.Goals as goal

-- the entry that is found is the table's
pub returns-clause-command : goal.returns-clause-command
returns-clause-command c =
    let words = c.of-words.result in
    let kept : is_skipped words.line.now ≡ false =
    ap is_skipped c.of-words.ensures ∙ sym c.is_skipped.ensures ∙ c.if-is_skipped.false in
    c.say.ensures.says commands
    (found_of commands words.line.now _ _ _ c.command_named.ensures.command words.first)
    ∙ kept_says commands words.line.now kept
    ∙ ap (said commands) c.of-words.ensures

-- a line that isn't skipped says something
pub returns-clause-nothing : goal.returns-clause-nothing
returns-clause-nothing c =
    let kept : is_skipped c.args.line.now ≡ false = sym c.is_skipped.ensures ∙ c.if-is_skipped.false in (
      λ is. absurd (not_nothing c.say.result c.say.ensures.something is),
      λ skipped. absurd (cc),
    )

-- an error is the line's code
pub returns-clause-refused : goal.returns-clause-refused
returns-clause-refused c =
    let words = c.of-words.result in
    subst (λ (line : List ℕ). IfErr c.say.result (λ code. syntax_code (counts_of commands line) line ≡ Some code))
    c.of-words.ensures
    (error_is (syntax_code (counts_of commands words.line.now) words.line.now) (says_of commands words.line.now)
    c.say.result (c.say.ensures.says commands
    (found_of commands words.line.now _ _ _ c.command_named.ensures.command words.first)))
