-- The run of the program with the words that std answered, by its two cases.
use Rattle.std.proofs.Common.{List, String, Global, map, string_bytes}
use Rattle.std.specs.IoError.{error_kind}
use Rattle.std.specs.Vec.Iter.{into_iter_items}
use Rattle.transyt.specs.Program.{after_name}
use Rattle.transyt.proofs.GivenLaws.{given_ran, given_headline}
use Rattle.transyt.proofs.given.run_args.Goals as goal

-- the run
pub returns-clause-ran : goal.returns-clause-ran
returns-clause-ran g c =
    given_ran (λ t. t.items) into_iter_items
    (λ (xs : List (String Global)). map (string_bytes {Z = Global}) (after_name xs)) error_kind
    _ _ _ _ c.args.args c.given_words-given.result c.given_words-given.ensures.words c.given_words-given.ensures.cause
    c.run_over.ensures.ran c.run_over.ensures.no_words c.run_over.ensures.no_words_number

-- the report of the input
pub returns-clause-headline : goal.returns-clause-headline
returns-clause-headline g c =
    given_headline (λ t. t.items) into_iter_items
    (λ (xs : List (String Global)). map (string_bytes {Z = Global}) (after_name xs)) error_kind
    _ _ _ _ c.args.args c.given_words-given.result c.given_words-given.ensures.words c.given_words-given.ensures.cause
    c.run_over.ensures.headline c.run_over.ensures.no_words_number
