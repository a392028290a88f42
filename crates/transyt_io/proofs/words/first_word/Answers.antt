-- No byte before the first blank is a blank, so they are the first word.
use Rattle.std.proofs.Common.{ℕ, ◌∷◌, List, length, take, sym, ap, ◌∙◌, arith}
use Rattle.std.proofs.lemmas.Slice.{between_to_end}
use Rattle.std.proofs.lemmas.List.{drop_all}
use Rattle.transyt_io.specs.Lines.{words}
use Rattle.transyt_io.proofs.WordParts.{words_at, words_alone, not_first}
use Rattle.transyt_io.proofs.words.first_word.Goals as goal

-- the word ends at the first blank
pub returns-then-is_blank-clause-words : goal.returns-then-is_blank-clause-words
returns-then-is_blank-clause-words c =
    let bytes = c.args.rest.now in
    let i = c.loop-i.i in
    let here = sym c.is_blank.ensures ∙ c.if-is_blank.true in
    words_at bytes i (not_first bytes i c.requires.begins here) c.loop-i-test.true c.loop-i.invariant here
    ∙ ap (λ (l : List ℕ). take i bytes ∷ words l) (sym (between_to_end bytes i (length bytes) (omega arith)))

-- with no blank all bytes are the word
pub returns-clause-words : goal.returns-clause-words
returns-clause-words c =
    let bytes = c.args.rest.now in
    words_alone bytes c.requires.some (λ k below. c.loop-i.invariant k (omega arith))
    ∙ ap (λ (l : List ℕ). bytes ∷ words l) (sym (between_to_end bytes (length bytes) (length bytes) (omega arith)
    ∙ drop_all (length bytes) bytes (omega arith)))
