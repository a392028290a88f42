-- The reading of a line that isn't skipped: its first word is its keyword, and the others are its numbers.
use Rattle.std.proofs.Common.{◌≡◌, ◌∙◌, ℕ, List, false, cond, Option, Some, None, Result, Ok, Err, refl, sym, ap, IfErr, IfOk, IsSome, subst}
use Rattle.transyt_io.specs.Lines.{is_skipped, words}
use Rattle.transyt_syntax.specs.declared.code.Code.{Code}
use Rattle.transyt_syntax.specs.Syntax.{Entry, counts_of, entry_of, first_word, named, said, says_of, syntax_code, unless, with_numbers}

-- the entry of a line's first word is that of the table
pub found_of : {A : Type 0} (table : List (Entry A)) (line word ns : List ℕ) (found : Option ((ℕ × ℕ) × A))
    → found ≡ with_numbers ns (named table word) → word ≡ first_word (words line)
    → found ≡ with_numbers ns (entry_of table line)
found_of table line word ns found is same = is ∙ ap (λ (w : List ℕ). with_numbers ns (named table w)) same

-- a line that isn't skipped says what its keyword does, or has a code
pub kept_says : {A : Type 0} (table : List (Entry A)) (line : List ℕ) → is_skipped line ≡ false
    → unless (syntax_code (counts_of table line) line) (says_of table line) ≡ said table line
kept_says table line kept =
    λ j. cond (sym kept j) (Ok None) (unless (syntax_code (counts_of table line) line) (says_of table line))

by_code : {A : Type 0} (code : Option Code) (says : A) → IfErr (unless code says) (λ c. code ≡ Some c)
by_code None says = tt
by_code (Some c) says = refl

-- an error is the line's code
pub error_is : {A : Type 0} (code : Option Code) (says : A) (r : Result A Code) → r ≡ unless code says
    → IfErr r (λ c. code ≡ Some c)
error_is code says r is = subst (λ (r : Result _ Code). IfErr r (λ c. code ≡ Some c)) (sym is) (by_code code says)

-- a line that says something doesn't say nothing
pub not_nothing : {A E : Type 0} (r : Result (Option A) E) → IfOk r IsSome → r ≡ Ok None → ⊥
not_nothing (Ok None) some is = absurd (cc)
not_nothing (Ok (Some says)) some is = cc
not_nothing (Err e) some is = cc
