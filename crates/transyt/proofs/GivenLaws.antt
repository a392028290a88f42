-- The words that std answered: a list of them was made, or there was no memory for it.
use Rattle.std.proofs.Common.{◌≡◌, ℕ, List, Option, Some, IfSome, Result, Ok, Err, IfOk, IfErr, inl, inr, subst, ap, refl, ◌∙◌}
use Rattle.std.specs.Prelude.{IsOkAnd, MatchResult}
use Rattle.std.specs.declared.io.ErrorKind.{ErrorKind}
use Rattle.std.specs.declared.io.ErrorKind.TheVariants.{OutOfMemory}
use Rattle.transyt.specs.Program.{ArgsRan, OverRan, OverHeadline, number_without_words}

module _ {A T E X : Type 0} (items : T → X) (left : A → X) (words : X → List (List ℕ)) (kind : E → ErrorKind)
    (remaining contents contents_new : Option (List ℕ)) (number : ℕ) where
  -- with the list the program ran, and with no memory for it the number is 5 and the writer holds what it held
  pub given_ran : (args : Result A E) (given : Result T E) → IfOk given (λ t. IsOkAnd args (λ a. items t ≡ left a))
      → IfErr given (λ e. MatchResult args (λ a. kind e ≡ OutOfMemory) (λ c. e ≡ c))
      → IfOk given (λ t. OverRan (words (items t)) remaining contents contents_new number)
      → IfErr given (λ e. IfSome contents (λ held. contents_new ≡ Some held))
      → IfErr given (λ e. number ≡ number_without_words (kind e))
      → IfOk args (λ a. ArgsRan (words (left a)) remaining contents contents_new number)
  given_ran (Ok a) (Ok t) same cause ran still is =
      inl (subst (λ (x : X). OverRan (words x) remaining contents contents_new number) same ran)
  given_ran (Ok a) (Err e) same cause ran still is = inr (is ∙ ap number_without_words cause, still)
  given_ran (Err c) given same cause ran still is = tt

  -- with the list it wrote the report
  pub given_headline : (args : Result A E) (given : Result T E) → IfOk given (λ t. IsOkAnd args (λ a. items t ≡ left a))
      → IfErr given (λ e. MatchResult args (λ a. kind e ≡ OutOfMemory) (λ c. e ≡ c))
      → IfOk given (λ t. OverHeadline (words (items t)) remaining contents contents_new number)
      → IfErr given (λ e. number ≡ number_without_words (kind e))
      → IfOk args (λ a. OverHeadline (words (left a)) remaining contents contents_new number)
  given_headline (Ok a) (Ok t) same cause ran is =
      subst (λ (x : X). OverHeadline (words x) remaining contents contents_new number) same ran
  given_headline (Ok a) (Err e) same cause ran is =
      λ run read write known. absurd (known (is ∙ ap number_without_words cause))
  given_headline (Err c) given same cause ran is = tt

-- the number for a cause that isn't want of memory
pub other_number : (cause : ErrorKind) → (cause ≡ OutOfMemory → ⊥) → number_without_words cause ≡ 7
other_number OutOfMemory other = absurd (other refl)
other_number _ other = refl
