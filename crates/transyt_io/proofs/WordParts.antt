-- The first word of a line.
use Rattle.std.proofs.Common.{◌≡◌, ℕ, zero, suc, ◌<◌, List, [], ◌∷◌, length, take, drop, get_or, cond, Bool, true}
use Rattle.std.proofs.Common.{false, filter, refl, sym, ◌∙◌, ap, arith}
use Rattle.std.proofs.Math.ListN.{length-take}
use Rattle.std.specs.List.{slice_split, onto_first}
use Rattle.transyt_io.specs.Lines.{words, is_blank, is_some_word}

-- the first part ends where the test first passes
split_at : (p : ℕ → Bool) (bytes : List ℕ) (i : ℕ) → i < length bytes
    → ((k : ℕ) → k < i → p (get_or bytes k 0) ≡ false) → p (get_or bytes i 0) ≡ true
    → slice_split p bytes ≡ take i bytes ∷ slice_split p (drop (suc i) bytes)
split_at p [] i inside others here = absurd (omega arith)
split_at p (b ∷ bs) zero inside others here =
    ap (λ (t : Bool). cond t ([] ∷ slice_split p bs) (onto_first b (slice_split p bs))) here
split_at p (b ∷ bs) (suc i) inside others here =
    ap (λ (t : Bool). cond t ([] ∷ slice_split p bs) (onto_first b (slice_split p bs))) (others 0 (omega arith))
    ∙ ap (onto_first b) (split_at p bs i (omega arith) (λ k below. others (suc k) (omega arith)) here)

-- where it never passes all is one part
split_none : (p : ℕ → Bool) (bytes : List ℕ) → ((k : ℕ) → k < length bytes → p (get_or bytes k 0) ≡ false)
    → slice_split p bytes ≡ bytes ∷ []
split_none p [] others = refl
split_none p (b ∷ bs) others =
    ap (λ (t : Bool). cond t ([] ∷ slice_split p bs) (onto_first b (slice_split p bs))) (others 0 (omega arith))
    ∙ ap (onto_first b) (split_none p bs (λ k below. others (suc k) (omega arith)))

-- a word is kept, with those kept of the parts after it
pub word_kept : (word : List ℕ) (more : List (List ℕ)) → 0 < length word
    → filter is_some_word (word ∷ more) ≡ word ∷ filter is_some_word more
word_kept [] more some = absurd (omega arith)
word_kept (b ∷ bs) more some = refl

-- a blank in front makes no word
words_after : (bytes : List ℕ) (i : ℕ) → i < length bytes → is_blank (get_or bytes i 0) ≡ true
    → words (drop i bytes) ≡ words (drop (suc i) bytes)
words_after [] i inside here = absurd (omega arith)
words_after (b ∷ bs) zero inside here =
    let parts = slice_split is_blank bs in
    ap (λ (t : Bool). filter is_some_word (cond t ([] ∷ parts) (onto_first b parts))) here
words_after (b ∷ bs) (suc i) inside here = words_after bs i (omega arith) here

-- the first word ends at the first blank
pub words_at : (bytes : List ℕ) (i : ℕ) → 0 < i → i < length bytes
    → ((k : ℕ) → k < i → is_blank (get_or bytes k 0) ≡ false) → is_blank (get_or bytes i 0) ≡ true
    → words bytes ≡ take i bytes ∷ words (drop i bytes)
words_at bytes i some inside others here =
    ap (filter is_some_word) (split_at is_blank bytes i inside others here)
    ∙ word_kept (take i bytes) (slice_split is_blank (drop (suc i) bytes)) (omega (arith, length-take i bytes))
    ∙ ap (λ (l : List (List ℕ)). take i bytes ∷ l) (sym (words_after bytes i inside here))

-- bytes with no blank are one word
pub words_alone : (bytes : List ℕ) → 0 < length bytes
    → ((k : ℕ) → k < length bytes → is_blank (get_or bytes k 0) ≡ false) → words bytes ≡ bytes ∷ words []
words_alone bytes some others = ap (filter is_some_word) (split_none is_blank bytes others) ∙ word_kept bytes [] some

-- a byte that the test passes is not the first, which it does not
pub not_first : (bytes : List ℕ) (i : ℕ) → is_blank (get_or bytes 0 0) ≡ false → is_blank (get_or bytes i 0) ≡ true
    → 0 < i
not_first bytes zero first here = absurd (cc)
not_first bytes (suc i) first here = omega arith
