-- Words with one blank between two of them are the words of their bytes: none has a blank, so a part ends at each.
use Rattle.std.proofs.Common.{◌≡◌, ℕ, ◌<◌, All, List, [], ◌∷◌, ◌++◌, filter, flat_map, length, false, refl, ◌∙◌, ap}
use Rattle.std.proofs.lemmas.List.{append-nil}
use Rattle.std.proofs.lemmas.List.Elements.{All-head, All-tail}
use Rattle.std.proofs.lemmas.List.Splits.{slice_split_at, slice_split_none}
use Rattle.std.specs.List.{slice_split}
use Rattle.transyt_io.specs.Lines.{is_blank, is_some_word, words}
use Rattle.transyt_io.proofs.WordParts.{word_kept}

-- some bytes, none of them a blank or a tab
pub record IsOneWord (word : List ℕ) : Type 0 where
  pub some : 0 < length word
  pub no_blank : All (λ b. is_blank b ≡ false) word

-- the parts are the words, since the first ends at the blank before the next
split_spaced : (word : List ℕ) (more : List (List ℕ)) → All IsOneWord (word ∷ more)
    → slice_split is_blank (word ++ flat_map (λ w. 32 ∷ w) more) ≡ word ∷ more
split_spaced word [] all =
    ap (slice_split is_blank) (append-nil word)
    ∙ slice_split_none is_blank word (All-head IsOneWord word [] all).no_blank
split_spaced word (next ∷ more) all =
    let after = next ++ flat_map (λ w. 32 ∷ w) more in
    slice_split_at is_blank word 32 after (All-head IsOneWord word (next ∷ more) all).no_blank refl
    ∙ ap (λ (ls : List (List ℕ)). word ∷ ls) (split_spaced next more (All-tail IsOneWord word (next ∷ more) all))

-- words are all kept
all_kept : (ws : List (List ℕ)) → All IsOneWord ws → filter is_some_word ws ≡ ws
all_kept [] all = refl
all_kept (w ∷ ws) all =
    word_kept w ws (All-head IsOneWord w ws all).some
    ∙ ap (λ (ls : List (List ℕ)). w ∷ ls) (all_kept ws (All-tail IsOneWord w ws all))

-- words with one blank between two of them are the words of their bytes
pub words_spaced : (word : List ℕ) (more : List (List ℕ)) → All IsOneWord (word ∷ more)
    → words (word ++ flat_map (λ w. 32 ∷ w) more) ≡ word ∷ more
words_spaced word more all = ap (filter is_some_word) (split_spaced word more all) ∙ all_kept (word ∷ more) all
