-- The lines of items, one after another: those so far, and those of the items to come, are all.
use Rattle.std.proofs.Common.{◌≡◌, ℕ, ◌+◌, ◌<◌, ◌≤◌, List, [], ◌∷◌, ◌++◌, length, map, drop, get_or, append_assoc}
use Rattle.std.proofs.Common.{sym, ap, ◌∙◌}
use Rattle.std.specs.List.{flat_map}
use Rattle.std.proofs.lemmas.List.{append-nil, drop_all, drop_more}

module _ {A B : Type 0} (xs : List A) (i : ℕ) (lines all : List B) where
  -- a line of one item more
  pub line_more : (F : A → B) (d : A) (now : List B) → i < length xs → now ≡ lines ++ F (get_or xs i d) ∷ []
      → lines ++ map F (drop i xs) ≡ all → now ++ map F (drop (i + 1) xs) ≡ all
  line_more F d now inside adds before =
      ap (λ (ls : List B). ls ++ map F (drop (i + 1) xs)) adds
      ∙ append_assoc lines (F (get_or xs i d) ∷ []) (map F (drop (i + 1) xs))
      ∙ ap (λ (ys : List A). lines ++ map F ys) (sym (drop_more xs i d inside))
      ∙ before

  -- all items have theirs
  pub lines_done : (F : A → B) → length xs ≤ i → lines ++ map F (drop i xs) ≡ all → lines ≡ all
  lines_done F passed before =
      sym (append-nil lines) ∙ ap (λ (ys : List A). lines ++ map F ys) (sym (drop_all i xs passed)) ∙ before

  -- the same where an item has some lines
  pub some_more : (F : A → List B) (d : A) (now : List B) → i < length xs → now ≡ lines ++ F (get_or xs i d)
      → lines ++ flat_map F (drop i xs) ≡ all → now ++ flat_map F (drop (i + 1) xs) ≡ all
  some_more F d now inside adds before =
      ap (λ (ls : List B). ls ++ flat_map F (drop (i + 1) xs)) adds
      ∙ append_assoc lines (F (get_or xs i d)) (flat_map F (drop (i + 1) xs))
      ∙ ap (λ (ys : List A). lines ++ flat_map F ys) (sym (drop_more xs i d inside))
      ∙ before

  pub some_done : (F : A → List B) → length xs ≤ i → lines ++ flat_map F (drop i xs) ≡ all → lines ≡ all
  some_done F passed before =
      sym (append-nil lines) ∙ ap (λ (ys : List A). lines ++ flat_map F ys) (sym (drop_all i xs passed)) ∙ before
