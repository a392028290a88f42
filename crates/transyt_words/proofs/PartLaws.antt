-- The table of starts in two parts.
use Rattle.std.proofs.Common.{◌≡◌, ℕ, zero, suc, ◌+◌, List, [], ◌∷◌, ◌++◌, map, sym, ap, ◌∙◌, arith}
use Rattle.std.specs.List.{range_with_len}
use Rattle.std.proofs.lemmas.List.{append-nil, append_assoc}
use Rattle.std.proofs.lemmas.List.FromFn.{map-range_with_len_more}
use Rattle.transyt_net.specs.Parts.{Network}
use Rattle.transyt_climbs.specs.Climbs.{row_of, table}
use Rattle.transyt_climbs.specs.declared.networks.NetworkAt.TheVariants as plan
use Rattle.transyt_variants.specs.Starts.{start_at}
use Rattle.transyt_words.specs.Plans.{starts}

module _ {X : Type 0} (f : ℕ → X) (from first : ℕ) where
  -- the part from a number on
  abbrev part : ℕ → ℕ → List X
  part start count = map (λ place. f (start + place)) (range_with_len 0 count)

  -- one more in the second part
  more : (start count : ℕ) → part start (count + 1) ≡ part start count ++ f (start + count) ∷ []
  more start count = map-range_with_len_more (λ place. f (start + place)) 0 count count (omega arith)

  -- the two parts one after another are the whole
  two_parts : (second : ℕ) → part from (first + second) ≡ part from first ++ part (from + first) second
  two_parts zero =
      let none : first + zero ≡ first = omega arith in
      ap (part from) none ∙ sym (append-nil (part from first))
  two_parts (suc n) =
      let next : first + suc n ≡ first + n + 1 = omega arith in
      let one : n + 1 ≡ suc n = omega arith in
      let at : from + (first + n) ≡ from + first + n = omega arith in
      ap (part from) next ∙ more from (first + n)
      ∙ (λ j. two_parts n j ++ f (at j) ∷ [])
      ∙ append_assoc (part from first) (part (from + first) n) (f (from + first + n) ∷ [])
      ∙ ap (λ xs. part from first ++ xs) (sym (more (from + first) n))
      ∙ ap (λ c. part from first ++ part (from + first) c) one

-- the starts from a number on are the first ones and then those from the next number on
pub starts_parts : (net : Network) (seed first second from : ℕ)
    → table (starts seed (first + second) from) net
    ≡ table (starts seed first from) net ++ table (starts seed second (from + first)) net
starts_parts net seed first second from =
    two_parts (λ number. row_of number (plan.Plan (start_at net seed number))) from first second
