-- The list of moves, place by place.
use Rattle.std.proofs.Common.{◌≡◌, ℕ, zero, suc, ◌+◌, ◌-◌, ◌*◌, ◌/◌, ◌%◌, ◌<◌, List, [], ◌∷◌, ◌++◌, length, get_or}
use Rattle.std.proofs.Common.{Bool, true, false, ◌==◌, refl, ap, sym, ◌∙◌, arith, length-append, zero-add}
use Rattle.std.specs.List.{flat_map, range_with_len}
use Rattle.std.proofs.lemmas.List.{get_or_append_left, get_or-append_right}
use Rattle.std.proofs.lemmas.List.Concat.{flat_map-cons}
use Rattle.std.proofs.lemmas.List.FromFn.{length-range_with_len, get_or-range_with_len}
use Rattle.std.proofs.Math.Nat.{mod-lt, mod-add-div', div-lt_iff_lt-mul}
use Rattle.transyt_parts.specs.Parts.{NodeValue}
use Rattle.transyt_parts.specs.Plan.{stage_of}
use Rattle.transyt_net.specs.declared.edit.Edit.TheVariants.{Change}
use Rattle.transyt_moves.specs.Moves.{shifted, offset_moves, change_moves, node_moves, size_moves, sizes_of}
use Rattle.transyt_moves.specs.Moves.{no_move, move_count, move}
use Rattle.transyt_net.specs.Parts.{Network}

module _ {X A : Type 0} (f : X → List A) where
  -- pieces of one length
  pub length_pieces : (c : ℕ) → ((x : X) → length (f x) ≡ c) → (xs : List X)
      → length (flat_map f xs) ≡ length xs * c
  length_pieces c same [] = let none : 0 ≡ 0 * c = omega arith in none
  length_pieces c same (x ∷ xs) =
      ap length (flat_map-cons f x xs)
      ∙ omega (arith, length-append (f x) (flat_map f xs), same x, length_pieces c same xs)

  -- a place by its piece and the rest, where all pieces have one length
  pub at_piece : (c : ℕ) → ((x : X) → length (f x) ≡ c) → (xs : List X) (i j p : ℕ) (e : X) (d : A)
      → i < length xs → j < c → p ≡ i * c + j → get_or (flat_map f xs) p d ≡ get_or (f (get_or xs i e)) j d
  at_piece c same [] i j p e d inside low at = absurd (omega arith)
  at_piece c same (x ∷ xs) zero j p e d inside low at =
      let same_place : p ≡ j = omega arith in
      ap (λ l. get_or l p d) (flat_map-cons f x xs)
      ∙ ap (λ q. get_or (f x ++ flat_map f xs) q d) same_place
      ∙ get_or_append_left (f x) (flat_map f xs) d j (omega (arith, same x))
  at_piece c same (x ∷ xs) (suc i) j p e d inside low at =
      let more : suc i * c ≡ c + i * c = omega arith in
      ap (λ l. get_or l p d) (flat_map-cons f x xs)
      ∙ get_or-append_right (f x) (flat_map f xs) c p d (same x) (omega arith)
      ∙ at_piece c same xs i j (p - c) e d (omega arith) low (omega arith)

-- two moves of the offset, and two of each stage
pub length-node_moves : (steps size : ℕ) (n : NodeValue)
    → length (node_moves steps size n) ≡ 2 + 2 * length n.stages
length-node_moves steps size n =
    let stages : List ℕ = range_with_len 0 (length n.stages) in
    omega (
      arith,
      length_pieces (change_moves steps size n) 2 (λ k. refl) stages,
      length-range_with_len 0 (length n.stages),
    )

-- the moves of a stage stand after those of the offset, two of each
at_stage : (steps size : ℕ) (n : NodeValue) (i side place : ℕ) → i < length n.stages → side < 2
    → place ≡ 2 + (i * 2 + side)
    → get_or (node_moves steps size n) place no_move ≡ get_or (change_moves steps size n i) side no_move
at_stage steps size n i side place inside low at =
    let stages : List ℕ = range_with_len 0 (length n.stages) in
    get_or-append_right (offset_moves steps size n) (flat_map (change_moves steps size n) stages) 2 place no_move refl
    (omega arith)
    ∙ at_piece (change_moves steps size n) 2 (λ k. refl) stages i side (place - 2) 0 no_move
    (omega (arith, length-range_with_len 0 (length n.stages))) low (omega arith)
    ∙ ap (λ k. get_or (change_moves steps size n k) side no_move)
    (get_or-range_with_len 0 (length n.stages) i 0 inside ∙ zero-add i)

-- the move of a stage
pub stage_move : (steps size : ℕ) (n : NodeValue) (i : ℕ) (back : Bool) (place : ℕ) → i < length n.stages
    → (back ≡ (place % 2 == 1)) → place / 2 ≡ i + 1
    → get_or (node_moves steps size n) place no_move
    ≡ Change n.number (i + 1) (shifted back steps (stage_of n.stages i).change size)
stage_move steps size n i false place inside side at =
    let on : place % 2 ≡ 0 = grind (arith) in at_stage steps size n i 0 place inside (omega arith) (omega arith)
stage_move steps size n i true place inside side at =
    let off : place % 2 ≡ 1 = grind (arith) in at_stage steps size n i 1 place inside (omega arith) (omega arith)

-- a place below that many pieces, by its piece and the rest
pub record IsParted (n c p : ℕ) : Type 0 where
  pub some : 0 < c
  pub piece : p / c < n
  pub left : p % c < c
  pub whole : p ≡ p / c * c + p % c

parted : (n c p : ℕ) → p < n * c → IsParted n c p
parted n zero p inside = absurd (omega arith)
parted n (suc c) p inside =
    let piece = (div-lt_iff_lt-mul {k = suc c} {x = p} {y = n} (omega arith)).1 inside in
    grind (arith, piece, mod-lt p {m = suc c} (omega arith), mod-add-div' p (suc c))

-- the moves of a network are those of these nodes by these sizes, and each size has `each`
module _ (net : Network) (steps : ℕ) (nodes : List NodeValue) (sizes : List ℕ) (each place : ℕ)
    (its_steps : steps ≡ net.frame.step_count) (its_nodes : nodes ≡ net.nodes) (its_sizes : sizes ≡ sizes_of net.plan)
    (same : (size : ℕ) → length (size_moves steps nodes size) ≡ each) (inside : place < move_count net) where
  -- a place of the list is a size, and a rest within the moves by it
  pub among_moves : IsParted (length sizes) each place
  unfolding move_count
  among_moves =
      let all : place < length (flat_map (size_moves steps nodes) sizes) =
      rw (its_steps, its_nodes, its_sizes) inside in
      parted (length sizes) each place (omega (arith, all, length_pieces (size_moves steps nodes) each same sizes))

  -- and the move there is the one at the rest
  pub move_among : get_or (size_moves steps nodes (get_or sizes (place / each) 0)) (place % each) no_move
      ≡ move net place
  unfolding move
  move_among =
      let part = among_moves in
      sym (at_piece (size_moves steps nodes) each same sizes (place / each) (place % each) place 0 no_move part.piece
      part.left part.whole)
      ∙ (λ j. get_or (flat_map (size_moves (its_steps j) (its_nodes j)) (its_sizes j)) place no_move)

-- how many moves there are
pub count_is : (net : Network) (each : ℕ)
    → ((size : ℕ) → length (size_moves net.frame.step_count net.nodes size) ≡ each)
    → move_count net ≡ length (sizes_of net.plan) * each
unfolding move_count
count_is net each same = length_pieces (size_moves net.frame.step_count net.nodes) each same (sizes_of net.plan)
