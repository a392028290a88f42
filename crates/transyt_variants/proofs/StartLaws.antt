-- A start is a valid network, and differs from the first network in its offsets alone.
use Rattle.std.proofs.Common.{◌≡◌, ℕ, zero, suc, add-one, ◌+◌, ◌*◌, ◌/◌, ◌<◌, List, [], ◌∷◌, ◌++◌, map, take, length, get_or, refl, sym, ap, ◌∙◌, arith, subst, None, Result, Ok, Err, IfOk}
use Rattle.std.specs.List.{range_with_len}
use Rattle.std.proofs.Math.Nat.{mod-lt}
use Rattle.std.proofs.lemmas.List.{ext_get_or, length-map, get_or-map, get_or_default, map_more}
use Rattle.std.proofs.lemmas.List.FromFn.{length-map-range_with_len, get_or-map-range_with_len, map-range_with_len_more}
use Rattle.transyt_parts.specs.Parts.{NodeValue}
use Rattle.transyt_parts.specs.Made.{bare_node}
use Rattle.transyt_parts.specs.Plan.{plan_fault}
use Rattle.transyt_parts.specs.Valid.{IsNode}
use Rattle.transyt_net.specs.Parts.{Network, with_signals, node_of, no_node}
use Rattle.transyt_net.specs.Edits.{set_offset}
use Rattle.transyt_net.specs.Valid.{IsValid, node_numbers}
use Rattle.transyt_make.specs.Draws.{draw, after_draws}
use Rattle.transyt_variants.specs.Starts.{drawn_nodes, start_at}
use Rattle.transyt_variants.specs.Kept.{KeepsAllButOffsets}
use Rattle.transyt_net.proofs.ShapeLaws.{same_numbers}
use Rattle.transyt_variants.proofs.ValidLaws.{valid_nodes}

-- the node at a place, with a draw as its offset
abbrev pub drawn_node : Network → ℕ → ℕ → ℕ → NodeValue
drawn_node net seed first p = set_offset (draw seed (first + p) net.frame.step_count) (node_of net p)

-- a list made anew place by place, seen by what stays
pub map_places : {A B : Type 0} (h : A → B) (f : ℕ → A) (xs : List A) (d : A) (e : B)
    → ((k : ℕ) → k < length xs → h (f k) ≡ h (get_or xs k d))
    → map h (map f (range_with_len 0 (length xs))) ≡ map h xs
map_places h f xs d e each =
    let made = map f (range_with_len 0 (length xs)) in
    let count : length made ≡ length xs = length-map-range_with_len f 0 (length xs) in
    ext_get_or e (map h made) (map h xs) (length-map made h ∙ count ∙ sym (length-map xs h)) (
    λ k below.
    let inside : k < length xs = omega (arith, length-map made h, count) in
    get_or-map h made k d e (omega (arith, count))
    ∙ ap h (get_or-map-range_with_len f 0 (length xs) k k d inside (omega arith))
    ∙ each k inside
    ∙ sym (get_or-map h xs k d e inside)
    )

-- a fact at each place is one of the whole list
pub all_places : {A : Type 0} (P : A → Type 0) (f : ℕ → A) (n : ℕ) → ((k : ℕ) → k < n → P (f k))
    → (k : ℕ) (d : A) → k < length (map f (range_with_len 0 n)) → P (get_or (map f (range_with_len 0 n)) k d)
all_places P f n each k d below =
    let inside : k < n = omega (arith, length-map-range_with_len f 0 n) in
    subst P (sym (get_or-map-range_with_len f 0 n k k d inside (omega arith))) (each k inside)

-- a list of one element more
pub take_more : {A B : Type 0} (f : A → B) (xs : List A) (ys zs : List B) (i : ℕ) (d : A) (y : B) → i < length xs
    → ys ≡ map f (take i xs) → zs ≡ ys ++ y ∷ [] → y ≡ f (get_or xs i d) → zs ≡ map f (take (i + 1) xs)
take_more f xs ys zs i d y inside is more here = rw (more, is, here) (sym (map_more f xs i d inside))

-- one node more
pub node_drawn : (net : Network) (seed first place : ℕ) (before after ns : List NodeValue) (n made : NodeValue) (offset : ℕ)
    → place < length net.nodes → ns ≡ net.nodes → n ≡ get_or ns place n → made ≡ set_offset offset n
    → offset ≡ draw seed (first + place) net.frame.step_count
    → before ≡ map (drawn_node net seed first) (range_with_len 0 place) → after ≡ before ++ made ∷ []
    → after ≡ map (drawn_node net seed first) (range_with_len 0 (place + 1))
node_drawn net seed first place before after ns n made offset inside are at is drew so_far more =
    let same : n ≡ node_of net place =
    at ∙ ap (λ (xs : List NodeValue). get_or xs place n) are ∙ get_or_default net.nodes place n no_node inside in
    let here : made ≡ drawn_node net seed first place = is ∙ (λ j. set_offset (drew j) (same j)) in
    more ∙ (λ j. so_far j ++ here j ∷ [])
    ∙ sym (map-range_with_len_more (drawn_node net seed first) 0 place place (omega arith))

-- the nodes with other offsets differ in these alone
drawn_same : (net : Network) (seed first : ℕ) → map bare_node (drawn_nodes net seed first) ≡ map bare_node net.nodes
drawn_same net seed first =
    map_places bare_node (drawn_node net seed first) net.nodes no_node (bare_node no_node) (λ k inside. refl)

-- so they have their numbers
pub drawn_numbers : (net : Network) (seed first : ℕ) → node_numbers (drawn_nodes net seed first) ≡ node_numbers net.nodes
drawn_numbers net seed first = same_numbers (drawn_nodes net seed first) net.nodes (drawn_same net seed first)

-- the network with other offsets is valid
pub drawn_valid : (net : Network) (seed first : ℕ) → IsValid net
    → IsValid (with_signals net net.frame (drawn_nodes net seed first))
drawn_valid net seed first valid =
    let steps = net.frame.step_count in
    let some : 0 < steps = omega (arith, valid.sound.frame.step_count.0) in
    let f : ℕ → NodeValue = drawn_node net seed first in
    valid_nodes net (drawn_nodes net seed first) valid (drawn_same net seed first)
    (all_places (IsNode steps) f (length net.nodes) (λ k inside.
    let old : IsNode steps (node_of net k) = valid.sound.nodes k no_node inside in
    record {
      number = old.number;
      offset = mod-lt (after_draws seed (first + k + 1) / 65536) some;
      stage_count = old.stage_count;
      stages = old.stages;
    }))
    (all_places (λ (n : NodeValue). plan_fault steps n.stages ≡ None) f (length net.nodes)
    (λ k inside. valid.planned k no_node inside))

-- the start after the one at a place
pub start_after : (net : Network) (seed place : ℕ)
    → start_at net seed (place + 1) ≡ record net { nodes = drawn_nodes net seed (place * length net.nodes) }
unfolding start_at
start_after net seed place = rw (add-one place) refl

-- a start keeps all but the offsets
pub start_kept : (net : Network) (seed place : ℕ) → IsValid net → KeepsAllButOffsets net (start_at net seed place)
unfolding start_at
start_kept net seed zero valid =
    record { valid = valid; frame = refl; nodes = refl; links = refl; plan = refl }
start_kept net seed (suc i) valid =
    let first = i * length net.nodes in
    record {
      valid = drawn_valid net seed first valid;
      frame = refl;
      nodes = map_places (set_offset 0) (drawn_node net seed first) net.nodes no_node (set_offset 0 no_node) (λ k inside. refl);
      links = refl;
      plan = refl;
    }

-- so does whatever is made as a start
pub kept_start : {E : Type 0} (net : Network) (seed place : ℕ) (r : Result Network E) → IsValid net
    → IfOk r (λ made. made ≡ start_at net seed place) → IfOk r (λ made. KeepsAllButOffsets net made)
kept_start net seed place (Ok made) valid is = subst (KeepsAllButOffsets net) (sym is) (start_kept net seed place valid)
kept_start net seed place (Err e) valid is = tt
