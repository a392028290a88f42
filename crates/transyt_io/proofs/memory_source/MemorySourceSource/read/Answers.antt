-- The bytes copied are those from the place on, so what stays is what comes after them.
use Rattle.std.proofs.Common.{◌≡◌, ◌≤◌, ◌+◌, ◌-◌, List, ℕ, Some, length, drop, min, refl, ◌∙◌, sym, ap, arith, length-drop}
use Rattle.std.proofs.lemmas.List.{drop_all, drop-drop}
use Rattle.std.specs.List.{between}
use Rattle.transyt_io.specs.Memory.{Supply, given_count, next_count, supply_after}
use Rattle.transyt_io.proofs.Copies.{left_after_copy}
use Rattle.transyt_io.proofs.memory_source.MemorySourceSource.read.Goals as goal

-- a source whose bytes left are those from a place on
module _ (bytes : List ℕ) (at : ℕ) (was old : Supply) (view : was ≡ old) (left : was.left ≡ drop at bytes) where
  -- after n bytes more
  moved : (n calls : ℕ) → calls ≡ next_count was.calls
      → record was { left = drop (at + n) bytes; calls = calls; last = n } ≡ supply_after old n
  moved n calls count =
      let rest : drop (at + n) bytes ≡ drop n was.left =
      sym (drop-drop n at bytes) ∙ ap (λ (xs : List ℕ). drop n xs) (sym left) in
      (λ i. record was { left = rest i; calls = count i; last = n }) ∙ ap (λ (s : Supply). supply_after s n) view

  -- the bytes that a call gives
  given : (n room : ℕ) → n ≡ min (min was.piece room) (length bytes - at) → n ≡ given_count old room
  given n room is =
      is ∙ ap (min (min was.piece room)) (sym (ap length left ∙ length-drop at bytes))
      ∙ ap (λ (s : Supply). given_count s room) view

-- the source after the call
pub returns-clause-after : goal.returns-clause-after
returns-clause-after c =
    moved c.self.inside.bytes.items c.self.inside.at _ _ c.self.view_is refl c.min-n.result
    c.saturating_add-self-inside.result c.saturating_add-self-inside.ensures

-- as many bytes as it gives
pub returns-clause-count : goal.returns-clause-count
returns-clause-count c =
    let inside = c.self.inside in
    let size = c.len.ensures ∙ inside.bytes.ok.0 in
    given inside.bytes.items inside.at _ _ c.self.view_is refl c.min-n.result (length c.args.buf.now)
    (c.min-n.ensures ∙ (λ i. min (c.min.ensures i) (size i - inside.at)))

-- the bytes copied are those taken; none come only where none are left
pub returns-clause-bytes : goal.returns-clause-bytes
returns-clause-bytes c =
    let inside = c.self.inside in
    let bytes = inside.bytes.items in
    let n = c.min-n.result in
    let copied : c.copy_from_slice.new.self ≡ between inside.at (inside.at + n) bytes =
    c.copy_from_slice.ensures.after
    ∙ ap (λ (xs : List ℕ). between inside.at (inside.at + n) xs) c.deref-2.ensures.value in
    let fits : inside.at + n ≤ length bytes = omega arith in
    let was : c.args.self.now.left ≡ drop inside.at bytes = sym (ap (λ (s : Supply). s.left) c.self.view_is) in (
      ap Some (was ∙ left_after_copy bytes c.copy_from_slice.new.self (drop n c.args.buf.now) inside.at n copied fits),
      λ none. let past : length bytes ≤ inside.at + n = omega arith in drop_all (inside.at + n) bytes past,
    )
