-- Forms, a byte at a time, and values, one at a time.
use Rattle.std.proofs.Common.{◌≡◌, ℕ, ◌+◌, ◌<◌, ◌≤◌, List, [], ◌∷◌, ◌++◌, length, drop, get_or, sym, ap, ◌∙◌}
use Rattle.std.proofs.Common.{append_assoc}
use Rattle.std.proofs.lemmas.List.{at_drop_more, drop_all, append-nil}
use Rattle.std.specs.Fmt.{decimal}
use Rattle.transyt_io.specs.Forms.{filled, piece, numbers_after, values_text}

-- a form from a byte on: what stands for it, and the form after it
filled-drop : (form ns ms : List ℕ) (i : ℕ) → i < length form → ms ≡ numbers_after (get_or form i 0) ns
    → filled (drop i form) ns ≡ piece (get_or form i 0) ns ++ filled (drop (i + 1) form) ms
unfolding filled
filled-drop form ns ms i inside left =
    at_drop_more (λ rest. filled rest ns) form i 0 inside
    ∙ ap (λ more. piece (get_or form i 0) ns ++ filled (drop (i + 1) form) more) (sym left)

-- one byte more of a form stands after what the line held
pub form_more : (form ns ms line next all : List ℕ) (i : ℕ) → i < length form → ms ≡ numbers_after (get_or form i 0) ns
    → next ≡ line ++ piece (get_or form i 0) ns → line ++ filled (drop i form) ns ≡ all
    → next ++ filled (drop (i + 1) form) ms ≡ all
form_more form ns ms line next all i inside left put before =
    ap (λ (l : List ℕ). l ++ filled (drop (i + 1) form) ms) put
    ∙ append_assoc line (piece (get_or form i 0) ns) (filled (drop (i + 1) form) ms)
    ∙ ap (λ (l : List ℕ). line ++ l) (sym (filled-drop form ns ms i inside left))
    ∙ before

-- after the last byte of a form nothing more stands
pub form_end : (form ns line all : List ℕ) (i : ℕ) → length form ≤ i → line ++ filled (drop i form) ns ≡ all
    → line ≡ all
unfolding filled
form_end form ns line all i past before =
    sym (append-nil line) ∙ ap (λ rest. line ++ filled rest ns) (sym (drop_all i form past)) ∙ before

-- values from one on: that one, and those after it
values-drop : (values : List ℕ) (i : ℕ) → i < length values
    → values_text (drop i values) ≡ (32 ∷ decimal (get_or values i 0)) ++ values_text (drop (i + 1) values)
unfolding values_text
values-drop values i inside = at_drop_more values_text values i 0 inside

-- one value more stands after what the line held
pub values_more : (values line blank next all : List ℕ) (i : ℕ) → i < length values
    → blank ≡ line ++ 32 ∷ [] → next ≡ blank ++ decimal (get_or values i 0)
    → line ++ values_text (drop i values) ≡ all
    → next ++ values_text (drop (i + 1) values) ≡ all
values_more values line blank next all i inside space put before =
    let value = decimal (get_or values i 0) in
    let rest = values_text (drop (i + 1) values) in
    ap (λ (l : List ℕ). l ++ rest)
    (put ∙ ap (λ (l : List ℕ). l ++ value) space ∙ append_assoc line (32 ∷ []) value)
    ∙ append_assoc line (32 ∷ value) rest
    ∙ ap (λ (l : List ℕ). line ++ l) (sym (values-drop values i inside))
    ∙ before

-- after the last value nothing more stands
pub values_end : (values line all : List ℕ) (i : ℕ) → length values ≤ i → line ++ values_text (drop i values) ≡ all
    → line ≡ all
unfolding values_text
values_end values line all i past before =
    sym (append-nil line) ∙ ap (λ rest. line ++ values_text rest) (sym (drop_all i values past)) ∙ before
