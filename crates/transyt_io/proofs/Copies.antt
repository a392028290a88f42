-- Bytes copied from a list into the front of a buffer.
use Rattle.std.proofs.Common.{◌≡◌, ℕ, ◌+◌, ◌-◌, ◌≤◌, List, ◌++◌, length, take, drop, sym, ◌∙◌, ap, arith, length-drop}
use Rattle.std.proofs.lemmas.List.{take_at, drop-drop, take-append-drop, length-take-le}
use Rattle.std.specs.List.{between}

-- the bytes left before are those copied, and then those left now
pub left_after_copy : (bytes copy rest : List ℕ) (i n : ℕ) → copy ≡ between i (i + n) bytes → i + n ≤ length bytes
    → drop i bytes ≡ take n (copy ++ rest) ++ drop (i + n) bytes
left_after_copy bytes copy rest i n is fits =
    let left = drop i bytes in
    let size : (i + n) - i ≡ n = omega arith in
    let copied : copy ≡ take n left = is ∙ ap (λ (k : ℕ). take k left) size in
    let enough : n ≤ length left = omega (arith, length-drop i bytes) in
    let long : length copy ≡ n = ap length copied ∙ length-take-le n left enough in
    sym (take-append-drop n left)
    ∙ ap (λ (xs : List ℕ). xs ++ drop n left) (sym (take_at copy rest n long ∙ copied))
    ∙ ap (λ (xs : List ℕ). take n (copy ++ rest) ++ xs) (drop-drop n i bytes)
