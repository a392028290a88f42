-- The true line of a place, and what trying its move finds.
use Rattle.std.proofs.Common.{◌≡◌, ℕ, ◌+◌, ◌<◌, List, []}
use Rattle.std.proofs.Common.{◌∷◌, map, length, get_or}
use Rattle.std.proofs.Common.{Option, Some, None, Ok, Err, IfSome, IfNone, IsErrOf, IsOk, refl}
use Rattle.std.proofs.Common.{ap, ◌∙◌, arith, length-append, ◌-◌}
use Rattle.std.proofs.lemmas.List.{length-map, get_or_append_left, get_or-append_right, get_or-map}
use Rattle.std.proofs.lemmas.List.FromFn.{length-map-range_with_len, get_or-map-range_with_len}
use Rattle.transyt_net.specs.declared.edit.Edit.{Edit}
use Rattle.transyt_net.specs.declared.edit.EditFault.{EditFault}
use Rattle.transyt_net.specs.Parts.{Network}
use Rattle.transyt_net.specs.Edits.{with_edit}
use Rattle.transyt_net.specs.EditFaults.{edit_fault}
use Rattle.transyt_moves.specs.Moves.{move, move_count}
use Rattle.transyt_sweep.specs.Sweeps.{index}
use Rattle.transyt_sweep.specs.Climb.{index_with, tried_at, is_below, lowers}
use Rattle.transyt_audit.specs.Certificate.{joined, CertLine, cert_line, cert_lines, cert_texts, move_words, end_words}

-- an edit that was made has no fault, and the index with it is what trying it finds
pub tried_made : (net : Network) (place : ℕ) (e back : Edit) (x : ℕ) → e ≡ move net place
    → IfSome (edit_fault net e) (λ fault. IsErrOf {T = Edit} {E = EditFault} (Ok back) fault)
    → x ≡ index (with_edit net e) → Some x ≡ tried_at net place
unfolding tried_at
tried_made net place e back x is none found =
    by (edit_fault net e) none ∙ ap (λ e. index_with net e (edit_fault net e)) is
  where
    by : (o : Option EditFault) → IfSome o (λ fault. IsErrOf {T = Edit} {E = EditFault} (Ok back) fault)
        → Some x ≡ index_with net e o
    by None h = ap Some found
    by (Some fault) h = absurd (cc)

-- one that was refused has a fault
pub tried_refused : (net : Network) (place : ℕ) (e : Edit) (why : EditFault) → e ≡ move net place
    → IfNone (edit_fault net e) (IsOk {T = Edit} {E = EditFault} (Err why)) → None ≡ tried_at net place
unfolding tried_at
tried_refused net place e why is some = by (edit_fault net e) some
    ∙ ap (λ e. index_with net e (edit_fault net e)) is
  where
    by : (o : Option EditFault) → IfNone o (IsOk {T = Edit} {E = EditFault} (Err why)) → None ≡ index_with net e o
    by None h = absurd (cc)
    by (Some fault) h = refl

-- a move lowers the index where what trying it finds is below it
pub lowers_is : (net : Network) (place : ℕ) → is_below (index net) (tried_at net place) ≡ lowers net place
unfolding lowers
lowers_is net place = refl

-- how many lines of places there are
pub length-cert_lines : (net : Network) → length (cert_lines net) ≡ move_count net
length-cert_lines net =
    length-map-range_with_len (cert_line net) 0 (move_count net)

abbrev texts : Network → List (List ℕ)
texts net = map (λ l. joined (move_words l)) (cert_lines net)

length-texts : (net : Network) → length (texts net) ≡ move_count net
length-texts net = length-map (cert_lines net) (λ l. joined (move_words l)) ∙ length-cert_lines net

-- and one line more
pub length-cert_texts : (net : Network) → length (cert_texts net) ≡ move_count net + 1
length-cert_texts net =
    omega (arith, length-texts net, length-append (texts net) (joined (end_words (move_count net) (index net)) ∷ []))

-- the line of a place
pub line_at : (net : Network) (place : ℕ) (d : CertLine) → place < move_count net
    → get_or (cert_lines net) place d ≡ cert_line net place
line_at net place d inside =
    get_or-map-range_with_len (cert_line net) 0 (move_count net) place place d inside (omega arith)

-- its text
pub text_at : (net : Network) (place : ℕ) → place < move_count net
    → get_or (cert_texts net) place [] ≡ joined (move_words (cert_line net place))
text_at net place inside =
    get_or_append_left (texts net) (joined (end_words (move_count net) (index net)) ∷ []) [] place
    (omega (arith, length-texts net, inside))
    ∙ get_or-map (λ l. joined (move_words l)) (cert_lines net) place (cert_line net 0) []
    (omega (arith, length-cert_lines net, inside))
    ∙ ap (λ l. joined (move_words l)) (line_at net place (cert_line net 0) inside)

-- the text of the last line
pub text_last : (net : Network) (place : ℕ) → place ≡ move_count net
    → get_or (cert_texts net) place [] ≡ joined (end_words (move_count net) (index net))
text_last net place at =
    let first : place - move_count net ≡ 0 = omega (arith, at) in
    get_or-append_right (texts net) (joined (end_words (move_count net) (index net)) ∷ []) (move_count net) place []
    (length-texts net) (omega (arith, at))
    ∙ ap (λ p. get_or (joined (end_words (move_count net) (index net)) ∷ []) p []) first
