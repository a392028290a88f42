-- The index that a try finds, and the work of a certificate.
use Rattle.std.proofs.Common.{◌≡◌, ℕ, zero, suc, ◌≤◌, Bool, true, false, Option, None, Some, nat_le}
use Rattle.std.proofs.Common.{refl, sym, subst, arith}
use Rattle.transyt_net.specs.Parts.{Network}
use Rattle.transyt_net.specs.declared.edit.Edit.{Edit}
use Rattle.transyt_track.specs.Due.{cert_work}
use Rattle.std.proofs.lemmas.Bool.{leb-true, leb-false}
use Rattle.transyt_moves.specs.Moves.{move}
use Rattle.transyt_sweep.specs.Climb.{index_with, tried_at}
use Rattle.transyt_net.specs.declared.edit.EditFault.{EditFault}
use Rattle.transyt_net.specs.EditFaults.{edit_fault}
use Rattle.transyt_session.specs.Session.{tried_with, try_of}
use Rattle.transyt_line_answers.specs.Conditions.{index_found}

-- the find of a try is the index with the edit, or none where it is barred
found_by : (net : Network) (e : Edit) (fault : Option EditFault)
    → index_found (tried_with net e fault) ≡ index_with net e fault
found_by net e None = refl
found_by net e (Some fault) = refl

-- and so of the move at a place
pub found_at_place : (net : Network) (place : ℕ) → index_found (try_of net (move net place)) ≡ tried_at net place
unfolding tried_at
found_at_place net place = found_by net (move net place) (edit_fault net (move net place))

one_more : (net : Network) (i n : ℕ) → i ≤ suc n → (b : Bool) → nat_le i n ≡ b
    → (i ≤ n → cert_work net i ≤ cert_work net n) → cert_work net i ≤ cert_work net (suc n)
one_more net i n less true is before = let so = before (leb-true i n is) in omega (arith, so)
one_more net i n less false is before =
    let past = leb-false i n is in
    let last : i ≡ suc n = omega (arith, less, past) in
    subst (λ (k : ℕ). cert_work net k ≤ cert_work net (suc n)) (sym last) (omega arith)

-- the work of a certificate only grows
pub cert_more : (net : Network) (i n : ℕ) → i ≤ n → cert_work net i ≤ cert_work net n
cert_more net i zero less =
    let none : i ≡ 0 = omega (arith, less) in subst (λ (k : ℕ). cert_work net k ≤ 0) (sym none) (omega arith)
cert_more net i (suc n) less = one_more net i n less (nat_le i n) refl (λ below. cert_more net i n below)
