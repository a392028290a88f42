-- The claims on as many bytes as an input may have, and on one more.
use Rattle.std.proofs.Common.{◌≡◌, ◌∙◌, ℕ, List, [], ◌∷◌, None, Some, length, take, refl, sym, subst, arith}
use Rattle.std.proofs.lemmas.List.{length-take-le}
use Rattle.transyt_outcome.specs.declared.ending.Ending.TheVariants.{Stopped}
use Rattle.transyt_outcome.proofs.limits.worked_limits.Goals as goal

-- the bytes before one too many
before : (bytes : List ℕ) → length bytes ≡ 4194305 → length (take 4194304 bytes) ≡ 4194304
before bytes size = length-take-le 4194304 bytes (omega arith)

pub returns-clause-long : goal.returns-clause-long
returns-clause-long c bytes size =
    let b = before bytes size in
    record { many = size; cut_off = record { out_is = rw b refl; open_yet = rw b refl } }

pub returns-clause-other_text : goal.returns-clause-other_text
returns-clause-other_text c bytes size row =
    let told : 4194305 ∷ [] ≡ length (take 4194304 bytes) ∷ [] = row.cut_off.out_is in
    let b = before bytes size in
    grind arith

pub returns-clause-headline : goal.returns-clause-headline
returns-clause-headline c bytes size h = let told = (h bytes _ refl refl (omega arith)).0 in cc

pub returns-clause-too_long : goal.returns-clause-too_long
returns-clause-too_long c bytes size h =
    let told = h bytes refl (omega arith) (rw (before bytes size) refl) in cc

pub returns-clause-too_long_ended : goal.returns-clause-too_long_ended
returns-clause-too_long_ended c bytes size input is many open_yet =
    let same : bytes ≡ input = cc in
    let P : List ℕ → Type 0 = λ l. length (take 4194304 l) ≡ 4194304 in
    let shut : None ≡ Some Stopped = sym open_yet ∙ rw (subst P same (before bytes size)) refl in
    cc
