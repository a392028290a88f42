-- Worked texts, headlines and climbs: one that is so, and one that isn't.
use Rattle.std.proofs.Common.{◌≡◌, ℕ, ◌<◌, false, List, [], ◌∷◌, Option, None, Some, length, refl, arith}
use Rattle.transyt_net.specs.Parts.{Network}
use Rattle.transyt_outcome.specs.declared.status.Status.TheVariants.{Done, DeckRefused, WriteFault, TooLong}
use Rattle.transyt_outcome.specs.Outcome.{StatusSaysOfText}
use Rattle.transyt_words.specs.Answer.{of_whole, done}
use Rattle.transyt.specs.Reports.{Descends}
use Rattle.transyt.specs.Tasks.{Reads, Writes, TaskHeadline, TaskComplete, TaskTooLong}

-- a text is written whole, or a front of it and the sink failed
pub text_whole : StatusSaysOfText (5 ∷ 7 ∷ []) false (5 ∷ 7 ∷ []) Done
text_whole = (refl, refl)

pub text_cut : StatusSaysOfText (5 ∷ 7 ∷ []) false (5 ∷ []) Done → ⊥
text_cut is = let parts : ◌≡◌ {A = List ℕ} (5 ∷ []) (5 ∷ 7 ∷ []) = is.0 in grind arith

pub text_front : StatusSaysOfText (5 ∷ 7 ∷ []) false (5 ∷ []) WriteFault
text_front = record { back = 7 ∷ []; parts = refl }

pub text_other : StatusSaysOfText (5 ∷ 7 ∷ []) false (7 ∷ []) WriteFault → ⊥
text_other is = let parts : 7 ∷ is.back ≡ 5 ∷ 7 ∷ [] = is.parts in grind arith

-- a text stands after the bytes that were held
pub headline_after : TaskHeadline (Writes (5 ∷ 7 ∷ [])) None (Some (9 ∷ [])) (Some (9 ∷ 5 ∷ 7 ∷ [])) Done
headline_after = λ held told. (grind arith, refl)

other_list : ◌≡◌ {A = Option (List ℕ)} (Some (5 ∷ 7 ∷ [])) (Some (9 ∷ 5 ∷ 7 ∷ [])) → ⊥
other_list is = grind arith

pub headline_over : TaskHeadline (Writes (5 ∷ 7 ∷ [])) None (Some (9 ∷ [])) (Some (5 ∷ 7 ∷ [])) Done → ⊥
headline_over told = other_list (told (9 ∷ []) refl).0

-- a text is no deck to refuse
pub text_complete : TaskComplete (Writes (5 ∷ 7 ∷ [])) None Done
text_complete = refl

pub text_refused : TaskComplete (Writes (5 ∷ 7 ∷ [])) None DeckRefused → ⊥
text_refused is = absurd (cc)

-- too many bytes are told to be too long
pub many_bytes : (input : List ℕ) → TaskTooLong (Reads (of_whole (λ bytes. done []))) (Some input) TooLong
many_bytes input = λ bytes told many still. refl

pub many_done : (input : List ℕ) → 4194304 < length input
    → TaskTooLong (Reads (of_whole (λ bytes. done []))) (Some input) Done → ⊥
many_done input many told = let is : Done ≡ TooLong = told input refl many refl in absurd (cc)

-- a climb that takes no look of none, and one that leaves a look out
pub no_looks : (net : Network) → Descends net 0 (record { steps = []; «local» = false; looks = []; net = net })
no_looks net = record { steps = refl; «local» = λ e. absurd (cc); spent = λ e. refl }

none_left_out : ◌≡◌ {A = ℕ} 0 1 → ⊥
none_left_out is = absurd (omega (arith, is))

pub too_few_looks : (net : Network)
    → Descends net 1 (record { steps = []; «local» = false; looks = []; net = net }) → ⊥
too_few_looks net down = none_left_out (down.spent refl)
