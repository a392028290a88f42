-- The worked texts, computed from the definitions.
use Rattle.std.proofs.Common.{◌≡◌, ◌*◌, ◌++◌, ℕ, List, [], ◌∷◌, codes, length, length-append, map, Some}
use Rattle.std.proofs.Common.{refl, sym, ◌∙◌, lit≤, arith}
use Rattle.std.specs.Fmt.{digits}
use Rattle.transyt_syntax.specs.declared.code.Code.TheVariants.{Unknown}
use Rattle.transyt_io.specs.Forms.{filled, form_line, values_text}
use Rattle.transyt_outcome.specs.Outcome.{IsFront, StatusSaysOfText}
use Rattle.transyt_outcome.specs.WorkedOutcomes.{Each}
use Rattle.transyt_outcome.specs.declared.status.Status.TheVariants.{Done}
use Rattle.transyt_words.specs.Answer.{of_whole, answer_text, done, refusal, lines_text, refused_card, with_deck}
use Rattle.transyt_words.specs.Whole.{StepsWithin, Told}
use Rattle.transyt_words.specs.WorkedTexts.{a_best_line, line_with_deck, worked_lines}
use Rattle.transyt_words.specs.WorkedPlans.{unlinked}
use Rattle.transyt_words.specs.WorkedTold.{two_lines, first_text, both_texts, told_rows, untold_rows}

-- each line has its text
pub texts : map (λ row. lines_text row.0) worked_lines ≡ map (λ row. row.1) worked_lines
unfolding form_line filled digits
texts = refl

-- the deck text follows the lines
pub deck_is : answer_text (with_deck a_best_line (Some unlinked)) ≡ line_with_deck
unfolding form_line filled digits values_text
deck_is = refl

-- a refused input is told by its line
pub refused_report : (of_whole (λ input. refusal (refused_card 7 Unknown ∷ []))).report (9 ∷ [])
    ≡ codes "CARD 7 REFUSED 17" ++ 10 ∷ []
unfolding form_line filled digits
refused_report = refl

-- all the steps that the bytes taken may add
pub all_steps : StepsWithin (λ bytes. 8 * length bytes) (Some (5 ∷ 7 ∷ 9 ∷ [])) (Some (9 ∷ [])) 40 56
all_steps = record { taken = 5 ∷ 7 ∷ []; takes = refl; within = lit≤ tt }

-- and not one more
pub one_step_more : ¬ StepsWithin (λ bytes. 8 * length bytes) (Some (5 ∷ 7 ∷ 9 ∷ [])) (Some (9 ∷ [])) 40 57
one_step_more h =
    let told : Some (5 ∷ 7 ∷ 9 ∷ []) ≡ Some (h.taken ++ 9 ∷ []) = h.takes in
    let same : 3 ≡ length (h.taken ++ 9 ∷ []) = grind arith in
    let size = length-append h.taken (9 ∷ []) in
    let within = h.within in
    omega (arith, same, size, within)

-- lines are written one after another
pub both_are : answer_text (done two_lines) ≡ both_texts
unfolding form_line filled digits
both_are = refl

-- some first bytes of both
front : (bytes back : List ℕ) → bytes ++ back ≡ both_texts → IsFront bytes (answer_text (done two_lines))
front bytes back parts = record { back = back; parts = parts ∙ sym both_are }

pub rows_told : Each (λ row. StatusSaysOfText (answer_text row.0) row.0.refused row.1 row.2) told_rows
rows_told = (
  (sym both_are, refl),
  (
    (sym both_are, refl),
    (front (codes "ENTRY 2") (codes "1 640" ++ 10 ∷ codes "* COUNTS 12 3" ++ 10 ∷ []) refl, (refl, tt)),
  ),
)

-- the first text is shorter than both
short : first_text ≡ answer_text (done two_lines) → ⊥
short is = let told : first_text ≡ both_texts = is ∙ both_are in grind arith

-- other bytes are no first bytes of both
other : ¬ IsFront (codes "ENTRY 3") (answer_text (done two_lines))
other h = let told : codes "ENTRY 3" ++ h.back ≡ both_texts = h.parts ∙ both_are in grind arith

pub rows_untold : Each (λ row. ¬ StatusSaysOfText (answer_text row.0) row.0.refused row.1 row.2) untold_rows
rows_untold = (
  λ h. let refused = h.1 in grind arith,
  (λ h. short h.0, (λ h. let refused = h.1 in grind arith, (other, (λ h. grind arith, (λ h. h, tt))))),
)

-- the bytes written before stay in front
pub told : Told (done two_lines) (Some (codes "x")) (Some (codes "x" ++ both_texts)) Done
told = record { out = both_texts; adds = refl; row = (sym both_are, refl) }

pub told_over : ¬ Told (done two_lines) (Some (codes "x")) (Some both_texts) Done
told_over h =
    let adds : Some both_texts ≡ Some (codes "x" ++ h.out) = h.adds in
    grind arith
