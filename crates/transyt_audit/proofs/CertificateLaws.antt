-- A certificate's text, read again.
use Rattle.std.proofs.Common.{◌≡◌, ℕ, ◌≤◌, List, [], ◌∷◌, ◌++◌, map, length, Option, Some, None, refl}
use Rattle.std.proofs.Common.{ap, ◌∙◌, arith, rules, get_or, length-append, flat_map}
use Rattle.std.proofs.lemmas.List.{append-nil}
use Rattle.std.proofs.lemmas.List.Elements.{All-push, All-map}
use Rattle.std.proofs.lemmas.List.Folds.{flat_map-map}
use Rattle.std.proofs.lemmas.Grind.{flat_map-append}
use Rattle.std.specs.List.{range_with_len}
use Rattle.transyt_io.specs.Lines.{lines, words}
use Rattle.transyt_net.specs.declared.edit.Edit.{Edit}
use Rattle.transyt_net.specs.declared.edit.Edit.TheVariants.{Offset, Change}
use Rattle.transyt_net.specs.Parts.{Network}
use Rattle.transyt_moves.specs.Moves.{move_count}
use Rattle.transyt_sweep.specs.Sweeps.{index}
use Rattle.transyt_audit.specs.Certificate.{joined, CertLine, cert_line, cert_lines, cert_texts, cert_text, edit_words}
use Rattle.transyt_audit.specs.Certificate.{tried_words, move_words, end_words, place_text, last_text}
use Rattle.transyt_audit.proofs.WordTexts.{AreWords, both_words, number_word, words_joined, IsText}
use Rattle.transyt_audit.proofs.WordTexts.{joined_text, lines_texts}

-- the words of a move, of an index, of a line are words, and few
edit_are : (e : Edit) → AreWords (edit_words e) × (length (edit_words e) ≤ 4)
edit_are (Offset node offset) = search (rules, number_word)
edit_are (Change node stage change) = search (rules, number_word)
edit_are e = (tt, omega arith)

tried_are : (tried : Option ℕ) → AreWords (tried_words tried) × (length (tried_words tried) ≤ 2)
tried_are None = search rules
tried_are (Some x) = search (rules, number_word)

-- those of a place's line
pub move_are : (l : CertLine) → AreWords (move_words l) × (length (move_words l) ≤ 8)
move_are l =
    let edit = edit_are l.edit in
    let tried = tried_are l.tried in (
      (
        record { some = omega arith; few = omega arith; plain = refl },
        (number_word l.place, both_words (edit_words l.edit) (tried_words l.tried) edit.0 tried.0),
      ),
      omega (arith, edit.1, tried.1, length-append (edit_words l.edit) (tried_words l.tried)),
    )

-- and those of the last line
pub end_are : (count x : ℕ) → AreWords (end_words count x) × (length (end_words count x) ≤ 8)
end_are count x = search (rules, number_word)

-- the words of a place's line
pub words_move : (l : CertLine) → words (joined (move_words l)) ≡ move_words l
words_move l = words_joined (move_words l) (move_are l).0

-- those of the last line
pub words_end : (count x : ℕ) → words (joined (end_words count x)) ≡ end_words count x
words_end count x = words_joined (end_words count x) (end_are count x).0

-- the lines of a certificate's text
pub lines_certificate : (net : Network) → lines (cert_text net) ≡ cert_texts net
lines_certificate net =
    let ending = end_words (move_count net) (index net) in
    let are = end_are (move_count net) (index net) in
    let text = λ (l : CertLine). joined (move_words l) in
    let is_text : (l : CertLine) → IsText (text l) = λ l.
    joined_text (move_words l) (move_are l).0 (omega (arith, (move_are l).1)) in
    lines_texts (cert_texts net)
    (All-push IsText (map text (cert_lines net)) (joined ending)
    (All-map IsText text (cert_lines net) (λ i d below. is_text (get_or (cert_lines net) i d)))
    (joined_text ending are.0 (omega (arith, are.1))))

-- a certificate's text is that of each place, and then the last line
pub text_by_place : (net : Network) → cert_text net
    ≡ flat_map (place_text net) (range_with_len 0 (move_count net)) ++ last_text (move_count net) (index net)
text_by_place net =
    let ending = λ (text : List ℕ). text ++ 10 ∷ [] in
    let text = λ (l : CertLine). joined (move_words l) in
    let last = last_text (move_count net) (index net) in
    flat_map-append ending (map text (cert_lines net)) (joined (end_words (move_count net) (index net)) ∷ [])
    ∙ (λ j. flat_map-map ending text (cert_lines net) j ++ append-nil last j)
    ∙ ap (λ (front : List ℕ). front ++ last)
    (flat_map-map (λ (l : CertLine). ending (text l)) (cert_line net) (range_with_len 0 (move_count net)))
