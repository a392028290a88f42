-- A certificate's own text, audited: each of its lines is given as it is, so the moves alone decide.
use Rattle.std.proofs.Common.{◌≡◌, ℕ, ◌+◌, ◌<◌, ◌≤◌, true, false, nat_le, List, [], ◌∷◌}
use Rattle.std.proofs.Common.{map, length, is_some, All, refl, arith, get_or}
use Rattle.std.proofs.lemmas.Bool.{and_right}
use Rattle.std.proofs.lemmas.List.Elements.{All-nil, All-cons, All-head, All-tail, All-push, All-map}
use Rattle.transyt_io.specs.Lines.{is_skipped, words, lines}
use Rattle.transyt_net.specs.Parts.{Network}
use Rattle.transyt_moves.specs.Moves.{move_count}
use Rattle.transyt_sweep.specs.Sweeps.{index}
use Rattle.transyt_sweep.specs.Climb.{lowers}
use Rattle.transyt_audit.specs.Certificate.{joined, CertLine, cert_lines, cert_text, move_words, end_words}
use Rattle.transyt_audit.proofs.WordTexts.{joined_text}
use Rattle.transyt_audit.proofs.CertificateLaws.{move_are, end_are, lines_certificate}
use Rattle.transyt_audit.specs.declared.verdict.Verdict.TheVariants.{Yes}
use Rattle.transyt_audit.specs.Verdict.{Given, given_from, verdict}
use Rattle.transyt_audit.proofs.YesLaws.{IsShort, yes_certifies, certified_yes}

-- a text that is given as it is: it is not skipped, and at most 4,096 bytes long
record IsGiven (text : List ℕ) : Type 0 where
  pub kept : is_skipped text ≡ false
  pub few : length text ≤ 4096

given_same : (texts : List (List ℕ)) (number : ℕ) → All IsGiven texts
    → map (λ (g : Given). words g.line) (given_from number texts) ≡ map words texts
given_same [] number h = refl
given_same (text ∷ more) number h =
    rw ((All-head IsGiven text more h).kept, given_same more (number + 1) (All-tail IsGiven text more h))

given_short : (texts : List (List ℕ)) (number : ℕ) → All IsGiven texts → All IsShort (given_from number texts)
given_short [] number h = All-nil IsShort
given_short (text ∷ more) number h =
    let here = All-head IsGiven text more h in
    rw here.kept (All-cons IsShort (record { number = number; line = text }) (given_from (number + 1) more) here.few
    (given_short more (number + 1) (All-tail IsGiven text more h)))

-- the line of a place, whose first byte is an M
move_given : (l : CertLine) → IsGiven (joined (move_words l))
move_given l =
    let are = move_are l in
    let text = joined_text (move_words l) are.0 (omega (arith, are.1)) in
    record { kept = and_right (nat_le (length (joined (move_words l))) 4096) false refl; few = text.few }

-- the last line, whose first byte is a C
end_given : (count x : ℕ) → IsGiven (joined (end_words count x))
end_given count x =
    let are = end_are count x in
    let text = joined_text (end_words count x) are.0 (omega (arith, are.1)) in
    record { kept = and_right (nat_le (length (joined (end_words count x))) 4096) false refl; few = text.few }

texts_given : (net : Network) → All IsGiven (lines (cert_text net))
texts_given net =
    rw (lines_certificate net) (All-push IsGiven (map (λ l. joined (move_words l)) (cert_lines net))
    (joined (end_words (move_count net) (index net)))
    (All-map IsGiven (λ l. joined (move_words l)) (cert_lines net) (λ i d below. move_given (get_or (cert_lines net) i d)))
    (end_given (move_count net) (index net)))

-- the answer to a certificate's own text is Yes where no move lowers the index
pub own_yes : (net : Network) (line : ℕ) → is_some net.plan ≡ true
    → ((place : ℕ) → place < move_count net → lowers net place ≡ false)
    → verdict net (cert_text net) line ≡ Yes (move_count net) (index net)
own_yes net line planned local =
    certified_yes net (cert_text net) line (move_count net) (index net) (record {
      planned = planned;
      short = given_short (lines (cert_text net)) (line + 1) (texts_given net);
      same = given_same (lines (cert_text net)) (line + 1) (texts_given net);
      local = local;
      count = refl;
      present = refl;
    })

-- and only there
pub own_local : (net : Network) (line : ℕ) → verdict net (cert_text net) line ≡ Yes (move_count net) (index net)
    → (place : ℕ) → place < move_count net → lowers net place ≡ false
own_local net line is =
    (yes_certifies net (cert_text net) line (move_count net) (index net) is).local
