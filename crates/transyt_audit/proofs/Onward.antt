-- The verdict, as far as it is left to be told, while the lines are judged one after another.
use Rattle.std.proofs.Common.{◌≡◌, ℕ, ◌+◌, ◌<◌, ◌≤◌, Bool, true, false, ◌&&◌, nat_le, nat_lt}
use Rattle.std.proofs.Common.{List, [], ◌∷◌, length, drop, get_or}
use Rattle.std.proofs.Common.{Option, Some, None, refl, sym, ap, ◌∙◌, arith, if◌then◌else◌, inl, inr}
use Rattle.std.proofs.lemmas.List.{drop_more, drop_all, length-drop}
use Rattle.std.specs.Option.{option_or}
use Rattle.std.proofs.lemmas.Bool.{cases_lt}
use Rattle.std.proofs.lemmas.Bool.Decides.{nat_tests}
use Rattle.transyt_io.specs.Lines.{is_skipped}
use Rattle.transyt_syntax.specs.declared.code.Code.TheVariants as code
use Rattle.transyt_net.specs.Parts.{Network}
use Rattle.transyt_moves.specs.Moves.{move_count}
use Rattle.transyt_sweep.specs.Sweeps.{index}
use Rattle.transyt_sweep.specs.Climb.{is_below, lowers, tried_at}
use Rattle.transyt_audit.specs.Certificate.{CertLine, cert_line, cert_lines, cert_texts}
use Rattle.transyt_audit.proofs.CertificateLaws.{lines_certificate}
use Rattle.transyt_audit.proofs.TrueLines.{length-cert_texts, length-cert_lines, line_at, lowers_is}
use Rattle.transyt_audit.specs.declared.verdict.Verdict.{Verdict}
use Rattle.transyt_audit.specs.declared.verdict.Verdict.TheVariants.{Yes, No}
use Rattle.transyt_audit.specs.Verdict.{Given, given_from, agrees, first_wrong, first_missing, first_lower, no_or}
use Rattle.transyt_audit.specs.Verdict.{judged}
use Rattle.transyt_audit.specs.Findings.{concluded}

-- whether a move stands at a place that lowers the index
abbrev pub lowers_there : Network → ℕ → Bool
lowers_there net place = nat_lt place (move_count net) && lowers net place

-- the tests after that of the plan, over given lines, what they are compared with, and what was found before
abbrev pub told : Network → List Given → List (List ℕ) → List CertLine → ℕ → Option ℕ → Verdict
told net given truths ls next lower =
    no_or (first_wrong given truths) code.OtherLine
    (no_or (first_missing given truths next) code.OtherLine
    (no_or (option_or lower (first_lower (index net) given ls)) code.LowerIndex
    (Yes (move_count net) (index net))))

-- the verdict left to tell of lines from a number and a place on, where a lower move was found before or not
unfoldable pub onward : Network → ℕ → Option ℕ → ℕ → List (List ℕ) → Verdict
onward net place lower number rest =
    told net (given_from number rest) (drop place (cert_texts net)) (drop place (cert_lines net))
    (number + length rest) lower

-- from the first line on it is the verdict
pub onward_start : (net : Network) (first : ℕ) (all : List (List ℕ))
    → onward net 0 None first all ≡ judged net (given_from first all) (first + length all)
unfolding onward
onward_start net first all =
    ap (λ truths. told net (given_from first all) truths (cert_lines net) (first + length all) None)
    (sym (lines_certificate net))

-- a skipped line tells nothing
pub onward_skipped : (net : Network) (place : ℕ) (lower : Option ℕ) (number : ℕ) (line : List ℕ)
    (rest : List (List ℕ))
    → is_skipped line ≡ true → onward net place lower number (line ∷ rest)
    ≡ onward net place lower (number + 1) rest
unfolding onward
onward_skipped net place lower number line rest skipped =
    let next : number + length (line ∷ rest) ≡ number + 1 + length rest = omega arith in
    rw (skipped, next)

-- a line after the last true one is wrong
pub onward_beyond : (net : Network) (place : ℕ) (lower : Option ℕ) (number : ℕ) (line : List ℕ)
    (rest : List (List ℕ))
    → is_skipped line ≡ false → move_count net < place
    → onward net place lower number (line ∷ rest) ≡ No number code.OtherLine
unfolding onward
onward_beyond net place lower number line rest kept beyond =
    let none : drop place (cert_texts net) ≡ [] = drop_all place (cert_texts net)
    (omega (arith, length-cert_texts net)) in
    rw (kept, none)

-- the true line of a place is the first of those from it on
truth_more : (net : Network) (place : ℕ) → place ≤ move_count net
    → drop place (cert_texts net) ≡ get_or (cert_texts net) place [] ∷ drop (place + 1) (cert_texts net)
truth_more net place inside = drop_more (cert_texts net) place [] (omega (arith, length-cert_texts net))

-- a line that does not agree is wrong
pub onward_wrong : (net : Network) (place : ℕ) (lower : Option ℕ) (number : ℕ) (line : List ℕ)
    (rest : List (List ℕ))
    → is_skipped line ≡ false → place ≤ move_count net → agrees line (get_or (cert_texts net) place []) ≡ false
    → onward net place lower number (line ∷ rest) ≡ No number code.OtherLine
unfolding onward
onward_wrong net place lower number line rest kept inside differs =
    rw (kept, truth_more net place inside, differs)

-- the findings so far, with one line more
abbrev pub noted : Bool → ℕ → Option ℕ → Option ℕ
noted true number lower = option_or lower (Some number)
noted false number lower = lower

missing_less : (given : List Given) (truths : List (List ℕ)) (g : Given) (truth : List ℕ) (next : ℕ)
    → first_missing (g ∷ given) (truth ∷ truths) next ≡ first_missing given truths next
missing_less given truths g truth next =
    let same : nat_lt (length (g ∷ given)) (length (truth ∷ truths)) ≡ nat_lt (length given) (length truths) =
    grind (arith, nat_tests) in
    rw same

none_lower : (x : ℕ) (given : List Given) → first_lower x given [] ≡ None
none_lower x [] = refl
none_lower x (g ∷ gs) = refl

found_once : (lower later : Option ℕ) (number : ℕ)
    → option_or lower (Some number) ≡ option_or (option_or lower (Some number)) later
found_once None later number = refl
found_once (Some n) later number = refl

-- the findings so far and those to come, with one line more
lower_more : (net : Network) (place : ℕ) (lower : Option ℕ) (g : Given) (more : List Given) (low : Bool)
    → low ≡ lowers_there net place
    → option_or lower (first_lower (index net) (g ∷ more) (drop place (cert_lines net)))
    ≡ option_or (noted low g.number lower) (first_lower (index net) more (drop (place + 1) (cert_lines net)))
lower_more net place lower g more low is =
    elim (cases_lt place (move_count net)) [
      | inl here ↦
          let line = drop_more (cert_lines net) place (cert_line net 0) (omega (arith, length-cert_lines net)) in
          let there : nat_lt place (move_count net) ≡ true = grind (arith, nat_tests) in
          let later = first_lower (index net) more (drop (place + 1) (cert_lines net)) in
          rw (line, line_at net place (cert_line net 0) here)
          (at_line (is_below (index net) (tried_at net place)) later (is ∙ rw there (sym (lowers_is net place))))
      | inr after ↦
          let none = drop_all place (cert_lines net) (omega (arith, length-cert_lines net)) in
          let none_later = drop_all (place + 1) (cert_lines net) (omega (arith, length-cert_lines net)) in
          let nowhere : nat_lt place (move_count net) ≡ false = grind (arith, nat_tests) in
          let not_low : low ≡ false = is ∙ rw nowhere in
          rw (none, none_later, not_low, none_lower (index net) more)
    ]
  where
    at_line : (b : Bool) (later : Option ℕ) → low ≡ b
        → option_or lower (if b then Some g.number else later) ≡ option_or (noted low g.number lower) later
    at_line true later low_is = rw low_is (found_once lower later g.number)
    at_line false later low_is = rw low_is

-- a line that agrees is the true one of its place
pub onward_right : (net : Network) (place : ℕ) (lower : Option ℕ) (number : ℕ) (line : List ℕ)
    (rest : List (List ℕ)) (low : Bool)
    → is_skipped line ≡ false → place ≤ move_count net → agrees line (get_or (cert_texts net) place []) ≡ true
    → low ≡ lowers_there net place
    → onward net place lower number (line ∷ rest)
    ≡ onward net (place + 1) (noted low number lower) (number + 1) rest
unfolding onward
onward_right net place lower number line rest low kept inside same is =
    let more = given_from (number + 1) rest in
    let g : Given = record { number = number; line = line } in
    let next : number + length (line ∷ rest) ≡ number + 1 + length rest = omega arith in
    rw (
      kept,
      truth_more net place inside,
      next,
      same,
      missing_less more (drop (place + 1) (cert_texts net)) g _ _,
      lower_more net place lower g more low is,
    )

-- at the end a true line is missing, or what was found decides
pub onward_end : (net : Network) (place : ℕ) (lower : Option ℕ) (number : ℕ)
    → onward net place lower number [] ≡ concluded net place number lower
unfolding onward
onward_end net place lower number =
    let next : number + length {A = List ℕ} [] ≡ number = omega arith in
    let some : nat_lt 0 (length (drop place (cert_texts net))) ≡ nat_le place (move_count net) =
    grind (arith, nat_tests, length-drop place (cert_texts net), length-cert_texts net) in
    rw (some, next, alone lower)
  where
    alone : (o : Option ℕ) → option_or o None ≡ o
    alone None = refl
    alone (Some n) = refl
