-- The meaning of Yes.
use Rattle.std.proofs.Common.{◌≡◌, ℕ, zero, suc, ◌+◌, ◌<◌, ◌≤◌, true, false, nat_le, nat_lt, List}
use Rattle.std.proofs.Common.{[], ◌∷◌, map, length, get_or}
use Rattle.std.proofs.Common.{Option, Some, None, refl, sym, ap, ◌∙◌, arith, cond, inl, inr}
use Rattle.std.specs.Bool.{Decides}
use Rattle.std.proofs.lemmas.Slice.Eq.{bytes_eq-Decides, slice_eq-Decides}
use Rattle.std.proofs.lemmas.Bool.{cases_Bool, leb-true, and_parts, and_from}
use Rattle.std.proofs.lemmas.List.{length-map}
use Rattle.std.proofs.lemmas.List.Elements.{All-nil, All-cons, All-head, All-tail}
use Rattle.std.proofs.Common.{All, Bool, is_some, if◌then◌else◌}
use Rattle.transyt_syntax.specs.declared.code.Code.{Code}
use Rattle.transyt_syntax.specs.declared.code.Code.TheVariants as code
use Rattle.std.proofs.lemmas.Bool.Decides.{nat_tests}
use Rattle.transyt_io.specs.Lines.{lines, words}
use Rattle.transyt_net.specs.Parts.{Network}
use Rattle.transyt_moves.specs.Moves.{move_count}
use Rattle.transyt_sweep.specs.Sweeps.{index}
use Rattle.transyt_sweep.specs.Climb.{is_below}
use Rattle.transyt_audit.specs.Certificate.{CertLine, cert_line, cert_lines, cert_text}
use Rattle.transyt_audit.proofs.CertificateLaws.{lines_certificate}
use Rattle.transyt_audit.specs.declared.verdict.Verdict.{Verdict}
use Rattle.transyt_audit.specs.declared.verdict.Verdict.TheVariants.{Yes, No}
use Rattle.transyt_audit.specs.Verdict.{Given, given_from, same_words, agrees, first_wrong, first_missing, first_lower}
use Rattle.transyt_audit.specs.Verdict.{no_or, judged, verdict, IsCertified}
use Rattle.transyt_audit.proofs.TrueLines.{length-cert_lines, length-cert_texts, line_at, lowers_is}

-- a line of at most 4,096 bytes
abbrev pub IsShort : Given → Type 0
IsShort g = length g.line ≤ 4096

-- Yes comes where nothing was found
none_found : (o : Option ℕ) (why : Code) (later : Verdict) (places x : ℕ) → no_or o why later ≡ Yes places x
    → (o ≡ None) × (later ≡ Yes places x)
none_found None why later places x h = (refl, h)
none_found (Some line) why later places x h = absurd (cc)

planned_yes : (b : Bool) (line : ℕ) (v : Verdict) (places x : ℕ) → (if b then v else No line code.NoPlan) ≡ Yes places x
    → (b ≡ true) × (v ≡ Yes places x)
planned_yes true line v places x h = (refl, h)
planned_yes false line v places x h = absurd (cc)

-- words are the same exactly where they are equal
same_equal : (us vs : List (List ℕ)) → Decides (same_words us vs) (us ≡ vs)
same_equal us vs = slice_eq-Decides bytes_eq-Decides us vs (same_words us vs) refl

-- where no given line is wrong and no true one missing, they agree line by line, and none is too long
all_right : (gs : List Given) (truths : List (List ℕ)) (next : ℕ) → first_wrong gs truths ≡ None
    → first_missing gs truths next ≡ None → (map (λ g. words g.line) gs ≡ map words truths) × All IsShort gs
all_right [] [] next right there = (refl, All-nil IsShort)
all_right [] (t ∷ ts) next right there =
    let more : nat_lt 0 (length (t ∷ ts)) ≡ true = grind (arith, nat_tests) in
    let never : Some next ≡ None = sym (ap (λ b. cond b (Some next) None) more) ∙ there in
    absurd (cc)
all_right (g ∷ gs) [] next right there = absurd (cc)
all_right (g ∷ gs) (t ∷ ts) next right there =
    elim (cases_Bool (agrees g.line t)) [
      | inr differs ↦ absurd (let found = rw differs at right in cc found)
      | inl is ↦
          let same = and_parts (nat_le (length g.line) 4096) (same_words (words g.line) (words t)) is in
          let few : length g.line ≤ 4096 = leb-true (length g.line) 4096 same.0 in
          let shorter : nat_lt (length (g ∷ gs)) (length (t ∷ ts)) ≡ nat_lt (length gs) (length ts) = grind (arith, nat_tests) in
          let rest = all_right gs ts next (rw is at right) (rw shorter at there) in
          ((λ j. (same_equal (words g.line) (words t)).0 same.1 j ∷ rest.0 j), All-cons IsShort g gs few rest.1)
    ]

-- then there are as many given lines as true ones
as_many : (gs : List Given) (truths : List (List ℕ)) → map (λ g. words g.line) gs ≡ map words truths
    → length gs ≡ length truths
as_many gs truths same = sym (length-map gs (λ g. words g.line)) ∙ ap length same ∙ length-map truths words

-- where none was found to be lower, none is
none_below : (x : ℕ) (gs : List Given) (ls : List CertLine) (i : ℕ) (d : CertLine) → first_lower x gs ls ≡ None
    → length ls ≤ length gs → i < length ls → is_below x (get_or ls i d).tried ≡ false
none_below x gs [] i d none enough inside = absurd (omega arith)
none_below x [] (l ∷ ls) i d none enough inside = absurd (omega arith)
none_below x (g ∷ gs) (l ∷ ls) i d none enough inside =
    elim (cases_Bool (is_below x l.tried)) [
      | inl below ↦ absurd (let found = rw below at none in cc found)
      | inr other ↦ later i inside other (λ k there. none_below x gs ls k d (rw other at none) (omega (arith, enough)) there)
    ]
  where
    later : (i : ℕ) → i < length (l ∷ ls) → is_below x l.tried ≡ false
        → ((k : ℕ) → k < length ls → is_below x (get_or ls k d).tried ≡ false) → is_below x (get_or (l ∷ ls) i d).tried ≡ false
    later zero inside other more = other
    later (suc i) inside other more = more i (omega (arith, inside))

-- Yes proves that no listed move lowers the index
pub yes_certifies : (net : Network) (table : List ℕ) (line places x : ℕ) → verdict net table line ≡ Yes places x
    → IsCertified net table line places x
yes_certifies net table line places x is =
    let given = given_from (line + 1) (lines table) in
    let truths = lines (cert_text net) in
    let next = line + 1 + length (lines table) in
    let (planned, later) = planned_yes (is_some net.plan) line (judged net given next) places x is in
    let right = none_found (first_wrong given truths) code.OtherLine _ places x later in
    let there = none_found (first_missing given truths next) code.OtherLine _ places x right.1 in
    let higher = none_found (first_lower (index net) given (cert_lines net)) code.LowerIndex
    (Yes (move_count net) (index net)) places x there.1 in
    let agree = all_right given truths next right.0 there.0 in
    record {
      planned = planned;
      short = agree.1;
      same = agree.0;
      local = λ place inside.
          sym (lowers_is net place)
          ∙ ap (λ l. is_below (index net) l.tried) (sym (line_at net place (cert_line net 0) inside))
          ∙ none_below (index net) given (cert_lines net) place (cert_line net 0) higher.0
          (omega (arith, as_many given truths agree.0, ap length (lines_certificate net), length-cert_texts net, length-cert_lines net))
          (omega (arith, inside, length-cert_lines net));
      count = cc;
      present = cc;
    }

-- a short line with the words of the true one agrees with it
agrees_from : (line truth : List ℕ) → length line ≤ 4096 → words line ≡ words truth → agrees line truth ≡ true
agrees_from line truth few same =
    let short : nat_le (length line) 4096 ≡ true = grind (arith, nat_tests) in
    and_from (nat_le (length line) 4096) (same_words (words line) (words truth)) short
    ((same_equal (words line) (words truth)).1 same)

-- lines that have the true words are not wrong
right_from : (gs : List Given) (truths : List (List ℕ)) → All IsShort gs
    → map (λ g. words g.line) gs ≡ map words truths → first_wrong gs truths ≡ None
right_from [] truths short same = refl
right_from (g ∷ gs) [] short same = absurd (cc)
right_from (g ∷ gs) (t ∷ ts) short same =
    let here : words g.line ≡ words t = cc in
    let rest : map (λ g. words g.line) gs ≡ map words ts = cc in
    rw (agrees_from g.line t (All-head IsShort g gs short) here) (right_from gs ts (All-tail IsShort g gs short) rest)

-- and where they are as many as the true ones, none is missing
there_from : (gs : List Given) (truths : List (List ℕ)) (next : ℕ) → length gs ≡ length truths
    → first_missing gs truths next ≡ None
there_from gs truths next same =
    let none : nat_lt (length gs) (length truths) ≡ false = grind (arith, nat_tests, same) in
    rw none

-- where no index is lower none is found
higher_from : (x : ℕ) (gs : List Given) (ls : List CertLine) (d : CertLine)
    → ((i : ℕ) → i < length ls → is_below x (get_or ls i d).tried ≡ false) → first_lower x gs ls ≡ None
higher_from x [] ls d none = refl
higher_from x (g ∷ gs) [] d none = refl
higher_from x (g ∷ gs) (l ∷ ls) d none =
    rw (none 0 (omega arith)) (higher_from x gs ls d (λ i inside. none (suc i) (omega (arith, inside))))

-- and what proves it is answered Yes
pub certified_yes : (net : Network) (table : List ℕ) (line places x : ℕ) → IsCertified net table line places x
    → verdict net table line ≡ Yes places x
certified_yes net table line places x c =
    let given = given_from (line + 1) (lines table) in
    let truths = lines (cert_text net) in
    let higher = higher_from (index net) given (cert_lines net) (cert_line net 0) (λ i inside.
    let here : i < move_count net = omega (arith, inside, length-cert_lines net) in
    ap (λ l. is_below (index net) l.tried) (line_at net i (cert_line net 0) here) ∙ lowers_is net i
    ∙ c.local i here) in
    rw (
      c.planned,
      right_from given truths c.short c.same,
      there_from given truths (line + 1 + length (lines table)) (as_many given truths c.same),
      higher,
      c.count,
      c.present,
    )
