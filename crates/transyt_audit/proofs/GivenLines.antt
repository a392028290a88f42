-- The verdict left to tell after one given line, as it was found.
use Rattle.std.proofs.Common.{◌≡◌, ℕ, ◌+◌, Bool, true, false}
use Rattle.std.proofs.Common.{List, [], ◌∷◌, get_or}
use Rattle.std.proofs.Common.{Option, Some, None, refl, ◌∙◌, inl, inr, unwrap_or}
use Rattle.std.specs.Option.{option_or}
use Rattle.std.proofs.lemmas.Bool.{cases_Bool, cases_lt, lt-ltb, le-ltb}
use Rattle.transyt_io.specs.Lines.{is_skipped}
use Rattle.transyt_syntax.specs.declared.code.Code.TheVariants as code
use Rattle.transyt_net.specs.Parts.{Network}
use Rattle.transyt_moves.specs.Moves.{move_count}
use Rattle.transyt_audit.specs.Certificate.{cert_texts}
use Rattle.transyt_audit.specs.declared.verdict.Verdict.{Verdict}
use Rattle.transyt_audit.specs.declared.verdict.Verdict.TheVariants.{No}
use Rattle.transyt_audit.specs.declared.truth.Finding.{Finding}
use Rattle.transyt_audit.specs.declared.truth.Finding.TheVariants.{Wrong, Right, Lower}
use Rattle.transyt_audit.specs.Verdict.{agrees}
use Rattle.transyt_audit.specs.Findings.{finding_of, finding_at}
use Rattle.transyt_audit.proofs.Onward.{lowers_there, onward, onward_beyond, onward_wrong, onward_right, noted}

-- the verdict left to tell after a line with this finding
abbrev pub after_line : Network → ℕ → Option ℕ → ℕ → List (List ℕ) → Finding → Verdict
after_line net place lower number rest Wrong = No number code.OtherLine
after_line net place lower number rest Right = onward net (place + 1) lower (number + 1) rest
after_line net place lower number rest Lower = onward net (place + 1) (option_or lower (Some number))
    (number + 1) rest

after_right : (net : Network) (place : ℕ) (lower : Option ℕ) (number : ℕ) (rest : List (List ℕ)) (low : Bool)
    → onward net (place + 1) (noted low number lower) (number + 1) rest
    ≡ after_line net place lower number rest (finding_of true low)
after_right net place lower number rest true = refl
after_right net place lower number rest false = refl

-- a given line, as it is found
pub onward_line : (net : Network) (place : ℕ) (lower : Option ℕ) (number : ℕ) (line : List ℕ)
    (rest : List (List ℕ))
    → is_skipped line ≡ false
    → onward net place lower number (line ∷ rest)
    ≡ after_line net place lower number rest (finding_at net place line)
onward_line net place lower number line rest kept =
    elim (cases_lt (move_count net) place) [
      | inl beyond ↦ rw (lt-ltb _ _ beyond) (onward_beyond net place lower number line rest kept beyond)
      | inr inside ↦ elim (cases_Bool (agrees line (get_or (cert_texts net) place []))) [
        | inl same ↦
            rw (le-ltb _ _ inside, same) (onward_right net place lower number line rest (lowers_there net place) kept inside same refl
            ∙ after_right net place lower number rest (lowers_there net place))
        | inr differs ↦ rw (le-ltb _ _ inside, differs) (onward_wrong net place lower number line rest kept inside differs)
      ]
    ]

-- the first finding stays
pub first_found : (lower : Option ℕ) (number : ℕ) → Some (unwrap_or lower number) ≡ option_or lower (Some number)
first_found None number = refl
first_found (Some n) number = refl
