-- An audit: the lines that are given to it, the verdict on them, and the meaning of a Yes.
use Rattle.std.specs.Prelude.{ℕ, ◌+◌, Bool, true, false, ◌&&◌, nat_le, nat_lt, List, [], ◌∷◌, length, Option, Some}
use Rattle.std.specs.Prelude.{None, if◌then◌else◌, bytes_eq, is_some, ◌≡◌, ◌<◌, ◌≤◌, map, All}
use Rattle.std.specs.Cmp.Lexicographic.{pointwise}
use Rattle.transyt_io.specs.Lines.{is_skipped, words, lines}
use Rattle.transyt_sweep.specs.Climb.{is_below, lowers}
use Rattle.transyt_audit.specs.Certificate.{CertLine, cert_lines, cert_text}
use Rattle.transyt_syntax.specs.declared.code.Code.{Code}
use Rattle.transyt_net.specs.Parts.{Network}
use Rattle.transyt_moves.specs.Moves.{move_count}
use Rattle.transyt_sweep.specs.Sweeps.{index}
use Rattle.transyt_syntax.specs.declared.code.Code.TheVariants as code
pub use Rattle.transyt_audit.specs.declared.verdict.Verdict.{Verdict}
pub use Rattle.transyt_audit.specs.declared.verdict.Verdict.TheVariants.{Yes, No}

-- a given line, and its number
pub record Given : Type 0 where
  pub number : ℕ
  pub line : List ℕ

-- those of the lines that are not skipped; the lines are numbered from `number`, skipped ones too
abbrev pub given_from : ℕ → List (List ℕ) → List Given
given_from number [] = []
given_from number (line ∷ more) =
    if is_skipped line then given_from (number + 1) more
    else record { number = number; line = line } ∷ given_from (number + 1) more

-- whether two lists of words are the same
abbrev pub same_words : List (List ℕ) → List (List ℕ) → Bool
same_words us vs = pointwise bytes_eq us vs

-- whether a line has the words of a true one; a line longer than 4,096 bytes has not
abbrev pub agrees : List ℕ → List ℕ → Bool
agrees line truth = nat_le (length line) 4096 && same_words (words line) (words truth)

-- the number of the first given line that is not the true line of its place, or has no true line at it
abbrev pub first_wrong : List Given → List (List ℕ) → Option ℕ
first_wrong [] truths = None
first_wrong (g ∷ gs) [] = Some g.number
first_wrong (g ∷ gs) (truth ∷ truths) = if agrees g.line truth then first_wrong gs truths else Some g.number

-- where some true line has no given line: the number of the line after the table's last
abbrev pub first_missing : List Given → List (List ℕ) → ℕ → Option ℕ
first_missing given truths next = if nat_lt (length given) (length truths) then Some next else None

-- the number of the first given line at whose place a move stands that gives an index below this
abbrev pub first_lower : ℕ → List Given → List CertLine → Option ℕ
first_lower x (g ∷ gs) (l ∷ ls) = if is_below x l.tried then Some g.number else first_lower x gs ls
first_lower x gs ls = None

-- No at the line that was found, with this code; what comes later where none was
abbrev pub no_or : Option ℕ → Code → Verdict → Verdict
no_or None code later = later
no_or (Some line) code later = No line code

-- the verdict on given lines, `next` being the number of the line after the table's last
abbrev pub judged : Network → List Given → ℕ → Verdict
judged net given next =
    no_or (first_wrong given (lines (cert_text net))) code.OtherLine
    (no_or (first_missing given (lines (cert_text net)) next) code.OtherLine
    (no_or (first_lower (index net) given (cert_lines net)) code.LowerIndex
    (Yes (move_count net) (index net))))

-- the verdict on a table after a deck whose END stands on this line
abbrev pub verdict : Network → List ℕ → ℕ → Verdict
verdict net table line =
    if is_some net.plan then judged net (given_from (line + 1) (lines table)) (line + 1 + length (lines table))
    else No line code.NoPlan

-- there is a climb plan; the lines of a table that are not skipped have at most 4,096 bytes, and the words of the
-- certificate's lines, line by line; and no listed move that is allowed lowers the index
pub record IsCertified (net : Network) (table : List ℕ) (line places x : ℕ) : Type 0 where
  pub planned : is_some net.plan ≡ true
  pub short : All (λ g. length g.line ≤ 4096) (given_from (line + 1) (lines table))
  pub same : map (λ g. words g.line) (given_from (line + 1) (lines table)) ≡ map words (lines (cert_text net))
  pub local : (place : ℕ) → place < move_count net → lowers net place ≡ false
  pub count : places ≡ move_count net
  pub present : x ≡ index net
