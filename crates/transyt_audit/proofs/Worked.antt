-- The worked verdicts: each move's network evaluated by the root that its random delay takes, and then the lines.
use Rattle.std.proofs.Common.{◌≡◌, ℕ, ◌+◌, List, [], ◌∷◌, ◌++◌, map, sum, length, Option, Some, None}
use Rattle.std.proofs.Common.{refl, ap, ◌∙◌, lit<, lit≤, is_some, if◌then◌else◌}
use Rattle.transyt_io.specs.Lines.{lines}
use Rattle.transyt_syntax.specs.declared.code.Code.TheVariants as code
use Rattle.transyt_parts.specs.Parts.{PlanValue}
use Rattle.transyt_delay.specs.declared.figures.Figures.{Figures}
use Rattle.transyt_profile.specs.Platoon.{smoothed}
use Rattle.transyt_profile.specs.StopLine.{sum_back, greatest}
use Rattle.transyt_net.specs.Parts.{Network}
use Rattle.transyt_moves.specs.Moves.{move, move_count}
use Rattle.transyt_sweep.specs.Sweeps.{seen, out_of, evaluated, index}
use Rattle.transyt_sweep.specs.Climb.{tried_at}
use Rattle.transyt_sweep.specs.WorkedLinks.{new_figures}
use Rattle.transyt_sweep.proofs.WorkedFigures.{figures_by_root, its_terms}
use Rattle.transyt_audit.specs.Certificate.{joined, CertLine, new_line, cert_lines, move_words, end_words}
use Rattle.transyt_audit.proofs.CertificateLaws.{lines_certificate}
use Rattle.transyt_audit.specs.declared.verdict.Verdict.{Verdict}
use Rattle.transyt_audit.specs.declared.verdict.Verdict.TheVariants.{Yes, No}
use Rattle.transyt_audit.specs.Verdict.{given_from, first_wrong, first_missing, first_lower, no_or, verdict}
use Rattle.transyt_audit.specs.WorkedVerdicts.{junction, bare, other}

-- the figures of the link by the steps that its green has: 9, 7 and 5
abbrev green_9 : Figures
green_9 = new_figures 1793749 493343 73163 6915416

abbrev green_7 : Figures
green_7 = new_figures 2689582 878561 93117 10773335

abbrev green_5 : Figures
green_5 = new_figures 3751002 3593387 113070 22116838

other_is : (evaluated (junction 5 2 9) 0).figures ≡ green_7
unfolding sum_back greatest smoothed seen out_of evaluated
other_is = figures_by_root (its_terms 10774998 16848608 48412491 8380554 3 2) 185722546 (lit≤ tt) (lit< tt)

other_on : (evaluated (junction 7 2 9) 0).figures ≡ green_7
unfolding sum_back greatest smoothed seen out_of evaluated
other_on = figures_by_root (its_terms 10774998 16848608 48412491 8380554 3 2) 185722546 (lit≤ tt) (lit< tt)

other_back : (evaluated (junction 3 2 9) 0).figures ≡ green_7
unfolding sum_back greatest smoothed seen out_of evaluated
other_back = figures_by_root (its_terms 10774998 16848608 48412491 8380554 3 2) 185722546 (lit≤ tt) (lit< tt)

first_on : (evaluated (junction 5 4 9) 0).figures ≡ green_5
unfolding sum_back greatest smoothed seen out_of evaluated
first_on = figures_by_root (its_terms 10774998 12034720 67518043 10176387 3 2) 52165211 (lit≤ tt) (lit< tt)

first_back : (evaluated (junction 5 0 9) 0).figures ≡ green_9
unfolding sum_back greatest smoothed seen out_of evaluated
first_back = figures_by_root (its_terms 10774998 21662496 32287494 6584721 3 2) 328598312 (lit≤ tt) (lit< tt)

second_on : (evaluated (junction 5 2 11) 0).figures ≡ green_9
unfolding sum_back greatest smoothed seen out_of evaluated
second_on = figures_by_root (its_terms 10774998 21662496 32287494 6584721 3 2) 328598312 (lit≤ tt) (lit< tt)

second_back : (evaluated (junction 5 2 7) 0).figures ≡ green_5
unfolding sum_back greatest smoothed seen out_of evaluated
second_back = figures_by_root (its_terms 10774998 12034720 67518043 10176387 3 2) 52165211 (lit≤ tt) (lit< tt)

-- the index of a link's figures
abbrev of_link : Figures → ℕ
of_link f = sum (f.index ∷ [])

-- the lines of places, by what a try of each finds
abbrev lines_of : Network → ℕ → List (Option ℕ) → List CertLine
lines_of net place [] = []
lines_of net place (tried ∷ more) = new_line place (move net place) tried ∷ lines_of net (place + 1) more

abbrev bare_cert : List CertLine
bare_cert = lines_of bare 0 (Some 0 ∷ Some 0 ∷ Some 0 ∷ None ∷ None ∷ Some 0 ∷ [])

abbrev other_cert : List CertLine
other_cert = lines_of other 0 (Some 10773335 ∷ Some 10773335 ∷ Some 22116838 ∷ Some 6915416 ∷ Some 6915416
    ∷ Some 22116838 ∷ [])

lines_bare : cert_lines bare ≡ bare_cert
unfolding move_count tried_at move
lines_bare = refl

lines_other : cert_lines other ≡ other_cert
unfolding move_count tried_at move
lines_other = λ j. lines_of other 0 (Some (of_link (other_on j)) ∷ Some (of_link (other_back j))
    ∷ Some (of_link (first_on j)) ∷ Some (of_link (first_back j)) ∷ Some (of_link (second_on j))
    ∷ Some (of_link (second_back j)) ∷ [])

-- the verdict by the lines of the places and the index
abbrev verdict_from : Option PlanValue → List CertLine → ℕ → ℕ → List ℕ → ℕ → Verdict
verdict_from plan ls count x table line =
    let given = given_from (line + 1) (lines table) in
    let truths : List (List ℕ) = map (λ (l : CertLine). joined (move_words l)) ls ++ joined (end_words count x) ∷ [] in
    if is_some plan then no_or (first_wrong given truths) code.OtherLine
    (no_or (first_missing given truths (line + 1 + length (lines table))) code.OtherLine
    (no_or (first_lower x given ls) code.LowerIndex (Yes count x)))
    else No line code.NoPlan

verdict_by : (net : Network) (ls : List CertLine) (count x : ℕ) (table : List ℕ) (line : ℕ)
    → cert_lines net ≡ ls → move_count net ≡ count → index net ≡ x
    → verdict net table line ≡ verdict_from net.plan ls count x table line
verdict_by net ls count x table line ls_is count_is x_is =
    let given = given_from (line + 1) (lines table) in
    let next = line + 1 + length (lines table) in
    ap (λ (truths : List (List ℕ)). if is_some net.plan then no_or (first_wrong given truths) code.OtherLine
    (no_or (first_missing given truths next) code.OtherLine
    (no_or (first_lower (index net) given (cert_lines net)) code.LowerIndex
    (Yes (move_count net) (index net)))) else No line code.NoPlan) (lines_certificate net)
    ∙ (λ j. verdict_from net.plan (ls_is j) (count_is j) (x_is j) table line)

pub on_bare : (table : List ℕ) → verdict bare table 8 ≡ verdict_from bare.plan bare_cert 6 0 table 8
unfolding move_count
on_bare table = verdict_by bare bare_cert 6 0 table 8 lines_bare refl refl

pub on_other : (table : List ℕ) → verdict other table 8 ≡ verdict_from other.plan other_cert 6 10773335 table 8
unfolding move_count
on_other table = verdict_by other other_cert 6 10773335 table 8 lines_other refl (ap of_link other_is)
