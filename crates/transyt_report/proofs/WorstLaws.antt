-- The first link with the greatest degree of saturation.
use Rattle.std.proofs.Common.{◌≡◌, ℕ, ◌+◌, ◌<◌, ◌≤◌, true, false, List, length, map, get_or, Option, Some, ap, subst, sym, ◌∙◌, arith}
use Rattle.std.specs.Prelude.{nat_le, find}
use Rattle.std.specs.List.{IsFirstMaxByKey, range_with_len, slice_get}
use Rattle.std.specs.Option.{option_map_or}
use Rattle.std.proofs.lemmas.Bool.{le-leb, lt-leb}
use Rattle.std.proofs.lemmas.List.{get_or_default}
use Rattle.std.proofs.lemmas.List.Folds.{find_at, list_all_at}
use Rattle.std.proofs.lemmas.List.FromFn.{get_or-map-range_with_len, length-map-range_with_len}
use Rattle.std.proofs.lemmas.List.Sums.{position_or_len_is, list_all-from_AllPass, best_keeps, best_takes}
use Rattle.std.proofs.lemmas.Option.{slice_get-get_or}
use Rattle.transyt_net.specs.Parts.{Network, link_of}
use Rattle.transyt_report.specs.declared.measures.LinkFigures.{LinkFigures}
use Rattle.transyt_report.specs.Measures.{degree, saturation_at, link_figures, all_link_figures, is_worst, worst_of}

-- the figures at a place are those of the link there
figures_at : (net : Network) (l : ℕ) (d : LinkFigures) → l < length net.links
    → get_or (all_link_figures net) l d ≡ link_figures net l
figures_at net l d inside =
    get_or-map-range_with_len (link_figures net) 0 (length net.links) l l d inside (omega arith)

degree_at : (net : Network) (l : ℕ) (d : LinkFigures) → l < length net.links
    → degree (get_or (all_link_figures net) l d) ≡ saturation_at net l
degree_at net l d inside = ap degree (figures_at net l d inside)

-- a link with a greater degree is the worst so far
pub worse_taken : (net : Network) (l worst : ℕ) → IsFirstMaxByKey degree (all_link_figures net) l worst
    → l < length net.links → saturation_at net worst < saturation_at net l
    → IsFirstMaxByKey degree (all_link_figures net) (l + 1) l
worse_taken net l worst is inside above =
    let before : worst < length net.links = omega (arith, is.0) in
    best_takes degree (all_link_figures net) l worst is
    (λ d. omega (arith, degree_at net worst d before, degree_at net l d inside))

-- after any other link the worst so far stays
pub worse_kept : (net : Network) (l worst : ℕ) → IsFirstMaxByKey degree (all_link_figures net) l worst
    → l < length net.links → saturation_at net l ≤ saturation_at net worst
    → IsFirstMaxByKey degree (all_link_figures net) (l + 1) worst
worse_kept net l worst is inside below =
    let before : worst < length net.links = omega (arith, is.0) in
    best_keeps degree (all_link_figures net) l worst is
    (λ d. omega (arith, degree_at net worst d before, degree_at net l d inside))

-- the first with the greatest degree is the first than which none has a greater one
found : (all : List LinkFigures) (worst : ℕ) (d : LinkFigures) → IsFirstMaxByKey degree all (length all) worst
    → find (is_worst all) all ≡ Some (get_or all worst d)
found all worst d is =
    let x : LinkFigures = get_or all worst d in
    let before : (k : ℕ) → k < worst → is_worst all (get_or all k d) ≡ false = λ k below.
    list_all_at (λ (other : LinkFigures). nat_le (degree other) (degree (get_or all k d))) all worst d is.0
    (lt-leb (degree x) (degree (get_or all k d)) (is.2 k d below)) in
    let least : (k : ℕ) (e : LinkFigures) → k < length all → nat_le (degree (get_or all k e)) (degree x) ≡ true =
    λ k e inside.
    le-leb (degree (get_or all k e)) (degree x)
    (omega (arith, is.1 k d inside, ap degree (get_or_default all k e d inside))) in
    find_at (is_worst all) all
    ∙ ap (slice_get all)
    (position_or_len_is (is_worst all) all worst d (omega (arith, is.0)) before
    (λ inside. list_all-from_AllPass (λ (other : LinkFigures). nat_le (degree other) (degree x)) all least))
    ∙ slice_get-get_or all worst d is.0

-- its card number
pub worst_is : (net : Network) (worst : ℕ)
    → IsFirstMaxByKey degree (all_link_figures net) (length net.links) worst
    → worst_of (all_link_figures net) ≡ (link_of net worst).number
worst_is net worst is =
    let all : List LinkFigures = all_link_figures net in
    let whole : length all ≡ length net.links = length-map-range_with_len (link_figures net) 0 (length net.links) in
    ap (λ (o : Option LinkFigures). option_map_or (λ (f : LinkFigures). f.link) o 0)
    (found all worst (link_figures net worst)
    (subst (λ (n : ℕ). IsFirstMaxByKey degree all n worst) (sym whole) is))
    ∙ ap (λ (f : LinkFigures). f.link) (figures_at net worst (link_figures net worst) is.0)

-- without a link there is none
pub no_worst : (net : Network) → length net.links ≡ 0 → worst_of (all_link_figures net) ≡ 0
no_worst net none = ap (λ (n : ℕ). worst_of (map (link_figures net) (range_with_len 0 n))) none
