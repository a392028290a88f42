-- The first of the greatest so far, or the next where it is greater, is that up to it.
use Rattle.std.specs.List.{IsFirstMaxByKey}
use Rattle.transyt_report.specs.Measures.{degree, all_link_figures}
use Rattle.transyt_report.proofs.totals.worst_place.Given as goal

-- the first of the links so far with the greatest degree of saturation
abbrev pub invariant-loop-link : goal.invariant-loop-link
invariant-loop-link l =
    IsFirstMaxByKey degree (all_link_figures l.session.net) l.link l.worst
