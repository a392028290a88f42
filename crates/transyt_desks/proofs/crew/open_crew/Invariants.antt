-- The twins so far.
use Rattle.std.proofs.Common.{◌≡◌, replicate}
use Rattle.transyt_session.specs.Session.{opened}
use Rattle.transyt_desks.specs.Desks.{sessions_of}
use Rattle.transyt_desks.proofs.crew.open_crew.Given as goal

-- as many as were made
abbrev pub invariant-loop-made : goal.invariant-loop-made
invariant-loop-made l = sessions_of l.crew.items ≡ replicate l.made (opened l.fn.session.net)
