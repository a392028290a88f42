-- The desks whose desk 0 was lent.
use Rattle.std.specs.Borrow.{Lends, MutBor, Fml}
use Rattle.std.specs.Prelude.{List}
use Rattle.transyt_session.specs.Session.{SessionValue}
use Rattle.transyt_session.specs.contracts.session.Session.{the_row as session_row}
use Rattle.transyt_desks.specs.Desks.{with_zero}
use Rattle.transyt_desks.specs.contracts.desks.Desks.{the_row as desks_row}

-- they end with the last session in its place at desk 0, and the others as they were
abbrev pub LendsZero : MutBor (List SessionValue) → MutBor SessionValue → Fml
LendsZero s r = Lends desks_row session_row s r (with_zero s.now)
