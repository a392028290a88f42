-- The link or plan that an answer speaks of, and the index that a try found. No clause of the top call cites it.
use Rattle.std.specs.Prelude.{ℕ, ◌≡◌, ◌<◌, true, length, Option, None, Some, IsSome, Bool, false}
use Rattle.transyt_session.specs.Session.{SessionValue}
use Rattle.transyt_session.specs.declared.answers.Tried.{Tried}
use Rattle.transyt_session.specs.declared.answers.Tried.TheVariants.{Barred, Index}
use Rattle.transyt_report.specs.Texts.{IsOfPlace}
use Rattle.transyt_line_answers.specs.declared.answer.Answer.{Answer}
use Rattle.transyt_line_answers.specs.declared.answer.Answer.TheVariants as a

-- the session has the link of a report or a plot, and for CLIMB and CERT a plan and no open trial
abbrev pub IsOf : SessionValue → Answer → Type 0
IsOf s (a.Show what) = IsOfPlace s.net what
IsOf s (a.Plot place) = place < length s.net.links
IsOf s a.Climb = IsSome s.net.plan × (s.before ≡ None)
IsOf s a.Cert = IsSome s.net.plan × (s.before ≡ None)
IsOf s _ = Unit {0}

-- whether an answer is no more than its text: CLIMB and CERT aren't
abbrev pub is_told : Answer → Bool
is_told a.Climb = false
is_told a.Cert = false
is_told _ = true

-- the index that a try found, or none where the move is barred
abbrev pub index_found : Tried → Option ℕ
index_found Barred = None
index_found (Index index work) = Some index
