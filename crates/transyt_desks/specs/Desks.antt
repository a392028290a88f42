-- Desks: sessions that try candidates for one climb, desk 0 first.
use Rattle.std.specs.Prelude.{◌≡◌, ◌≢◌, ℕ, ◌-◌, ◌<◌, ◌≤◌, List, [], ◌∷◌, map, length, drop, None, replicate}
use Rattle.std.specs.Prelude.{slice_index_or, slice_set}
use Rattle.transyt_parts.specs.declared.frame.Frame.{Frame}
use Rattle.transyt_net.specs.Parts.{network_of, SameShape}
use Rattle.transyt_session.specs.declared.answers.Tried.TheVariants.{Barred}
use Rattle.transyt_session.specs.Session.{SessionValue, opened}
use Rattle.transyt_desks.specs.declared.desk.Desk.{Desk}

-- the session at a place that has none
abbrev pub no_session : SessionValue
no_session =
    let none : Frame = record { cycle = 0; step_count = 0; sweeps = 0; period = 0; stop_penalty = 0; dispersion = 0 } in
    opened (network_of none [] [] None)

-- the session of the desk at a place
abbrev pub session_at : List SessionValue → ℕ → SessionValue
session_at sessions k = slice_index_or sessions k no_session

-- the session of desk 0
abbrev pub desk_zero : List SessionValue → SessionValue
desk_zero sessions = session_at sessions 0

-- desks with another session at desk 0
abbrev pub with_zero : List SessionValue → SessionValue → List SessionValue
with_zero sessions session = slice_set sessions 0 session

-- a session and its twins at so many desks in all
abbrev pub opened_desks : SessionValue → ℕ → List SessionValue
opened_desks session workers = session ∷ replicate (workers - 1) (opened session.net)

-- every desk stands for the network of desk 0
pub record AreAligned (sessions : List SessionValue) : Type 0 where
  pub same : (k : ℕ) → k < length sessions → (session_at sessions k).net ≡ (desk_zero sessions).net

-- every desk's network has the shape of that of desk 0
pub record AreAlike (sessions : List SessionValue) : Type 0 where
  pub shape : (k : ℕ) → k < length sessions → SameShape (session_at sessions k).net (desk_zero sessions).net

-- the invariant of desks, of desk 0 and of those who try beside it, the crew: the others of the desks, and one session more
-- before them. With one desk there is no crew. None of the crew has a trial, their networks have one shape, and the first of
-- them, as many as are known to follow, stand for the network of desk 0. No public clause cites it.
pub record AreDesks (zero : SessionValue) (crew : List SessionValue) (in_step : ℕ) : Type 0 where
  pub few : length crew ≤ 8
  pub several : length crew ≢ 1
  pub closed : (k : ℕ) → k < length crew → (session_at crew k).before ≡ None
  pub shapes : (k : ℕ) → k < length crew → SameShape (session_at crew k).net (session_at crew 1).net
  pub known : (k : ℕ) → k < in_step → k < length crew → (session_at crew k).net ≡ zero.net

-- desks by desk 0 and their crew
abbrev pub desks_of : SessionValue → List SessionValue → List SessionValue
desks_of zero crew = zero ∷ drop 1 crew

-- the sessions of desks
abbrev pub sessions_of : List Desk → List SessionValue
sessions_of desks = map (λ d. d.session) desks

-- a new desk with a session
abbrev pub new_desk : SessionValue → Desk
new_desk session = record { session = session; results = record { tries = replicate 64 Barred; passed = 0; made = None } }

-- the desk at a place that has none
abbrev pub no_desk : Desk
no_desk = new_desk no_session
