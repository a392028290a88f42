-- Desks that can try the moves of a batch, and what they come to. No public clause cites it.
use Rattle.std.specs.Prelude.{◌≡◌, ℕ, ◌<◌, Bool, true, List, length, None}
use Rattle.transyt_net.specs.Parts.{Network, SameShape}
use Rattle.transyt_session.specs.Session.{SessionValue, standing_for}
use Rattle.transyt_desks.specs.declared.batch.Batch.{Batch}
use Rattle.transyt_desks.specs.declared.stretch.Stretch.{Stretch}
use Rattle.transyt_desks.specs.Desks.{session_at}
use Rattle.transyt_desks.specs.Stretches.{net_made, IsStretch}

-- a session that can come to a network: its own has the same shape, and it has no trial; where it is known to, it stands for
-- it already
pub record CanFollow (net : Network) (known : Bool) (session : SessionValue) : Type 0 where
  pub shape : SameShape session.net net
  pub closed : session.before ≡ None
  pub known_is : known ≡ true → session.net ≡ net

-- the sessions of a crew that can
abbrev pub CanAllFollow : Network → Bool → List SessionValue → Type 0
CanAllFollow net known crew = (k : ℕ) → k < length crew → CanFollow net known (session_at crew k)

-- a crew that has tried the moves of a batch as a stretch, with the session of desk 0, before and after: that has made the
-- move that lowers the index, if one does, and else all stand for its network
pub record HasTriedBatch (batch : Batch) (zero zero_new : SessionValue) (news : List SessionValue) (s : Stretch) : Type 0 where
  pub stretch : IsStretch zero.net batch.place batch.count batch.room s
  pub zero_is : zero_new ≡ standing_for (net_made s.made zero.net) zero
  pub zero_shape : SameShape zero_new.net zero.net
  pub same : s.made ≡ None → (k : ℕ) → k < length news → (session_at news k).net ≡ zero.net
  pub shapes : (k : ℕ) → k < length news → SameShape (session_at news k).net zero.net
  pub closed : (k : ℕ) → k < length news → (session_at news k).before ≡ None

-- a crew that stands for a network, without a trial
pub record AreStanding (net : Network) (crew : List SessionValue) : Type 0 where
  pub nets : (k : ℕ) → k < length crew → (session_at crew k).net ≡ net
  pub closed : (k : ℕ) → k < length crew → (session_at crew k).before ≡ None
