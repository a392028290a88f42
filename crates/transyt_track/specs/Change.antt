-- The room of a front, and the front that follows a change. No public clause cites it.
use Rattle.std.specs.Prelude.{◌≡◌, ℕ, length}
use Rattle.transyt_net.specs.Parts.{Network}
use Rattle.transyt_track.specs.declared.change.Change.{Change}
use Rattle.transyt_track.specs.declared.change.Front.{Front}
use Rattle.transyt_track.specs.Front.{AreAt, AreFlags, own_differs}

-- two flags for each link, and room for a value for each step
pub record HasRoom (net : Network) (front : Front) : Type 0 where
  pub own_count : length front.own_changed.items ≡ length net.links
  pub count : length front.out_changed.items ≡ length net.links
  pub steps : length front.scratch.arrivals ≡ net.frame.step_count

-- the front has come to a link at a sweep
pub record IsFront (change : Change) (sweep link : ℕ) (front : Front) : Type 0 where
  pub at : AreAt change.before.now change.after.now sweep link front.kept.now front.out_changed.items
  pub own : AreFlags (own_differs change.before.now change.after.now) (length change.after.now.links)
      front.own_changed.items
  pub steps : length front.scratch.arrivals ≡ change.after.now.frame.step_count
