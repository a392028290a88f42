-- A link's feeds, worked out side by side, with factors that are worked out of a feed's numbers once. No public clause
-- cites it.
use Rattle.std.specs.Prelude.{◌≡◌, ℕ, List, ◌-◌, ◌*◌, ◌%◌, ◌^◌, ◌<◌, ◌≤◌, All, fold, length, slice_index_or}
use Rattle.transyt_profile.specs.Profile.{shared, added, folded}
use Rattle.transyt_profile.specs.Platoon.{travel_steps, dispersed}
use Rattle.transyt_parts.specs.declared.frame.Frame.{Frame}
use Rattle.transyt_parts.specs.declared.link.Feed.{Feed}
use Rattle.transyt_parts.specs.Parts.{total_flow}
use Rattle.transyt_net.specs.Parts.{Network, link_of}
use Rattle.transyt_net.specs.Valid.{link_place}
use Rattle.transyt_sweep.specs.declared.factors.Factors.{Factors}
use Rattle.transyt_sweep.specs.Cell.{brought}
use Rattle.transyt_sweep.specs.declared.inputs.Inputs.{Inputs}
use Rattle.transyt_sweep.specs.Reading.{read_in}

-- their travel is right for the numbers that they name, in a cycle of so many steps
pub record AreFactors (steps : ℕ) (f : Factors) : Type 0 where
  pub place : f.travel.place ≡ f.travel.time % steps
  pub time : f.travel.time ≡ travel_steps f.cruise steps f.cycle

-- the numbers that they name are a feed's, whose feeder is at this place and lets `total` vehicles per hour go
pub record Serve (frame : Frame) (feed : Feed) (place total : ℕ) (f : Factors) : Type 0 where
  pub feeder : f.feeder ≡ place
  pub flow : f.part.part ≡ feed.flow
  pub whole : f.part.whole ≡ total
  pub time : f.travel.time ≡ travel_steps feed.cruise frame.step_count frame.cycle
  pub percent : f.travel.percent ≡ frame.dispersion

-- they are those of a feed of this network
abbrev pub ServeIn : Network → Feed → Factors → Type 0
ServeIn net feed f =
    Serve net.frame feed (link_place net feed.feeder) (total_flow (link_of net (link_place net feed.feeder))) f

-- the part that goes on by them; `read` gives the departures that are read of each link
abbrev pub taken_by : (ℕ → List ℕ) → Factors → List ℕ
taken_by read f = shared f.part.part f.part.whole (read f.feeder)

-- a feed's numbers are within their limits
pub record IsSmall (f : Feed) : Type 0 where
  pub flow : f.flow ≤ 9999
  pub cruise : f.cruise ≤ 300

-- the departures that a cell reads of each link
abbrev pub read_by : Inputs → ℕ → List ℕ
read_by inputs = read_in inputs.rows.now.now inputs.sweep inputs.link

-- two turns of n steps have room for the values of so many feeds more
pub record HaveRoom (n count : ℕ) (turns : List ℕ) : Type 0 where
  pub len : length turns ≡ 2 * n
  pub small : All (λ v. v < (16 - count) * 2 ^ 44) (folded n turns)

-- this profile with the arrivals of these feeds
abbrev pub with_feeds : Network → (ℕ → List ℕ) → List ℕ → List Feed → List ℕ
with_feeds net read come feeds = fold (λ come f. added come (brought net read f)) come feeds

-- the feed that stands for none
abbrev pub no_feed : Feed
no_feed = record { feeder = 0; flow = 0; cruise = 0 }

-- the factors are right, a feed's, and name a link's place
pub record Served (net : Network) (feed : Feed) (f : Factors) : Type 0 where
  pub are : AreFactors net.frame.step_count f
  pub serve : ServeIn net feed f
  pub below : f.feeder < length net.links

-- there are so many slots, and the factors in each are right in a cycle of so many steps
pub record HaveSlots (steps count : ℕ) (slots : List Factors) : Type 0 where
  pub len : length slots ≡ count
  pub are : All (AreFactors steps) slots

-- each slot has the factors of the feed at its place
pub record AreServed (net : Network) (feeds : List Feed) (slots : List Factors) : Type 0 where
  pub same : length slots ≡ length feeds
  pub each : (i : ℕ) (none : Factors) → i < length feeds
      → Served net (slice_index_or feeds i no_feed) (slice_index_or slots i none)

-- the factors are right for the cell's steps, and name a link of its rows
pub record AreSendable (inputs : Inputs) (f : Factors) : Type 0 where
  pub are : AreFactors inputs.step_count f
  pub feeder : f.feeder < length inputs.rows.now.now.figures

-- the arrivals by these factors
abbrev pub carried : (ℕ → List ℕ) → Factors → List ℕ
carried read f = dispersed (taken_by read f) f.travel.time f.travel.percent

-- this profile with the arrivals by these factors
abbrev pub with_carried : (ℕ → List ℕ) → List ℕ → List Factors → List ℕ
with_carried read come slots = fold (λ come f. added come (carried read f)) come slots

-- so many feeds are worked out side by side
pub record IsGroup (count : ℕ) : Type 0 where
  pub some : 3 ≤ count
  pub few : count ≤ 4
