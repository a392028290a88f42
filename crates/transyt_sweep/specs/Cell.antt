-- One link worked out from the departures that it reads: arrivals, GO, queue, departures and figures.
use Rattle.std.specs.Prelude.{ℕ, List, Option, Some, None, fold, sum}
use Rattle.transyt_profile.specs.Profile.{uniform, added, shared}
use Rattle.transyt_profile.specs.Platoon.{travel_steps, dispersed}
use Rattle.transyt_profile.specs.StopLine.{arrivals_of, queues, outs, stopped_of}
use Rattle.transyt_delay.specs.declared.terms.Terms.{Terms}
use Rattle.transyt_delay.specs.declared.terms.TermsFrame.{TermsFrame}
use Rattle.transyt_delay.specs.Figures.{figures}
use Rattle.transyt_parts.specs.declared.frame.Frame.{Frame}
use Rattle.transyt_parts.specs.declared.link.Feed.{Feed}
use Rattle.transyt_parts.specs.declared.link.GiveWay.{GiveWay}
use Rattle.transyt_parts.specs.Parts.{total_flow}
use Rattle.transyt_net.specs.Parts.{Network, link_of, perstep}
use Rattle.transyt_net.specs.Valid.{link_place}
use Rattle.transyt_stage.specs.Green.{signal, yielding}
pub use Rattle.transyt_kept.specs.Cell.{CellValue, HasSteps}

-- the part of its feeder's departures that goes on with a feed; `read` gives the departures that are read of each link
abbrev pub taken : Network → (ℕ → List ℕ) → Feed → List ℕ
taken net read f =
    shared f.flow (total_flow (link_of net (link_place net f.feeder))) (read (link_place net f.feeder))

-- the arrivals of one feed: that part, after its travel
abbrev pub brought : Network → (ℕ → List ℕ) → Feed → List ℕ
brought net read f =
    dispersed (taken net read f) (travel_steps f.cruise net.frame.step_count net.frame.cycle) net.frame.dispersion

-- the arrivals of these feeds, added to the entry flow
abbrev pub inflow_of : Network → (ℕ → List ℕ) → ℕ → List Feed → List ℕ
inflow_of net read entry feeds =
    fold (λ come f. added come (brought net read f)) (uniform net.frame.step_count (perstep net.frame entry)) feeds

-- the arrivals of the link at a place
abbrev pub inflow : Network → (ℕ → List ℕ) → ℕ → List ℕ
inflow net read l = inflow_of net read (link_of net l).entry (link_of net l).feeds

-- a link's green capacity, less the part that its rule takes off
abbrev pub under_rule : Network → (ℕ → List ℕ) → Option GiveWay → List ℕ → List ℕ
under_rule net read None green = green
under_rule net read (Some rule) green = yielding rule.percent (read (link_place net rule.other)) green

-- the GO of the link at a place
abbrev pub go : Network → (ℕ → List ℕ) → ℕ → List ℕ
go net read l = under_rule net read (link_of net l).gives_way (signal net l)

-- the numbers of a frame that the figures take
abbrev pub terms_frame : Frame → TermsFrame
terms_frame f = record {
  cycle = f.cycle;
  step_count = f.step_count;
  period = f.period;
  stop_penalty = f.stop_penalty;
}

-- the terms from which the figures of the link at a place are made
abbrev pub terms_of : Network → ℕ → List ℕ → List ℕ → Terms
terms_of net l arrivals go = record {
  arrivals = sum arrivals;
  room = sum go;
  queued = sum (queues (arrivals_of arrivals go) go);
  stopped = stopped_of (arrivals_of arrivals go) (queues (arrivals_of arrivals go) go);
  frame = terms_frame net.frame;
  weights = (link_of net l).weights;
}

-- the link at a place, worked out of arrivals and GO
abbrev pub cell_of : Network → ℕ → List ℕ → List ℕ → CellValue
cell_of net l arrivals go = record {
  arrivals = arrivals;
  go = go;
  queue = queues (arrivals_of arrivals go) go;
  out = outs (arrivals_of arrivals go) go;
  figures = figures (terms_of net l arrivals go);
}

-- the link at a place, worked out of the departures that it reads
abbrev pub cell_by : Network → (ℕ → List ℕ) → ℕ → CellValue
cell_by net read l = cell_of net l (inflow net read l) (go net read l)
