-- The figures of links and of the network in the units of an engineer, and the text of FIGURES.
use Rattle.std.specs.Prelude.{ℕ, ◌+◌, ◌*◌, ◌/◌, ◌==◌, nat_eq, nat_le, min, max, Bool, List, length, map, fold, find}
use Rattle.std.specs.Prelude.{sum, sum_by, if◌then◌else◌, [], ◌∷◌, ◌++◌, codes, flat_map}
use Rattle.std.specs.Option.{option_map_or}
use Rattle.std.specs.List.{range_with_len, list_all}
use Rattle.transyt_parts.specs.declared.link.Feed.{Feed}
use Rattle.transyt_parts.specs.Parts.{LinkValue, total_flow}
use Rattle.transyt_net.specs.Parts.{Network, link_of}
use Rattle.transyt_sweep.specs.Sweeps.{evaluated, index}
use Rattle.transyt_report.specs.declared.measures.LinkFigures.{LinkFigures}
use Rattle.transyt_report.specs.declared.totals.NetworkFigures.{NetworkFigures}
use Rattle.transyt_io.specs.Forms.{form_line}

-- the greatest of a number and these values
abbrev pub greatest : ℕ → List ℕ → ℕ
greatest least values = fold max least values

-- the flow of a feed from the link of a card number, in vehicles per hour; 0 for a feed from another link
abbrev pub feed_flow : ℕ → Feed → ℕ
feed_flow number f = if nat_eq number f.feeder then f.flow else 0

-- the flow of a link's feeds from the link of a card number
abbrev pub flow_from : ℕ → LinkValue → ℕ
flow_from number l = sum_by (feed_flow number) l.feeds

-- the flow that all feeds, whichever link they are of, have from the link of a card number, in vehicles per hour
abbrev pub flow_sent : List LinkValue → ℕ → ℕ
flow_sent links number = sum_by (flow_from number) links

-- the degree of saturation in thousandths, rounded down, at most 999,999: arrivals over GO; 0 without arrivals
abbrev pub degree_of_saturation : ℕ → ℕ → ℕ
degree_of_saturation arrivals go =
    if arrivals == 0 then 0 else if go == 0 then 999999 else min (1000 * arrivals / go) 999999

-- The mean delay of a vehicle in tenths of a second, rounded down; 0 without arrivals. By Little's law it is the number
-- of waiting vehicles over the arrivals in a second, where `arrivals` are those in a cycle of so many seconds.
abbrev pub mean_delay : ℕ → ℕ → ℕ → ℕ
mean_delay cycle waiting arrivals = if arrivals == 0 then 0 else 10 * cycle * waiting / arrivals

-- the vehicles that stop, in thousandths of those that arrive, rounded down, by the stops in a second and the arrivals
-- in a cycle of so many seconds; 0 without arrivals
abbrev pub part_stopped : ℕ → ℕ → ℕ → ℕ
part_stopped cycle stops arrivals = if arrivals == 0 then 0 else 1000 * cycle * stops / arrivals

-- the arrivals at link l in a cycle, before the cut, in millionths of a vehicle
abbrev pub all_arrivals : Network → ℕ → ℕ
all_arrivals net l = sum (evaluated net l).arrivals

-- the GO of link l in a cycle, after the give-way rule, in millionths of a vehicle
abbrev pub all_go : Network → ℕ → ℕ
all_go net l = sum (evaluated net l).go

-- the degree of saturation of link l
abbrev pub saturation_at : Network → ℕ → ℕ
saturation_at net l = degree_of_saturation (all_arrivals net l) (all_go net l)

-- the mean number of vehicles that wait at link l, in millionths: uniform and random delay
abbrev pub waiting_at : Network → ℕ → ℕ
waiting_at net l = (evaluated net l).figures.uniform + (evaluated net l).figures.random

-- the stops at link l in a second, in millionths of a vehicle
abbrev pub stops_at : Network → ℕ → ℕ
stops_at net l = (evaluated net l).figures.stops

-- the figures of link l
abbrev pub link_figures : Network → ℕ → LinkFigures
link_figures net l = record {
  link = (link_of net l).number;
  flow = total_flow (link_of net l);
  sent = flow_sent net.links (link_of net l).number;
  saturation = saturation_at net l;
  delay = mean_delay net.frame.cycle (waiting_at net l) (all_arrivals net l);
  stopped = part_stopped net.frame.cycle (stops_at net l) (all_arrivals net l);
  queue = greatest 0 (evaluated net l).queue;
}

-- the figures of all links, in card order
abbrev pub all_link_figures : Network → List LinkFigures
all_link_figures net = map (link_figures net) (range_with_len 0 (length net.links))

-- the degree of saturation among a link's figures
abbrev pub degree : LinkFigures → ℕ
degree f = f.saturation

-- whether none of these links has a greater degree of saturation
abbrev pub is_worst : List LinkFigures → LinkFigures → Bool
is_worst all f = list_all (λ (other : LinkFigures). nat_le (degree other) (degree f)) all

-- the card number of the first link than which none has a greater degree of saturation; 0 where there is no link
abbrev pub worst_of : List LinkFigures → ℕ
worst_of all = option_map_or (λ (f : LinkFigures). f.link) (find (is_worst all) all) 0

-- the sum of a figure over all links
abbrev pub over_links : (Network → ℕ → ℕ) → Network → ℕ
over_links figure net = sum (map (figure net) (range_with_len 0 (length net.links)))

-- the figures of the network: delay and stops without weights
abbrev pub network_figures : Network → NetworkFigures
network_figures net = record {
  delay = over_links waiting_at net;
  stops = over_links stops_at net;
  index = index net;
  worst = worst_of (all_link_figures net);
}

-- the line of a link
unfoldable pub link_figures_line : LinkFigures → List ℕ
link_figures_line f =
    form_line (codes "LINK # FLOW # SENT # SATURATION # DELAY # STOPPED # QUEUE #")
    (f.link ∷ f.flow ∷ f.sent ∷ f.saturation ∷ f.delay ∷ f.stopped ∷ f.queue ∷ [])

-- the line of the link at a place
abbrev pub link_figures_at : Network → ℕ → List ℕ
link_figures_at net l = link_figures_line (link_figures net l)

-- the last line
unfoldable pub total_line : NetworkFigures → List ℕ
total_line f =
    form_line (codes "TOTAL DELAY # STOPS # INDEX # WORST #") (f.delay ∷ f.stops ∷ f.index ∷ f.worst ∷ [])

-- FIGURES: each link, then the network
abbrev pub figures_report : Network → List ℕ
figures_report net =
    flat_map (link_figures_at net) (range_with_len 0 (length net.links)) ++ total_line (network_figures net)
