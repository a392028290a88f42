-- The texts of the reports, over a network and the work so far, and the lines of a climb.
use Rattle.std.specs.Prelude.{ℕ, ◌+◌, ◌-◌, ◌%◌, ◌<◌, List, [], ◌∷◌, ◌++◌, length, codes, flat_map, Bool, true, false}
use Rattle.std.specs.Prelude.{if◌then◌else◌}
use Rattle.std.specs.List.{range_with_len}
use Rattle.transyt_delay.specs.declared.figures.Figures.{Figures}
use Rattle.transyt_parts.specs.Parts.{NodeValue}
use Rattle.transyt_parts.specs.Plan.{stage_of, length_at}
use Rattle.transyt_net.specs.Parts.{Network, node_of, link_of}
use Rattle.transyt_sweep.specs.Sweeps.{evaluated, index}
use Rattle.transyt_io.specs.Forms.{form_line, values_line}
use Rattle.transyt_report.specs.declared.showing.Report.{Report}
use Rattle.transyt_report.specs.Chart.{chart_text}
use Rattle.transyt_report.specs.Measures.{figures_report}
use Rattle.transyt_net.specs.declared.edit.Edit.{Edit}
use Rattle.transyt_net.specs.declared.edit.Edit.TheVariants.{Offset, Change}
use Rattle.transyt_report.specs.declared.showing.Report.TheVariants as r

-- the line of an index
unfoldable pub index_line : ℕ → List ℕ
index_line index = form_line (codes "INDEX #") (index ∷ [])

-- the line of a link of this number
unfoldable pub figures_line : ℕ → Figures → List ℕ
figures_line number f =
    form_line (codes "LINK # UNIFORM # RANDOM # STOPS # INDEX #")
    (number ∷ f.uniform ∷ f.random ∷ f.stops ∷ f.index ∷ [])

-- the line of the link at a place
abbrev pub link_line : Network → ℕ → List ℕ
link_line net l = figures_line (link_of net l).number (evaluated net l).figures

-- LINKS: each link, then the network's index
abbrev pub links_text : Network → List ℕ
links_text net = flat_map (link_line net) (range_with_len 0 (length net.links)) ++ index_line (index net)

-- the line of the stage at a place of a node: its change, when it comes in the network's cycle, its length, its green
unfoldable pub stage_line : ℕ → NodeValue → ℕ → List ℕ
stage_line steps n k =
    form_line (codes "STAGE # CHANGE # AT # LENGTH # INTERGREEN # GREEN # LEAST #")
    ((k + 1) ∷ (stage_of n.stages k).change ∷ (((stage_of n.stages k).change + n.offset) % steps)
    ∷ length_at steps n.stages k ∷ (stage_of n.stages k).intergreen
    ∷ (length_at steps n.stages k - (stage_of n.stages k).intergreen) ∷ (stage_of n.stages k).least ∷ [])

-- the line of a node
unfoldable pub node_line : NodeValue → List ℕ
node_line n = form_line (codes "NODE # OFFSET #") (n.number ∷ n.offset ∷ [])

-- the lines of a node and its stages
abbrev pub node_text : ℕ → NodeValue → List ℕ
node_text steps n = node_line n ++ flat_map (stage_line steps n) (range_with_len 0 (length n.stages))

-- the lines of the node at a place
abbrev pub node_text_at : Network → ℕ → List ℕ
node_text_at net p = node_text net.frame.step_count (node_of net p)

-- the last line of TIMING
unfoldable pub timing_end : List ℕ
timing_end = form_line (codes "END TIMING") []

-- TIMING: each node with its stages
abbrev pub timing_text : Network → List ℕ
timing_text net = flat_map (node_text_at net) (range_with_len 0 (length net.nodes)) ++ timing_end

-- the arrivals of the link at a place, before the cut
unfoldable pub in_line : Network → ℕ → List ℕ
in_line net l = values_line (codes "IN #") ((link_of net l).number ∷ []) (evaluated net l).arrivals

-- GO of the link at a place
unfoldable pub go_line : Network → ℕ → List ℕ
go_line net l = values_line (codes "GO #") ((link_of net l).number ∷ []) (evaluated net l).go

-- the departures of the link at a place
unfoldable pub out_line : Network → ℕ → List ℕ
out_line net l = values_line (codes "OUT #") ((link_of net l).number ∷ []) (evaluated net l).out

-- QUEUE of the link at a place
unfoldable pub queue_line : Network → ℕ → List ℕ
queue_line net l = values_line (codes "QUEUE #") ((link_of net l).number ∷ []) (evaluated net l).queue

-- PROFILE of the link at a place
abbrev pub profile_text : Network → ℕ → List ℕ
profile_text net l = in_line net l ++ (go_line net l ++ out_line net l)

-- WORK
unfoldable pub work_line : ℕ → List ℕ
work_line work = form_line (codes "WORK #") (work ∷ [])

-- the text of a report
abbrev pub report_text : Network → ℕ → Report → List ℕ
report_text net work r.Index = index_line (index net)
report_text net work r.Links = links_text net
report_text net work r.Figures = figures_report net
report_text net work r.Timing = timing_text net
report_text net work (r.Profile link) = profile_text net link
report_text net work (r.Queue link) = queue_line net link
report_text net work r.Chart = chart_text net
report_text net work r.Work = work_line work

-- the link that a report is of is a place of the network
abbrev pub IsOfPlace : Network → Report → Type 0
IsOfPlace net (r.Profile link) = link < length net.links
IsOfPlace net (r.Queue link) = link < length net.links
IsOfPlace net _ = Unit {0}

-- whether an edit is one that a climb makes: of an offset or a change
abbrev pub is_move : Edit → Bool
is_move (Offset node offset) = true
is_move (Change node stage change) = true
is_move e = false

-- the line of a step that a climb takes; another edit has none
abbrev pub took_text : ℕ → Edit → ℕ → List ℕ
took_text place (Offset node offset) index =
    form_line (codes "TOOK # OFFSET # # INDEX #") (place ∷ node ∷ offset ∷ index ∷ [])
took_text place (Change node stage change) index =
    form_line (codes "TOOK # CHANGE # # # INDEX #") (place ∷ node ∷ stage ∷ change ∷ index ∷ [])
took_text place e index = []

-- the last line of a climb: LOCAL or BUDGET, the places looked at, and the index
abbrev pub end_text : Bool → ℕ → ℕ → List ℕ
end_text local looked index =
    form_line (if local then codes "LOCAL # INDEX #" else codes "BUDGET # INDEX #") (looked ∷ index ∷ [])
