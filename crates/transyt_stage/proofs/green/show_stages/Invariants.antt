-- The stages, one after another.
use Rattle.std.proofs.Common.{◌≡◌, ◌<◌, ℕ, if◌then◌else◌, get_or}
use Rattle.std.specs.List.{list_any, range_with_len}
use Rattle.transyt_stage.specs.Green.{shows}
use Rattle.transyt_stage.proofs.green.show_stages.Given as goal

-- a step has the value where one of the stages so far shows it
abbrev pub invariant-loop-place : goal.invariant-loop-place
invariant-loop-place g l = (i : ℕ) (d : g.row.T.Denot) → i < l.signals.step_count
    → get_or l.out i d
    ≡ (if list_any (shows l.signals.step_count l.signals.node.now l.signals.stages.now i) (range_with_len 0 l.place) then l.value
    else get_or l.initial.out i d)
