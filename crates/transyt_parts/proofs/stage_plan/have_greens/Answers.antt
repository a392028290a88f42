-- The first stage with no room for its greens ends the search.
use Rattle.std.proofs.Common.{rules, sym, length}
use Rattle.transyt_parts.specs.Plan.{has_green}
use Rattle.transyt_parts.proofs.BelowLaws.{not_all_places}
use Rattle.transyt_parts.proofs.stage_plan.have_greens.Goals as goal

pub returns-then-need_at-length_at : goal.returns-then-need_at-length_at
returns-then-need_at-length_at c =
    sym (not_all_places (has_green c.args.steps c.args.stages.now) (length c.args.stages.now) c.loop-place.place
    c.loop-place-test.true (search rules))
