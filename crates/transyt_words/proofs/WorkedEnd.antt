-- The answer of a climb that betters its network.
use Rattle.std.proofs.Common.{◌≡◌, [], ◌∷◌, Some, ap, ◌∙◌}
use Rattle.transyt_words.specs.Answer.{with_deck}
use Rattle.transyt_climbs.specs.declared.row.NetworkRow.TheVariants as row
use Rattle.transyt_climbs.specs.WorkedClimbs.{junction}
use Rattle.transyt_climbs.proofs.WorkedRow.{row_is_worked, end_is_worked}
use Rattle.transyt_words.specs.declared.table.Numbered.TheVariants.{Cycles}
use Rattle.transyt_words.specs.Plans.{answer_by, plans_answer}
use Rattle.transyt_words.specs.WorkedPlans.{two_plan_lines, two_plans, unlinked}

pub deck_is_the_end : plans_answer Cycles two_plans unlinked ≡ with_deck two_plan_lines (Some (junction 0))
deck_is_the_end =
    ap (λ c. answer_by Cycles two_plans unlinked (row.NoPlan 17 ∷ row.Climbed c ∷ [])) (row_is_worked 18)
    ∙ ap (with_deck two_plan_lines) end_is_worked
