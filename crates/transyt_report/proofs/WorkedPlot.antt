-- The worked plots, computed from the definitions.
use Rattle.std.proofs.Common.{◌≡◌, [], ◌∷◌, codes, map, refl}
use Rattle.std.specs.Fmt.{digits}
use Rattle.transyt_io.specs.Forms.{filled, form_line}
use Rattle.transyt_report.specs.Plot.{field, step_line, scale_line, plot_of, three_digits}
use Rattle.transyt_report.specs.WorkedPlots.{three_steps, one_step, open_step}

-- steps in three digits
pub three_digits_are : map three_digits (117 ∷ 99 ∷ 100 ∷ []) ≡ codes "117" ∷ codes "099" ∷ codes "100" ∷ []
three_digits_are = refl

-- three steps, where GO is the greatest; a share is rounded down
pub three_are : plot_of 8 (558201 ∷ 468920 ∷ 1563415 ∷ []) (2776388 ∷ 2776388 ∷ 0 ∷ []) (2776388 ∷ 2776379 ∷ 0 ∷ [])
    ≡ three_steps
unfolding field step_line scale_line form_line filled digits
three_are = refl

-- a step of nothing
pub one_is : plot_of 1 (0 ∷ []) (0 ∷ []) (0 ∷ []) ≡ one_step
unfolding field step_line scale_line form_line filled digits
one_is = refl

-- a step whose GO is above arrivals and departures
pub open_is : plot_of 5 (2 ∷ []) (8 ∷ []) (5 ∷ []) ≡ open_step
unfolding field step_line scale_line form_line filled digits
open_is = refl
