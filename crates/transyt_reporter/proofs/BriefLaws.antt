-- The line of a climb by its numbers.
use Rattle.std.proofs.Common.{◌≡◌, ◌∙◌, ℕ, Bool, [], ◌∷◌, length, ap}
use Rattle.transyt_net.specs.Parts.{Network}
use Rattle.transyt_sweep.specs.Sweeps.{index}
use Rattle.transyt_moves.specs.Moves.{move_count}
use Rattle.transyt_sweep.specs.Climb.{climb}
use Rattle.transyt_climb.specs.Turns.{Counters, start_at}
use Rattle.transyt_io.specs.Forms.{form_line}
use Rattle.transyt_line_answers.specs.Commands.{budget_of, climb_of}
use Rattle.transyt_reporter.specs.Brief.{brief_form, brief_text}

-- the line with these numbers is that of the network
pub brief_told : (net : Network) (local : Bool) (nodes links from took looked to : ℕ)
    → local ≡ (climb_of net).local → nodes ≡ length net.nodes → links ≡ length net.links → from ≡ index net
    → took ≡ length (climb_of net).steps → looked ≡ length (climb_of net).looks → to ≡ index (climb_of net).net
    → form_line (brief_form local) (nodes ∷ links ∷ from ∷ took ∷ looked ∷ to ∷ []) ≡ brief_text net
unfolding brief_text
brief_told net local nodes links from took looked to a b c d e f h = λ i.
    form_line (brief_form (a i)) (b i ∷ c i ∷ d i ∷ e i ∷ f i ∷ h i ∷ [])

-- the climb of a climber that begins by the network's plan
pub whole_climb : (net at : Network) (climber : Counters) → climber ≡ start_at (budget_of at.plan) (move_count at)
    → at ≡ net → climb net 0 climber.budget ≡ climb_of net
whole_climb net at climber start same =
    ap (climb net 0) (ap (λ (c : Counters). c.budget) start ∙ ap (λ (n : Network). budget_of n.plan) same)
