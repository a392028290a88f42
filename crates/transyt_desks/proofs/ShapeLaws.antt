-- Turns keep the shape of the network, since a move sets an offset or a change.
use Rattle.std.proofs.Common.{ℕ, zero, suc, Bool, true, false, if◌then◌else◌, refl, ap, ◌∙◌}
use Rattle.transyt_net.specs.Parts.{Network, SameShape, shape as shape_word}
use Rattle.transyt_sweep.specs.Climb.{lowers, moved, tried_at}
use Rattle.transyt_climb.specs.declared.turn.Turn.{Turn}
use Rattle.transyt_climb.specs.declared.turn.Turn.TheVariants.{Took, Passed, Local, Budget}
use Rattle.transyt_climb.specs.Turns.{Machine, answer_of, after_answer, turned, turns}
use Rattle.transyt_climb.specs.Way.{IsRound}
use Rattle.transyt_climb.proofs.CountLaws.{shape_moved}

-- a look keeps the shape of the network
shape_looked : (net : Network) (place : ℕ) (b : Bool) → SameShape (if b then moved net place else net) net
shape_looked net place true = shape_moved net place
shape_looked net place false = refl

shape_answered : (a : Turn) (m : Machine) → SameShape (after_answer a m).session.net m.session.net
unfolding lowers tried_at moved
shape_answered (Took place edit index) m =
    shape_looked m.session.net m.counters.place (lowers m.session.net m.counters.place)
shape_answered Passed m = shape_looked m.session.net m.counters.place (lowers m.session.net m.counters.place)
shape_answered Local m = refl
shape_answered Budget m = refl

-- so do turns
shape_turns : (n : ℕ) (m : Machine) → SameShape (turns n m).session.net m.session.net
shape_turns zero m = refl
shape_turns (suc n) m = shape_turns n (turned m) ∙ shape_answered (answer_of m) m

-- and a round
pub shape_round : (before after : Machine) (count : ℕ) (last : Turn) → IsRound before after count last
    → SameShape after.session.net before.session.net
shape_round before after count last round =
    ap (λ (m : Machine). shape_word m.session.net) round.after_is ∙ shape_turns count before
