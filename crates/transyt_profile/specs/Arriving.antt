-- Platoons: the profile of each as it sets out, and as it arrives.
use Rattle.std.specs.Prelude.{List, ℕ, fold}
use Rattle.transyt_profile.specs.Profile.{added, shared}
use Rattle.transyt_profile.specs.Platoon.{dispersed}
use Rattle.transyt_profile.specs.declared.platoon.Platoon.{Platoon}

-- the profile of a platoon that sets out: its part of the departures of the feeding link
abbrev pub sent : Platoon → List ℕ
sent p = shared p.part.now.part p.part.now.whole p.leaving.now

-- and at the end of its travel
abbrev pub arriving : Platoon → List ℕ
arriving p = dispersed (sent p) p.travel.now.time p.travel.now.percent

-- this profile with the platoons that arrive, one after the other
abbrev pub with_arriving : List ℕ → List Platoon → List ℕ
with_arriving come platoons = fold (λ come p. added come (arriving p)) come platoons
