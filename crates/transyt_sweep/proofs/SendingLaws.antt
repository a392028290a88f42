-- The arrivals by factors that serve feeds.
use Rattle.std.proofs.Common.{◌≡◌, ℕ, suc, List, [], ◌∷◌, refl, ap, ◌∙◌, arith}
use Rattle.transyt_profile.specs.Profile.{shared, added}
use Rattle.transyt_profile.specs.Platoon.{dispersed}
use Rattle.transyt_parts.specs.declared.link.Feed.{Feed}
use Rattle.transyt_net.specs.Parts.{Network}
use Rattle.transyt_sweep.specs.Cell.{brought}
use Rattle.transyt_sweep.specs.Inflow.{ServeIn, AreServed, Served, carried, with_carried, with_feeds}
use Rattle.transyt_sweep.specs.declared.factors.Factors.{Factors}

-- the arrivals by factors that serve a feed are those of the feed
carried_served : (net : Network) (read : ℕ → List ℕ) (f : Feed) (factors : Factors)
    → ServeIn net f factors → carried read factors ≡ brought net read f
carried_served net read f factors serve =
    (λ j. dispersed (shared (serve.flow j) (serve.whole j) (read (serve.feeder j))) (serve.time j) (serve.percent j))

-- and the arrivals by slots that serve feeds are those of the feeds
pub with_served : (net : Network) (read : ℕ → List ℕ) (come : List ℕ) (feeds : List Feed) (slots : List Factors)
    → AreServed net feeds slots → with_carried read come slots ≡ with_feeds net read come feeds
with_served net read come [] [] served = refl
with_served net read come [] (s ∷ ss) served = absurd (omega (arith, served.same))
with_served net read come (f ∷ fs) [] served = absurd (omega (arith, served.same))
with_served net read come (f ∷ fs) (s ∷ ss) served =
    let rest : AreServed net fs ss = record {
      same = omega (arith, served.same);
      each = λ i d below. served.each (suc i) d (omega (arith, below));
    } in
    let first : Served net f s = served.each 0 s (omega arith) in
    ap (λ x. with_carried read (added come x) ss) (carried_served net read f s first.serve)
    ∙ with_served net read (added come (brought net read f)) fs ss rest
