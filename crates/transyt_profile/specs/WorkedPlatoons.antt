-- Worked platoons, each with its answer. No number is neutral.
use Rattle.std.specs.Prelude.{ℕ, List, [], ◌∷◌, ◌++◌, replicate}

-- cruise times, numbers of steps and cycles, with the travel time of each; a half is rounded up
abbrev pub worked_travels : List ((ℕ × ℕ × ℕ) × ℕ)
worked_travels =
    ((30, 18, 90), 5)
    ∷ ((28, 18, 90), 4)
    ∷ ((29, 18, 90), 5)
    ∷ ((3, 10, 48), 1)
    ∷ ((300, 120, 30), 960)
    ∷ ((1, 10, 240), 0)
    ∷ ((37, 45, 90), 15)
    ∷ ((0, 18, 90), 0)
    ∷ []

-- weights, the value that sets out, the smoothed value a step before, and the smoothed value
abbrev pub worked_mixes : List ((ℕ × ℕ × ℕ) × ℕ)
worked_mixes =
    ((160, 1000003, 77777), 432479)
    ∷ ((160, 0, 161), 99)
    ∷ ((0, 9, 5), 9)
    ∷ ((7, 1, 0), 0)
    ∷ ((96000, 17, 17), 17)
    ∷ []

-- six steps that are all different
abbrev pub uneven : List ℕ
uneven = 1000003 ∷ 0 ∷ 250007 ∷ 37 ∷ 999999 ∷ 61 ∷ []

-- travel times and dispersions, with the platoon that arrives: within the cycle, past its end, no travel, no dispersion,
-- and one that spreads so far that where the smoothing begins still tells
abbrev pub worked_platoons : List ((ℕ × ℕ) × List ℕ)
worked_platoons =
    ((4, 40), 314853 ∷ 193769 ∷ 503857 ∷ 310089 ∷ 577498 ∷ 355383 ∷ [])
    ∷ ((11, 7), 296647 ∷ 270296 ∷ 117607 ∷ 616133 ∷ 268069 ∷ 681904 ∷ [])
    ∷ ((0, 40), 1000003 ∷ 0 ∷ 250007 ∷ 37 ∷ 999999 ∷ 61 ∷ [])
    ∷ ((6, 0), 1000003 ∷ 0 ∷ 250007 ∷ 37 ∷ 999999 ∷ 61 ∷ [])
    ∷ ((37, 93), 373488 ∷ 391860 ∷ 380793 ∷ 377099 ∷ 366450 ∷ 384341 ∷ [])
    ∷ []

-- all traffic in the first of ten steps
abbrev pub pulse : List ℕ
pulse = 10000000 ∷ replicate 9 0

-- travel times and dispersions, with this platoon as it arrives: within the cycle, past its end, no travel, no dispersion
abbrev pub worked_pulses : List ((ℕ × ℕ) × List ℕ)
worked_pulses =
    ((2, 35), 4861 ∷ 2001 ∷ 5883234 ∷ 2422508 ∷ 997503 ∷ 410736 ∷ 169126 ∷ 69640 ∷ 28675 ∷ 11807 ∷ [])
    ∷ (
      (12, 35),
      406747 ∷ 328526 ∷ 2245734 ∷ 1813862 ∷ 1465042 ∷ 1183303 ∷ 955744 ∷ 771947 ∷ 623495 ∷ 503592 ∷ [],
    )
    ∷ ((0, 35), pulse)
    ∷ ((12, 0), replicate 2 0 ++ 10000000 ∷ replicate 7 0)
    ∷ []

-- the value from which the smoothing of the six steps begins: their mean, 2250107 / 6, rounded down
abbrev pub uneven_start : ℕ
uneven_start = 375017
