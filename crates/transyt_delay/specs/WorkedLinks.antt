-- Worked links, with their figures. No number is neutral.
use Rattle.std.specs.Prelude.{List, [], ◌∷◌}
use Rattle.transyt_parts.specs.Made.{new_weights}
use Rattle.transyt_delay.specs.declared.terms.Terms.{Terms}
use Rattle.transyt_delay.specs.declared.figures.Figures.{Figures}

-- a link with fewer vehicles than can go
abbrev pub usual : Terms
usual = record {
  arrivals = 1733021;
  room = 4310007;
  queued = 97000013;
  stopped = 1619003;
  frame = record { cycle = 90; step_count = 18; period = 45; stop_penalty = 37 };
  weights = new_weights 3 2;
}

-- the same where a stop weighs most
abbrev pub great_penalty : Terms
great_penalty = record usual { frame = record usual.frame { stop_penalty = 9999 } }

-- the same over 15 minutes
abbrev pub short_period : Terms
short_period = record usual { frame = record usual.frame { period = 15 } }

-- a link with more vehicles than can go
abbrev pub oversaturated : Terms
oversaturated =
    record usual { arrivals = 4310007; room = 1733021; stopped = 1733019; weights = new_weights 5 7 }

-- these links, each with its figures
abbrev pub worked : List (Terms × Figures)
worked =
    (usual, record { uniform = 5388889; random = 333374; stops = 17988; index = 17180100 })
    ∷ (great_penalty, record { uniform = 5388889; random = 333374; stops = 17988; index = 20764029 })
    ∷ (short_period, record { uniform = 5388889; random = 327904; stops = 17988; index = 17163690 })
    ∷ (oversaturated, record { uniform = 5388889; random = 39473691; stops = 19255; index = 224362770 })
    ∷ []
