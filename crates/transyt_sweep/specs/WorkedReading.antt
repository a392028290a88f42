-- Worked rows that are read and weighed: the worked rows of `transyt_kept`, as if they were of the three junctions.
use Rattle.std.specs.Prelude.{List, [], ◌∷◌}
use Rattle.transyt_delay.specs.declared.figures.Figures.{Figures}
use Rattle.transyt_kept.specs.Cell.{new_figures}

-- the figures with the second link's index by the weights of the second of the three junctions' links, 5 and 7, and
-- their 37 hundredths for a stop: 5 * (71 + 72) + 7 * 37 * 73 / 100
abbrev pub weighed : List Figures
weighed = new_figures 61 62 63 64 ∷ new_figures 71 72 73 904 ∷ []
