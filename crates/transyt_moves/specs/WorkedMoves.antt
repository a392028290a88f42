-- A worked list of moves: two junctions, and sizes of 4, 1 and 7 steps.
use Rattle.std.specs.Prelude.{List, [], ◌∷◌, Some}
use Rattle.transyt_parts.specs.Made.{new_stage, new_plan}
use Rattle.transyt_net.specs.declared.edit.Edit.{Edit}
use Rattle.transyt_net.specs.declared.edit.Edit.TheVariants.{Offset, Change}
use Rattle.transyt_net.specs.Parts.{Network}

-- a network of two junctions without a link, in a cycle of 18 steps
abbrev pub two_nodes : Network
two_nodes = record {
  frame = record { cycle = 90; step_count = 18; sweeps = 3; period = 45; stop_penalty = 37; dispersion = 40 };
  nodes = record { number = 21; offset = 5; stages = new_stage 17 1 3 ∷ new_stage 8 2 4 ∷ new_stage 15 0 1 ∷ [] }
      ∷ record { number = 7; offset = 11; stages = new_stage 5 3 2 ∷ new_stage 16 1 5 ∷ [] } ∷ [];
  links = [];
  plan = Some (new_plan 250 (4 ∷ 1 ∷ 7 ∷ []));
}

-- its moves: those by 4 steps, by 1 step and by 7 steps
abbrev pub moves_of_two : List Edit
moves_of_two =
    Offset 21 9 ∷ Offset 21 1 ∷ Change 21 1 3 ∷ Change 21 1 13 ∷ Change 21 2 12 ∷ Change 21 2 4 ∷ Change 21 3 1
    ∷ Change 21 3 11 ∷ Offset 7 15 ∷ Offset 7 7 ∷ Change 7 1 9 ∷ Change 7 1 1 ∷ Change 7 2 2 ∷ Change 7 2 12
    ∷ Offset 21 6 ∷ Offset 21 4 ∷ Change 21 1 0 ∷ Change 21 1 16 ∷ Change 21 2 9 ∷ Change 21 2 7 ∷ Change 21 3 16
    ∷ Change 21 3 14 ∷ Offset 7 12 ∷ Offset 7 10 ∷ Change 7 1 6 ∷ Change 7 1 4 ∷ Change 7 2 17 ∷ Change 7 2 15
    ∷ Offset 21 12 ∷ Offset 21 16 ∷ Change 21 1 6 ∷ Change 21 1 10 ∷ Change 21 2 15 ∷ Change 21 2 1 ∷ Change 21 3 4
    ∷ Change 21 3 8 ∷ Offset 7 0 ∷ Offset 7 4 ∷ Change 7 1 12 ∷ Change 7 1 16 ∷ Change 7 2 5 ∷ Change 7 2 9 ∷ []
