-- Three junctions of two to four stages and eight links, in which no two numbers serve alike.
use Rattle.std.specs.Prelude.{List, [], ◌∷◌, Some}
use Rattle.transyt_parts.specs.declared.frame.Frame.{Frame}
use Rattle.transyt_parts.specs.Parts.{NodeValue, LinkValue}
use Rattle.transyt_parts.specs.Made.{new_stage, new_link, new_feed, new_rule, new_plan}
use Rattle.transyt_net.specs.Parts.{Network}

-- 18 steps of five seconds, three sweeps, a period of 45 minutes and 37 hundredths for a stop
abbrev pub its_frame : Frame
its_frame = record {
  cycle = 90;
  step_count = 18;
  sweeps = 3;
  period = 45;
  stop_penalty = 37;
  dispersion = 40;
}

-- its junctions, each with an offset
abbrev pub its_nodes : List NodeValue
its_nodes =
    record { number = 21; offset = 4; stages = new_stage 2 1 3 ∷ new_stage 8 2 4 ∷ new_stage 15 0 1 ∷ [] }
    ∷ record { number = 7; offset = 17; stages = new_stage 5 3 2 ∷ new_stage 16 1 5 ∷ [] }
    ∷ record {
      number = 300;
      offset = 11;
      stages = new_stage 3 1 2 ∷ new_stage 7 2 3 ∷ new_stage 12 0 1
          ∷ new_stage 14 3 4 ∷ [];
    }
    ∷ []

-- its links: one reads a later one, one feeds itself, two give way, and five have lags
abbrev pub its_links : List LinkValue
its_links =
    record (new_link 5 21 431 1733 3 2 1 2 (1 ∷ [])) {
      feeds = new_feed 8 173 38 ∷ [];
    }
    ∷ new_link 2 21 97 1619 5 7 0 1 (2 ∷ 3 ∷ [])
    ∷ new_link 9 7 613 1877 2 11 2 0 (2 ∷ [])
    ∷ record (new_link 4 7 0 1451 4 1 0 0 (1 ∷ [])) {
      feeds = new_feed 5 311 23 ∷ new_feed 2 77 61 ∷ [];
      gives_way = Some (new_rule 9 35);
    }
    ∷ record (new_link 8 300 229 1999 6 5 1 1 (1 ∷ 3 ∷ [])) {
      feeds = new_feed 9 402 47 ∷ new_feed 3 219 300 ∷ [];
    }
    ∷ new_link 3 300 877 1201 1 9 0 0 (4 ∷ [])
    ∷ record (new_link 6 300 53 1327 7 3 3 4 (2 ∷ [])) {
      feeds = new_feed 6 41 17 ∷ [];
    }
    ∷ record (new_link 11 21 151 907 9 4 0 0 (1 ∷ 2 ∷ 3 ∷ [])) {
      feeds = new_feed 4 88 9 ∷ new_feed 3 60 111 ∷ [];
      gives_way = Some (new_rule 5 150);
    }
    ∷ []

-- the three junctions
abbrev pub three_junctions : Network
three_junctions = record {
  frame = its_frame;
  nodes = its_nodes;
  links = its_links;
  plan = Some (new_plan 250 (4 ∷ 1 ∷ 7 ∷ []));
}
