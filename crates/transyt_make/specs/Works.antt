-- A town under work, by how far it has come. No public clause cites these.
use Rattle.std.specs.Prelude.{ℕ, ◌+◌, ◌*◌, ◌≡◌, true, []}
use Rattle.transyt_net.specs.Parts.{Network}
use Rattle.transyt_net.specs.Valid.{is_among, link_numbers}
use Rattle.transyt_make.specs.declared.town.Town.{Town}
use Rattle.transyt_make.specs.declared.works.Works.{Works}
use Rattle.transyt_make.specs.Made.{unplanned, with_links, with_feeds, draws_by}

-- a town with its first k nodes, by two draws each
abbrev pub node_works : Town → ℕ → Works
node_works town k = record {
  town = town;
  draws = record { seed = town.seed; taken = 2 * k };
  draft = unplanned town.seed k [];
}

-- a town with all its nodes and its first k links without their feeds, by one draw each
abbrev pub link_works : Town → ℕ → Works
link_works town k = record {
  town = town;
  draws = record { seed = town.seed; taken = 2 * town.nodes + k };
  draft = with_links town.seed town.nodes k;
}

-- a town with all its nodes and links, and the feeds of its first k links
abbrev pub feed_works : Town → ℕ → Works
feed_works town k = record {
  town = town;
  draws = draws_by town.seed town.nodes k;
  draft = with_feeds town.seed town.nodes k;
}

-- a number is that of a link
abbrev pub IsLink : Network → ℕ → Type 0
IsLink net number = is_among (link_numbers net.links) number ≡ true
