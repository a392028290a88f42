-- The parts of a network as contracts see them: a list in place of each vector.
use Rattle.std.specs.Prelude.{ℕ, List, Option, ◌+◌, sum_by}
pub use Rattle.transyt_parts.specs.declared.node.Stage.{Stage}
pub use Rattle.transyt_parts.specs.declared.link.Feed.{Feed}
pub use Rattle.transyt_parts.specs.declared.link.GiveWay.{GiveWay}
pub use Rattle.transyt_parts.specs.declared.link.Weights.{Weights}

-- a node, with a list in place of its vector
pub record NodeValue : Type 0 where
  pub number : ℕ
  pub offset : ℕ
  pub stages : List Stage

-- a link, with lists in place of its vectors
pub record LinkValue : Type 0 where
  pub number : ℕ
  pub node : ℕ
  pub entry : ℕ
  pub saturation : ℕ
  pub weights : Weights
  pub start_lag : ℕ
  pub end_lag : ℕ
  pub stages : List ℕ
  pub feeds : List Feed
  pub gives_way : Option GiveWay

-- a climb plan, with a list in place of its vector
pub record PlanValue : Type 0 where
  pub budget : ℕ
  pub sizes : List ℕ

-- a link's entry flow and the flows of its feeds, in vehicles per hour
abbrev pub total_flow : LinkValue → ℕ
total_flow l = l.entry + sum_by (λ f. f.flow) l.feeds
