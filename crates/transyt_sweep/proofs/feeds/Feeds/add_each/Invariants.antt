-- The arrivals before and those of the feeds so far.
use Rattle.std.proofs.Common.{◌≡◌, ℕ, ◌+◌, ◌*◌, ◌^◌, ◌<◌, length, take, All}
use Rattle.transyt_profile.specs.Profile.{folded}
use Rattle.transyt_sweep.specs.Inflow.{with_feeds, read_by}
use Rattle.transyt_sweep.proofs.feeds.Feeds.add_each.Given as goal

abbrev pub invariant-feeds : goal.invariant-feeds
invariant-feeds l = record {
  turns : length l.turns ≡ 2 * l.self.inputs.now.step_count;
  value : folded l.self.inputs.now.step_count l.turns
      ≡ with_feeds l.self.inputs.now.net.now (read_by l.self.inputs.now) (folded l.self.inputs.now.step_count l.initial.turns) (take l.i l.self.list.now);
  grows : (limit : ℕ) → All (λ v. v < limit) (folded l.self.inputs.now.step_count l.initial.turns)
      → All (λ v. v < limit + l.i * 2 ^ 44) (folded l.self.inputs.now.step_count l.turns);
}
