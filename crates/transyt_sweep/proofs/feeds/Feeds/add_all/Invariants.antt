-- The feeds, four at a time, then three, and then those that are left.
use Rattle.std.proofs.Common.{◌≡◌, ℕ, ◌+◌, ◌-◌, ◌*◌, ◌^◌, ◌<◌, ◌≤◌, length, take, All}
use Rattle.transyt_profile.specs.Profile.{folded}
use Rattle.transyt_sweep.specs.Inflow.{AreFactors, read_by, with_feeds}
use Rattle.transyt_sweep.proofs.feeds.Feeds.add_all.Given as goal

-- so far the arrivals of the feeds so far are added
abbrev pub invariant-groups : goal.invariant-groups
invariant-groups l = record {
  within : l.done ≤ l.served;
  room : length l.room ≡ 6 * l.self.inputs.now.step_count;
  turns : length l.turns ≡ 2 * l.self.inputs.now.step_count;
  slots : All (AreFactors l.self.inputs.now.net.now.frame.step_count) l.slots;
  value : folded l.self.inputs.now.step_count l.turns
      ≡ with_feeds l.self.inputs.now.net.now (read_by l.self.inputs.now) (folded l.self.inputs.now.step_count l.initial.turns) (take l.done l.self.list.now);
  grows : (limit : ℕ) → All (λ v. v < limit) (folded l.self.inputs.now.step_count l.initial.turns)
      → All (λ v. v < limit + l.done * 2 ^ 44) (folded l.self.inputs.now.step_count l.turns);
}

-- fewer feeds are left each time
abbrev pub decreases-groups : goal.decreases-groups
decreases-groups l = l.served - l.done
