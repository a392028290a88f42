-- A group of feeds more, and those that are left.
use Rattle.std.proofs.Common.{ℕ, ◌+◌, ◌-◌, ◌*◌, ◌^◌, length, drop, arith, rules}
use Rattle.std.proofs.lemmas.List.{length-take}
use Rattle.std.proofs.lemmas.Grind.{pieces}
use Rattle.std.proofs.Math.Seq.{take-length}
use Rattle.transyt_profile.specs.Profile.{folded}
use Rattle.transyt_sweep.specs.Inflow.{read_by}
use Rattle.transyt_sweep.proofs.InflowLaws.{feeds_next, room_next}
use Rattle.transyt_sweep.proofs.feeds.Feeds.add_all.Goals as goal

-- a group has room
pub add_together-requires-clause-turns : goal.add_together-requires-clause-turns
add_together-requires-clause-turns c =
    let p : ℕ = c.groups.done in
    room_next c.args.self.now.inputs.now.step_count p (p + c.group-count.result - p) c.args.self.now.list.now c.groups.turns
    (omega (arith, c.group-count.ensures.within, c.groups.invariant.within)) c.args.self.now.few c.groups.invariant.turns
    (c.groups.invariant.grows ((16 - length c.args.self.now.list.now) * 2 ^ 44) c.requires.turns.small)

-- a group more
pub groups-preserved : goal.groups-preserved
groups-preserved c =
    let n : ℕ = c.args.self.now.inputs.now.step_count in
    let p : ℕ = c.groups.done in
    let k : ℕ = c.group-count.result in
    record {
      within = omega (arith, c.group-count.ensures.within, c.groups-test.true);
      room = search rules;
      turns = search rules;
      slots = search (pieces, arith);
      value = feeds_next c.args.self.now.inputs.now.net.now (read_by c.args.self.now.inputs.now) (folded n c.args.turns.now)
          c.args.self.now.list.now p (p + k - p) (p + k) (folded n c.groups.turns) (folded n c.add_together.new.turns)
          (omega arith) c.groups.invariant.value c.add_together.ensures.value;
      grows = λ limit within j d h. omega (
        arith,
        length-take (p + k - p) (drop p c.args.self.now.list.now),
        c.add_together.ensures.grows (limit + p * 2 ^ 44) (c.groups.invariant.grows limit within) j d h,
      );
    }

-- those that are left have room
pub add_each-requires-clause-turns : goal.add_each-requires-clause-turns
add_each-requires-clause-turns c =
    let p : ℕ = c.groups.done in
    room_next c.args.self.now.inputs.now.step_count p (length c.args.self.now.list.now - p) c.args.self.now.list.now c.groups.turns
    (omega (arith, c.groups.invariant.within)) c.args.self.now.few c.groups.invariant.turns
    (c.groups.invariant.grows ((16 - length c.args.self.now.list.now) * 2 ^ 44) c.requires.turns.small)

-- the arrivals of all
pub returns-clause-value : goal.returns-clause-value
returns-clause-value c =
    let n : ℕ = c.args.self.now.inputs.now.step_count in
    let p : ℕ = c.groups.done in
    let all = c.args.self.now.list.now in
    rw (← take-length all) (feeds_next c.args.self.now.inputs.now.net.now (read_by c.args.self.now.inputs.now) (folded n c.args.turns.now)
    all p (length all - p) (length all) (folded n c.groups.turns) (folded n c.add_each.new.turns)
    (omega (arith, c.groups.invariant.within)) c.groups.invariant.value c.add_each.ensures.value)

pub returns-clause-grows : goal.returns-clause-grows
returns-clause-grows c = λ limit within j d h.
    let all : ℕ = length c.args.self.now.list.now in
    let p : ℕ = c.groups.done in
    omega (
      arith,
      length-take (all - p) (drop p c.args.self.now.list.now),
      c.groups.invariant.within,
      c.add_each.ensures.grows (limit + p * 2 ^ 44) (c.groups.invariant.grows limit within) j d h,
    )
