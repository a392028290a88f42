-- The first sweep begins.
use Rattle.std.proofs.Common.{◌≡◌, ◌≤◌, false, length, ap, sym, ◌∙◌, arith}
use Rattle.std.specs.List.{list_any}
use Rattle.transyt_kept.specs.Cell.{CellValue}
use Rattle.transyt_track.proofs.StartLaws.{start_at, none_started, none_fed}
use Rattle.transyt_track.proofs.starting.set_out.Goals as goal

pub start_links-requires : goal.start_links-requires
start_links-requires c =
    let change = c.args.change.now in
    rw (c.deref-then-any_up-2.ensures.value, c.flag.ensures.kept) (start_at change.before.now change.after.now
    change.same_shape c.frame.ensures.valid.sound.frame c.requires.rows c.flag.ensures.flags)

pub returns-else-any_up-clause-front : goal.returns-else-any_up-clause-front
returns-else-any_up-clause-front c =
    let a = c.args.change.now.before.now in
    let b = c.args.change.now.after.now in
    let same = c.args.change.now.same_shape in
    let frame = c.frame.ensures.valid.sound.frame in
    let flags = c.flag.ensures.flags in
    let some : 1 ≤ b.frame.sweeps = omega (arith, frame.sweeps) in
    let none : list_any (λ f. f) c.flag.new.front.out_changed.items ≡ false =
    sym (ap (list_any (λ f. f)) c.deref.ensures.value) ∙ sym c.any_up.ensures ∙ c.if-any_up.false in
    record {
      at = rw c.flag.ensures.kept (none_started a b same (start_at a b same frame c.requires.rows flags) some none);
      own = none_fed a b same flags none;
      steps = ap (λ (v : CellValue). length v.arrivals) c.flag.ensures.scratch ∙ c.requires.room.steps;
    }
