-- One pair more.
use Rattle.std.proofs.Common.{◌≡◌, ◌<◌, ◌≤◌, length, ap, sym, ◌∙◌, arith}
use Rattle.transyt_parts.specs.declared.frame.Frame.{Frame}
use Rattle.transyt_sweep.specs.Sweeps.{out_of}
use Rattle.transyt_kept.specs.Rows.{out_at, pair_in}
use Rattle.transyt_kept.specs.Marked.{KeptValue}
use Rattle.transyt_sweep.proofs.FrontLaws.{mixed_turn}
use Rattle.transyt_track.proofs.MixedLaws.{mixed_placed, shown_placed, shown_turn, mixed_end}
use Rattle.transyt_track.proofs.returning.copy_rows.Goals as goal

pub loop-link-preserved : goal.loop-link-preserved
loop-link-preserved c =
    let net = c.args.net.now in
    let s = c.loop-sweep.sweep in
    let l = c.loop-link.link in
    let i = c.loop-link.invariant in
    let from = c.requires.from in
    let pair = pair_in c.args.from.now.now s l in
    let kept = c.take_pair.ensures.kept in
    let swept : s ≤ net.frame.sweeps =
    omega (arith, c.loop-sweep-test.true, ap (λ (f : Frame). f.sweeps) c.frame-sweep-end.ensures.value) in
    let inside : l < length net.links = omega (arith, c.loop-link-test.true, ap length c.links-link-end.ensures.value) in
    let now = ap (λ (k : KeptValue). k.now) c.take_pair.ensures.value in
    record {
      outs = rw now (mixed_placed i.outs kept pair swept inside (from.outs s l swept inside));
      shown = rw now (shown_placed i.shown i.outs.fits kept pair inside
          (λ last. ap (λ t. pair_in c.args.from.now.now t l) (sym last ∙ sym from.fits.sweeps) ∙ from.shown l inside));
      marked = ap (λ (k : KeptValue). k.marked) c.take_pair.ensures.value ∙ i.marked;
    }

pub loop-sweep-preserved : goal.loop-sweep-preserved
loop-sweep-preserved c =
    let net = c.args.net.now in
    let i = c.loop-link.invariant in
    let all : length net.links ≡ c.loop-link.link = omega (arith, ap length c.links-link-end.ensures.value) in
    record {
      outs = mixed_turn net (out_of net) (out_at c.args.kept.now.now) c.loop-sweep.sweep c.loop-link.link
          c.loop-link.kept.now all i.outs;
      shown = shown_turn i.shown all;
      marked = i.marked;
    }

pub returns-clause-rows : goal.returns-clause-rows
returns-clause-rows c =
    let i = c.loop-sweep.invariant in
    mixed_end i.outs i.shown (omega (arith, ap (λ (f : Frame). f.sweeps) c.frame-sweep-end.ensures.value))
