-- One link more, and at the end all of them.
use Rattle.std.proofs.Common.{◌≡◌, ◌<◌, ◌≤◌, length, ap, ◌∙◌, arith}
use Rattle.transyt_profile.specs.Profile.{uniform}
use Rattle.transyt_net.specs.Parts.{perstep}
use Rattle.transyt_kept.specs.Marked.{KeptValue}
use Rattle.transyt_sweep.specs.Sweeps.{start}
use Rattle.transyt_track.proofs.FrontLaws.{turned_sweep}
use Rattle.transyt_track.proofs.StartLaws.{started_put, started_left}
use Rattle.transyt_track.proofs.starting.start_links.Goals as goal
use Rattle.transyt_track.proofs.starting.start_links.Goals.{then-out_changed-link, else-out_changed-link}

pub loop-link-preserved : goal.loop-link-preserved
loop-link-preserved c =
    let a = c.args.change.now.before.now in
    let b = c.args.change.now.after.now in
    let same = c.args.change.now.same_shape in
    let l = c.loop-link.link in
    let i = c.loop-link.invariant in
    let inside : l < length b.links = omega (arith, c.loop-link-test.true, ap length c.links-link-end.ensures.value) in
    let some : 1 ≤ b.frame.sweeps = omega (arith, c.frame.ensures.valid.sound.frame.sweeps) in
    elim c.if-out_changed-link.branch [
      | then-out_changed-link w ↦
          let started : uniform c.loop-link.kept.now.step_count w.per_step.result ≡ start b l =
          (λ j. uniform (i.at.outs.fits.step_count j)
          ((w.per_step.ensures.value ∙ ap (perstep b.frame) w.total_flow.ensures.value) j)) in
          record {
            at = rw (w.kept-is, w.fill_out.ensures.value, started)
                (started_put a b same i.at inside some w.fill_out.ensures.kept);
            marked = ap (λ (k : KeptValue). k.marked) (w.kept-is ∙ w.fill_out.ensures.value) ∙ i.marked;
          }
      | else-out_changed-link w ↦ record {
        at = rw w.kept-is (started_left a b same i.at inside some w.if-out_changed-link.false);
        marked = ap (λ (k : KeptValue). k.marked) w.kept-is ∙ i.marked;
      }
    ]

pub returns-clause-at : goal.returns-clause-at
returns-clause-at c =
    turned_sweep c.loop-link.invariant.at (omega (arith, ap length c.links-link-end.ensures.value))
