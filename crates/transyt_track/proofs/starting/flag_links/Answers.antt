-- One link more.
use Rattle.std.proofs.Common.{◌≡◌, ◌↔◌, IsTrue, not, ◌∙◌, arith}
use Rattle.std.proofs.lemmas.List.{length-set}
use Rattle.transyt_track.specs.Own.{HaveData}
use Rattle.transyt_track.specs.Front.{total_differs}
use Rattle.transyt_track.proofs.ChangeLaws.{down_more, not_down}
use Rattle.transyt_track.proofs.FrontLaws.{flag_more}
use Rattle.transyt_track.proofs.starting.flag_links.Goals as goal

pub loop-link-preserved : goal.loop-link-preserved
loop-link-preserved c =
    let a = c.args.change.now.before.now in
    let b = c.args.change.now.after.now in
    let l = c.loop-link.link in
    let front = c.loop-link.front in
    let i = c.loop-link.invariant in
    let same = c.same_data-same.result in
    let at = c.link-at.ensures in
    let inside = at.read.inside in
    let told : IsTrue same ↔ HaveData a b l = rw (← at.change, ← at.link) c.same_data-same.ensures in
    let total : c.other_total.result ≡ total_differs a b l = rw (← at.change, ← at.link) c.other_total.ensures in
    record {
      own_count = length-set front.own_changed.items l (not same) ∙ i.own_count;
      count = length-set front.out_changed.items l c.other_total.result ∙ i.count;
      own = down_more front.own_changed.items l (not same) (HaveData a b) (omega (arith, inside, i.own_count)) i.own
          (not_down same (HaveData a b l) told);
      totals = flag_more front.out_changed.items l c.other_total.result (total_differs a b)
          (omega (arith, inside, i.count)) i.totals total;
      kept = i.kept;
      scratch = i.scratch;
    }
