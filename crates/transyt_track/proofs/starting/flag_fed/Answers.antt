-- One link more.
use Rattle.std.proofs.Common.{◌≡◌, ◌≢◌, ◌<◌, ◌||◌, false, length, ap, ◌∙◌, arith}
use Rattle.std.specs.List.{list_any}
use Rattle.std.proofs.lemmas.List.{length-set, get_or-set_other, get_or_default}
use Rattle.transyt_track.specs.Front.{flag, own_differs}
use Rattle.transyt_track.proofs.ChangeLaws.{own_flag}
use Rattle.transyt_track.proofs.FrontLaws.{flag_more}
use Rattle.transyt_track.proofs.starting.flag_fed.Goals as goal

pub loop-link-preserved : goal.loop-link-preserved
loop-link-preserved c =
    let change = c.args.change.now in
    let l = c.loop-link.link in
    let flags = c.loop-link.own_changed.items in
    let any = c.any_changed.result in
    let read = c.link.ensures.read in
    let here : l < length flags = omega (arith, read.inside, c.loop-link.invariant.count) in
    let up = c.index_mut.result.now in
    let kept : up ≡ flag c.args.own_changed.now.items l =
    c.index_mut.ensures.value ∙ get_or_default flags l up false here ∙ c.loop-link.invariant.others l (omega arith) in
    record {
      count = length-set flags l (up || any) ∙ c.loop-link.invariant.count;
      flagged = flag_more flags l (up || any) (own_differs change.before.now change.after.now) here
          c.loop-link.invariant.flagged
          (own_flag read c.requires.totals up any (rw kept (c.requires.own.down l read.inside))
          (c.any_changed.ensures ∙ ap (list_any (flag c.args.out_changed.now)) c.feeders.ensures));
      others = λ m past.
          let apart : m ≢ l = omega arith in
          get_or-set_other flags l m (up || any) false apart ∙ c.loop-link.invariant.others m (omega arith);
    }
