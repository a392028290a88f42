-- A link that is due is worked out, and any other is left.
use Rattle.std.proofs.Common.{sym, ◌∙◌}
use Rattle.transyt_track.proofs.MixedLaws.{shown_now}
use Rattle.transyt_track.proofs.FrontLaws.{turned_left}
use Rattle.transyt_track.proofs.front.turn.Goals as goal

pub leave-requires-clause-shown : goal.leave-requires-clause-shown
leave-requires-clause-shown g c = λ last. shown_now c.requires.at.shown (sym last) c.args.pair.now.inside

pub returns-else-is_due-clause-front : goal.returns-else-is_due-clause-front
returns-else-is_due-clause-front g c =
    let r = c.requires in
    let p = c.args.pair.now in
    record {
      at = rw c.leave.ensures (turned_left r.at p.change.now.same_shape p.first p.last p.inside
          (sym c.is_due.ensures ∙ c.if-is_due.false));
      own = r.own;
      steps = r.steps;
    }
