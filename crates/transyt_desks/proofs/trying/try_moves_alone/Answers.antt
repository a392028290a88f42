-- One move more is tried.
use Rattle.std.proofs.Common.{◌≡◌, ◌+◌, suc, ap, ◌∙◌, arith}
use Rattle.std.proofs.lemmas.List.{length-set}
use Rattle.transyt_net.specs.Parts.{Network}
use Rattle.transyt_moves.specs.Moves.{move}
use Rattle.transyt_track.specs.Due.{cert_work, edit_work}
use Rattle.transyt_session.specs.Session.{SessionValue, try_of}
use Rattle.transyt_desks.proofs.ResultLaws.{tries_more}
use Rattle.transyt_desks.proofs.trying.try_moves_alone.Goals as goal

pub loop-number-preserved : goal.loop-number-preserved
loop-number-preserved g c =
    let net = c.args.session.now.net in
    let so = c.loop-number.invariant in
    let told = c.try_edit.ensures in
    let n = c.loop-number.number in
    let place = c.args.from + n in
    let net_is : c.loop-number.session.net ≡ net = ap (λ (s : SessionValue). s.net) so.same in
    let edit : c.move_at-edit.result ≡ move net place =
    c.move_at-edit.ensures ∙ ap (λ (u : Network). move u place) (c.net-in-loop-number.ensures ∙ net_is) in
    let work : edit_work c.loop-number.session.net c.move_at-edit.result ≡ edit_work net (move net place) =
    (λ i. edit_work (net_is i) (edit i)) in
    let next : cert_work net (c.args.from + (n + 1)) ≡ cert_work net place + edit_work net (move net place) =
    ap (cert_work net) (let at : c.args.from + (n + 1) ≡ suc place = omega arith in at) in
    record {
      tried = tries_more net (λ k. c.args.from + k) n c.loop-number.tries c.try_edit.result
          (omega (arith, c.loop-number-test.true)) so.tried
          (told.tried ∙ (λ i. try_of (net_is i) (edit i))) (omega (arith, work, told.few));
      len = length-set c.loop-number.tries n c.try_edit.result ∙ so.len;
      same = told.same ∙ so.same;
      steps = omega (arith, told.steps, so.steps, work, next);
    }
