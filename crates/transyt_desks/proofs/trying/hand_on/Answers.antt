-- One result more is handed on: with the bound 0 its desk has tried all its moves.
use Rattle.std.proofs.Common.{◌≡◌, ◌+◌, ◌<◌, ◌≤◌, ap, ◌∙◌, subst, arith}
use Rattle.std.proofs.Math.Nat.{mod-eq_of_lt}
use Rattle.std.proofs.lemmas.List.{length-set}
use Rattle.transyt_moves.specs.Moves.{move}
use Rattle.transyt_track.specs.Due.{edit_work}
use Rattle.transyt_session.specs.declared.answers.Tried.TheVariants.{Barred}
use Rattle.transyt_session.specs.Session.{try_of}
use Rattle.transyt_desks.specs.Stretches.{place_at}
use Rattle.transyt_desks.proofs.ResultLaws.{found_at, going_on, tries_more}
use Rattle.transyt_desks.proofs.trying.hand_on.Goals as goal

pub loop-number-preserved : goal.loop-number-preserved
loop-number-preserved c =
    let net = c.args.job.zero.now.net in
    let batch = c.args.job.batch in
    let n = c.loop-number.number in
    let d = c.index-desks-desk.result in
    let inside : n < batch.room = omega (arith, c.loop-number-test.true, c.loop-number.invariant.len, c.requires.room) in
    let place : place_at batch.place batch.count n ≡ batch.place + n =
    mod-eq_of_lt (omega (arith, inside, c.requires.inside)) in
    let passed = found_at net batch c.args.desks.now n d c.requires.found inside Barred
    (going_on net batch c.args.desks.now n d c.requires.found inside c.requires.bound) in
    record {
      tries = tries_more net (λ k. batch.place + k) n c.loop-number.tries _
          (omega (arith, c.loop-number-test.true)) c.loop-number.invariant.tries
          (passed.tried ∙ ap (λ p. try_of net (move net p)) place)
          (subst (λ p. edit_work net (move net p) ≤ 8000) place passed.few);
      len = length-set c.loop-number.tries n _ ∙ c.loop-number.invariant.len;
    }
