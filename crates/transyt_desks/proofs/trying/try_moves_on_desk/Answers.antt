-- One move more is tried and taken back.
use Rattle.std.proofs.Common.{◌≡◌, ◌≤◌, None, refl, ap, sym, ◌∙◌, subst, arith}
use Rattle.std.proofs.lemmas.List.{length-set}
use borrow.Author.Count.{below_more}
use Rattle.transyt_moves.specs.Moves.{move}
use Rattle.transyt_track.specs.Due.{edit_work}
use Rattle.transyt_session.specs.Session.{SessionValue, standing_for, try_of}
use Rattle.transyt_desks.specs.Stretches.{made_at, net_made, turn_place}
use Rattle.transyt_desks.proofs.ResultLaws.{tries_more}
use Rattle.transyt_desks.proofs.TriedLaws.{none_made}
use Rattle.transyt_desks.proofs.trying.try_moves_on_desk.Goals as goal

pub loop-turn-preserved : goal.loop-turn-preserved
loop-turn-preserved c =
    let net = c.args.session.now.net in
    let so = c.loop-turn.invariant in
    let told = c.try_at-found.ensures in
    let n = c.loop-turn.turn in
    let place : c.in-Some.place ≡ turn_place c.args.attempt.job.batch c.args.attempt.desk n = c.in-Some.ensures.value in
    let net_is : c.loop-turn.session.net ≡ net = ap (λ (s : SessionValue). s.net) so.same in
    let none : c.try_at-found.result.1 ≡ None = none_made c.try_at-found.result.1 (sym c.is_some.ensures ∙ c.if-is_some.false) in
    record {
      tries = tries_more net (turn_place c.args.attempt.job.batch c.args.attempt.desk) n c.loop-turn.results.tries c.try_at-found.result.0
          (omega (arith, so.len, c.loop-turn-test.true)) so.tries
          (told.tried ∙ (λ i. try_of (net_is i) (move (net_is i) (place i))))
          (subst (λ p. edit_work net (move net p) ≤ 8000) place
          (subst (λ u. edit_work u (move u c.in-Some.place) ≤ 8000) net_is told.few));
      passes = below_more (λ k. made_at net c.args.attempt.job.batch.bound (turn_place c.args.attempt.job.batch c.args.attempt.desk k) ≡ None) n so.passes
          (sym (told.made ∙ (λ i. made_at (net_is i) c.args.attempt.job.batch.bound (place i))) ∙ none);
      passed = refl;
      none = none;
      len = length-set c.loop-turn.results.tries n c.try_at-found.result.0 ∙ so.len;
      same = told.state ∙ ap (λ made. standing_for (net_made made c.loop-turn.session.net) c.loop-turn.session) none
          ∙ (λ i. record {
            net = net_is i;
            before = (sym c.requires.closed) i;
            work = (so.same i).work;
          });
    }
