-- One move more, which its desk took back, or made.
use Rattle.std.proofs.Common.{◌≡◌, ℕ, ◌/◌, ◌<◌, ◌≤◌, None, ap, sym, ◌∙◌, arith}
use Rattle.std.proofs.lemmas.Bool.Decides.{nat_tests}
use Rattle.transyt_moves.specs.Moves.{move}
use Rattle.transyt_session.specs.declared.answers.Tried.TheVariants.{Barred}
use Rattle.transyt_desks.specs.Stretches.{made_at, place_at, work_found}
use Rattle.transyt_desks.proofs.ResultLaws.{results_of, found_at, its, stopped_at, stopped_made}
use Rattle.transyt_desks.proofs.StretchLaws.{stretch_made, stretch_passes}
use Rattle.transyt_desks.proofs.TriedLaws.{lowers_none, none_lowers, try_work}
use Rattle.transyt_desks.proofs.trying.first_made.Goals as goal

pub loop-number-preserved : goal.loop-number-preserved
loop-number-preserved c =
    let net = c.args.net.now.value in
    let batch = c.args.batch in
    let n = c.loop-number.number in
    let so = c.loop-number.invariant in
    let place = place_at batch.place batch.count n in
    let passed = found_at net batch c.args.desks.now n c.index-desks-number.result c.requires.found c.loop-number-test.true
    Barred (grind (arith, nat_tests, c.if-turn-results.false)) in
    let worked = c.work_found.ensures ∙ ap work_found passed.tried ∙ try_work net (move net place) in
    let higher = none_lowers net place (ap (λ b. made_at net b place) (sym c.requires.bound) ∙ passed.passes) in
    record {
      stretch = stretch_passes net batch.place batch.count n c.loop-number.stretch so.stretch so.going _ worked higher passed.few;
      going = so.going;
    }

pub overflow_add-stretch-in-loop-number : goal.overflow_add-stretch-in-loop-number
overflow_add-stretch-in-loop-number c =
    let net = c.args.net.now.value in
    let batch = c.args.batch in
    let n = c.loop-number.number in
    let so = c.loop-number.invariant in
    let passed = found_at net batch c.args.desks.now n c.index-desks-number.result c.requires.found c.loop-number-test.true
    Barred (grind (arith, nat_tests, c.if-turn-results.false)) in
    let worked = c.work_found.ensures ∙ ap work_found passed.tried ∙ try_work net (move net (place_at batch.place batch.count n)) in
    omega (arith, worked, passed.few, so.stretch.few, so.stretch.inside, c.loop-number-test.true, batch.room_within, batch.many)

pub returns-then-turn-results-clause-stretch : goal.returns-then-turn-results-clause-stretch
returns-then-turn-results-clause-stretch c =
    let net = c.args.net.now.value in
    let batch = c.args.batch in
    let desks = c.args.desks.now in
    let n = c.loop-number.number in
    let d = c.index-desks-number.result in
    let so = c.loop-number.invariant in
    let found = c.requires.found in
    let inside = c.loop-number-test.true in
    let stopped : (results_of batch desks n d).passed ≤ n / batch.desks = grind (arith, nat_tests, c.if-turn-results.true) in
    let none_before : (k : ℕ) → k < n → made_at net batch.bound (place_at batch.place batch.count k) ≡ None = λ k fewer.
    ap (λ b. made_at net b (place_at batch.place batch.count k)) c.requires.bound
    ∙ lowers_none net (place_at batch.place batch.count k) (so.stretch.passes k (omega (arith, fewer, so.stretch.whole so.going))) in
    stretch_made net batch.place batch.count n c.loop-number.stretch so.stretch so.going batch.room
    (results_of batch desks n d).made inside
    (λ made is. ap (λ b. made_at net b (place_at batch.place batch.count n)) (sym c.requires.bound)
    ∙ stopped_at net batch desks n d found inside stopped none_before made is)
    (its net batch desks n d found inside).small (stopped_made net batch desks n d found inside stopped)
