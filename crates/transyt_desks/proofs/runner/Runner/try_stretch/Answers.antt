-- No move of the batch lowers the index, or the first that does is made at desk 0.
use Rattle.std.proofs.Common.{◌≢◌, ◌%◌, slice_index_or, slice_set, None, not, ap, sym, ◌∙◌, subst, arith}
use Rattle.std.proofs.lemmas.List.{length-set, take-map}
use Rattle.transyt_desks.specs.declared.desk.Desk.{Desk}
use Rattle.transyt_desks.specs.Desks.{sessions_of}
use Rattle.transyt_desks.specs.Batches.{CanAllFollow, CanFollow, HasTriedBatch}
use Rattle.transyt_desks.specs.Stretches.{IsStretch}
use Rattle.transyt_desks.proofs.CrewLaws.{first_sessions}
use Rattle.transyt_desks.proofs.DeskLaws.{session_read, sessions_count}
use Rattle.transyt_desks.proofs.BatchLaws.{tried_none, tried_some}
use Rattle.transyt_desks.proofs.TriedLaws.{none_made, some_told}
use Rattle.transyt_desks.proofs.runner.Runner.try_stretch.Goals as goal

pub try_moves_forked-requires-clause-ready : goal.try_moves_forked-requires-clause-ready
try_moves_forked-requires-clause-ready g c κs within = λ k d less.
    (let front = c.split_at_mut-front.result.0.now in
    let can = subst (CanAllFollow c.args.zero.now.net c.args.batch.known)
    (take-map (λ (d : Desk). d.session) c.args.batch.desks c.args.desks.now ∙ sym (ap sessions_of c.split_at_mut-front.ensures.front)) c.requires.ready in
    subst (CanFollow c.args.zero.now.net c.args.batch.known) (sym (session_read front k d less))
    (can k (omega (arith, less, sessions_count front))))

pub returns-then-is_none-clause-has_tried : goal.returns-then-is_none-clause-has_tried
returns-then-is_none-clause-has_tried g c =
    let news = c.try_moves_forked.new.desks in
    let batch = c.args.batch in
    let stretch = c.first_made-stretch.result in
    subst (λ ss. HasTriedBatch batch c.args.zero.now c.args.zero.now ss stretch)
    (sym (first_sessions batch.desks news c.split_at_mut-front.result.1.now
    (c.try_moves_forked.ensures.len ∙ c.split_at_mut-front.ensures.front_len)))
    (tried_none c.args.zero.now batch c.split_at_mut-front.result.0.now news c.try_moves_forked.ensures stretch
    c.requires.closed c.requires.bound
    (subst (λ n. IsStretch n batch.place batch.count batch.room stretch) (c.of-net.ensures ∙ c.net.ensures) c.first_made-stretch.ensures.stretch)
    (none_made stretch.made (c.is_none.ensures ∙ ap not c.if-is_none.true)))

pub returns-clause-has_tried : goal.returns-clause-has_tried
returns-clause-has_tried g c =
    let news = c.try_moves_forked.new.desks in
    let batch = c.args.batch in
    let stretch = c.first_made-stretch.result in
    let at = stretch.passed % batch.desks in
    let some : stretch.made ≢ None = some_told stretch.made (c.is_none.ensures ∙ ap not c.if-is_none.false) in
    let traded : Desk = record { session = c.trade.new.other; results = (slice_index_or news at c.index-front-desk.result).results } in
    subst (λ ss. HasTriedBatch batch c.args.zero.now c.trade.new.self ss stretch)
    (sym (first_sessions batch.desks (slice_set news at traded) c.split_at_mut-front.result.1.now
    (length-set news at traded ∙ c.try_moves_forked.ensures.len ∙ c.split_at_mut-front.ensures.front_len)))
    (tried_some c.args.zero.now batch c.split_at_mut-front.result.0.now news c.try_moves_forked.ensures stretch
    c.requires.closed c.requires.bound
    (subst (λ n. IsStretch n batch.place batch.count batch.room stretch) (c.of-net.ensures ∙ c.net.ensures) c.first_made-stretch.ensures.stretch)
    c.trade.new.self c.index-front-desk.result traded some (c.first_made-stretch.ensures.desk some) c.trade.ensures.value c.trade.ensures.other)
