-- The first of the crew try the moves of a batch, and the others stay as they are.
use Rattle.std.proofs.Common.{◌≡◌, List, length, take, drop, max, ap, sym, ◌∙◌, subst, arith}
use Rattle.std.proofs.lemmas.Bool.Decides.{nat_tests}
use Rattle.std.proofs.lemmas.List.{with_items_is}
use Rattle.transyt_desks.specs.declared.desk.Desk.{Desk}
use Rattle.transyt_desks.specs.Desks.{desks_of, sessions_of, AreAlike, AreDesks}
use Rattle.transyt_desks.specs.Batches.{CanAllFollow}
use Rattle.transyt_desks.proofs.CrewLaws.{first_can, tried_alike, tried_are}
use Rattle.transyt_desks.proofs.DeskLaws.{desks_count, sessions_count}
use Rattle.transyt_desks.proofs.desks.Desks.try_next.Goals as goal

pub try_stretch-tried-requires-clause-ready : goal.try_stretch-tried-requires-clause-ready
try_stretch-tried-requires-clause-ready g c κs within =
    let n = c.args.split.desks.number in
    let crew = c.self.inside.crew.items in
    subst (λ ss. CanAllFollow c.self.inside.zero.net c.with_known-batch.result.known ss)
    ((λ i. take (sym (c.with_known-batch.ensures.desks ∙ c.batch_of-next.ensures.desks) i) (sessions_of (sym c.as_mut_slice.ensures.value i))))
    (first_can c.self.inside.zero (sessions_of crew) c.self.inside.in_step n c.with_known-batch.result.known c.self.invariant
    (subst AreAlike (sym c.self.view_is) c.requires.alike)
    (λ yes. grind (arith, nat_tests, yes, c.with_known-batch.ensures.known)))

pub invariant_of-self : goal.invariant_of-self
invariant_of-self g c =
    let crew = c.self.inside.crew in
    let olds = sessions_of crew.items in
    let news = c.try_stretch-tried.new.desks in
    let told = c.try_stretch-tried.ensures in
    let batch = c.with_known-batch.result in
    let desks_is = c.with_known-batch.ensures.desks ∙ c.batch_of-next.ensures.desks in
    subst (λ ds. AreDesks c.try_stretch-tried.new.zero (sessions_of ds) c.known_after-self-inside.result)
    (sym (with_items_is crew news (told.workers ∙ c.as_mut_slice.ensures.len)))
    (tried_are batch c.self.inside.zero c.try_stretch-tried.new.zero olds (sessions_of news) c.self.inside.in_step
    c.try_stretch-tried.result
    (omega (arith, desks_is, c.requires.within, c.args.split.several, ap length c.self.view_is, desks_count c.self.inside.zero olds))
    (omega (arith, told.workers, ap length c.as_mut_slice.ensures.value, sessions_count news, sessions_count crew.items))
    (subst (λ (ds : List Desk). drop batch.desks (sessions_of news) ≡ drop batch.desks (sessions_of ds)) c.as_mut_slice.ensures.value told.others)
    c.self.invariant (subst AreAlike (sym c.self.view_is) c.requires.alike) told.has_tried
    c.known_after-self-inside.result
    (λ none. c.known_after-self-inside.ensures.none none ∙ ap (λ n. max n c.self.inside.in_step) (sym desks_is))
    c.known_after-self-inside.ensures.some)

pub returns-clause-alike : goal.returns-clause-alike
returns-clause-alike g c =
    let crew = c.self.inside.crew in
    let olds = sessions_of crew.items in
    let news = c.try_stretch-tried.new.desks in
    let told = c.try_stretch-tried.ensures in
    let batch = c.with_known-batch.result in
    let desks_is = c.with_known-batch.ensures.desks ∙ c.batch_of-next.ensures.desks in
    subst (λ ds. AreAlike (desks_of c.try_stretch-tried.new.zero (sessions_of ds)))
    (sym (with_items_is crew news (told.workers ∙ c.as_mut_slice.ensures.len)))
    (tried_alike batch c.self.inside.zero c.try_stretch-tried.new.zero olds (sessions_of news) c.self.inside.in_step
    c.try_stretch-tried.result
    (omega (arith, desks_is, c.requires.within, c.args.split.several, ap length c.self.view_is, desks_count c.self.inside.zero olds))
    (omega (arith, told.workers, ap length c.as_mut_slice.ensures.value, sessions_count news, sessions_count crew.items))
    (subst (λ (ds : List Desk). drop batch.desks (sessions_of news) ≡ drop batch.desks (sessions_of ds)) c.as_mut_slice.ensures.value told.others)
    c.self.invariant (subst AreAlike (sym c.self.view_is) c.requires.alike) told.has_tried)
