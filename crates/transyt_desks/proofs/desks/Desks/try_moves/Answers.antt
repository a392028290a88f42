-- All of the crew stand for the network of desk 0, with the bound 0.
use Rattle.std.proofs.Common.{◌≡◌, ℕ, ◌<◌, List, length, slice_index_or, false, refl, sym, ap, ◌∙◌, subst, arith}
use Rattle.std.specs.Vec.{with_items}
use Rattle.std.proofs.lemmas.List.{with_items_is}
use Rattle.transyt_desks.specs.declared.desk.Desk.{Desk}
use Rattle.transyt_desks.specs.Batches.{CanFollow}
use Rattle.transyt_desks.specs.Desks.{sessions_of, AreAlike}
use Rattle.transyt_desks.proofs.BatchLaws.{all_standing}
use Rattle.transyt_desks.proofs.CrewLaws.{each_can}
use Rattle.transyt_desks.proofs.DeskLaws.{aligned_alike, sessions_count, standing_aligned, standing_are}
use Rattle.transyt_desks.proofs.desks.Desks.try_moves.Goals as goal

pub try_moves_forked-requires-clause-ready : goal.try_moves_forked-requires-clause-ready
try_moves_forked-requires-clause-ready g c κs within =
    subst (λ (ds : List Desk). (k : ℕ) (d : Desk) → k < length ds → CanFollow c.self.inside.zero.net false (slice_index_or ds k d).session)
    (sym c.as_mut_slice.ensures.value)
    (each_can c.self.inside.zero c.self.inside.crew.items c.self.inside.in_step c.self.invariant
    (subst AreAlike (sym c.self.view_is) c.requires.alike))

pub returns-clause-alike : goal.returns-clause-alike
returns-clause-alike g c =
    let news = c.try_moves_forked.new.desks in
    let told = c.try_moves_forked.ensures in
    aligned_alike _ (standing_aligned c.self.inside.zero _ (all_standing c.self.inside.zero _ c.as_mut_slice.result.now news told refl _
    (with_items_is c.self.inside.crew news (told.len ∙ c.as_mut_slice.ensures.len))))

pub invariant_of-self-2 : goal.invariant_of-self-2
invariant_of-self-2 g c =
    let crew = c.self.inside.crew in
    let news = c.try_moves_forked.new.desks in
    let told = c.try_moves_forked.ensures in
    let ends = (with_items crew news).items in
    let ends_are : ends ≡ news = with_items_is crew news (told.len ∙ c.as_mut_slice.ensures.len) in
    standing_are c.self.inside.zero (sessions_of crew.items) (sessions_of ends) c.self.inside.in_step c.len-self-inside.result
    c.self.invariant (omega (arith, sessions_count crew.items, sessions_count ends, ap length ends_are, told.len, ap length c.as_mut_slice.ensures.value))
    (all_standing c.self.inside.zero _ c.as_mut_slice.result.now news told refl ends ends_are)
