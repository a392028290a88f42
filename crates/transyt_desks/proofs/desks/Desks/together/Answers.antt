-- The climb ends, or the turns that pass are counted, and the step that was made.
use Rattle.std.proofs.Common.{◌+◌, ◌*◌, ◌<◌, length, true, slice_set, refl, ap, sym, ◌∙◌, subst, arith, mul-pos}
use Rattle.std.proofs.lemmas.List.{set-set}
use Rattle.transyt_climb.specs.declared.turn.Turn.TheVariants.{Took, Passed}
use Rattle.transyt_climb.specs.Turns.{Counters, machine, noted}
use Rattle.transyt_session.specs.Session.{credited}
use Rattle.transyt_desks.specs.declared.turns.Round.{Round}
use Rattle.transyt_desks.specs.Desks.{desk_zero}
use Rattle.transyt_desks.specs.Rounds.{MakesRound, RoundsDesks}
use Rattle.transyt_desks.proofs.DeskLaws.{zero_set}
use Rattle.transyt_desks.proofs.RoundLaws.{makes_passed, makes_step, rounds_end, rounds_lent}
use Rattle.transyt_desks.proofs.desks.Desks.together.Goals as goal

pub returns-in-Some : goal.returns-in-Some
returns-in-Some g c =
    rounds_end (c.args.split.desks.number * c.args.split.each) c.args.climber.now c.args.self.now c.in-Some.last c.requires.ready
    (c.end_of.ensures.answer c.in-Some.last (desk_zero c.args.self.now) c.in-Some.is)
    (c.end_of.ensures.end c.in-Some.last c.in-Some.is)

pub returns-in_default-made : goal.returns-in_default-made
returns-in_default-made g c =
    let olds = c.args.self.now in
    let mids = c.try_next-tried.new.self in
    let before = c.args.climber.now in
    let after = c.note_passed.new.climber in
    let tried = c.try_next-tried.result in
    let told = c.try_next-tried.ensures in
    let split = c.args.split in
    let places = split.desks.number * split.each in
    let looks = c.end_of.ensures in
    let none = c.in_default.is in
    let session = credited tried.work (desk_zero mids) in
    let result : Round = record { turns = tried.passed; last = Passed } in
    subst (λ news. RoundsDesks places before olds after news result) (sym c.credit.ensures)
    (rounds_lent places before after olds mids session result (omega (arith, split.several, c.requires.within)) told.workers
    (λ _. told.alike) refl
    (makes_passed places (machine before (desk_zero olds)) tried c.requires.ready (looks.place none) (looks.since none)
    (looks.looked none) told.tried after session (mul-pos split.desks.some split.some_each) c.in_default-made.is
    c.note_passed.ensures (ap (credited tried.work) told.zero)))

pub returns : goal.returns
returns g c =
    let olds = c.args.self.now in
    let mids = c.try_next-tried.new.self in
    let before = c.args.climber.now in
    let after = c.note.new.self in
    let tried = c.try_next-tried.result in
    let told = c.try_next-tried.ensures in
    let places = c.args.split.desks.number * c.args.split.each in
    let looks = c.end_of.ensures in
    let none = c.in_default.is in
    let made = c.in-Some-made.made in
    let some : 0 < length olds = omega (arith, c.args.split.several, c.requires.within) in
    let first = credited tried.work (desk_zero mids) in
    let session = credited made.work first in
    let result : Round = record { turns = tried.passed + 1; last = Took c.place-place.result made.edit made.index } in
    subst (λ news. RoundsDesks places before olds after news result)
    (sym (c.credit-2.ensures ∙ ap (λ ds. slice_set ds 0 (credited made.work (desk_zero ds))) c.credit.ensures
    ∙ set-set mids 0 first (credited made.work (desk_zero (slice_set mids 0 first)))
    ∙ ap (λ s. slice_set mids 0 (credited made.work s)) (zero_set mids first (omega (arith, some, told.workers)))))
    (rounds_lent places before after olds mids session result some told.workers (λ _. told.alike) refl
    (subst (λ p. MakesRound places (machine before (desk_zero olds)) (machine after session)
    (record { turns = tried.passed + 1; last = Took p made.edit made.index }))
    (sym (c.place-place.ensures.value ∙ ap (λ (k : Counters). k.place) c.note_passed.ensures))
    (makes_step places (machine before (desk_zero olds)) tried c.requires.ready (looks.place none) (looks.since none)
    (looks.looked none) told.tried made after session c.in-Some-made.is (c.note.ensures ∙ ap (noted true) c.note_passed.ensures)
    (ap (λ s. credited made.work (credited tried.work s)) told.zero))))
