-- The flags are read at the places of the link.
use Rattle.std.proofs.Common.{◌||◌, false, refl, ap, sym, ◌∙◌, arith}
use Rattle.std.specs.List.{list_any}
use Rattle.std.proofs.lemmas.List.{get_or_default}
use Rattle.transyt_track.specs.Front.{flag, own_differs}
use Rattle.transyt_track.proofs.FlagLaws.{all_read}
use Rattle.transyt_track.proofs.FrontLaws.{due_told}
use Rattle.transyt_track.proofs.reading.is_due.Goals as goal

pub any_changed-requires : goal.any_changed-requires
any_changed-requires c =
    rw (c.read.ensures, c.deref.ensures.value, c.requires.at.flags.count) (all_read c.link.ensures.read)

pub returns-then-any_changed : goal.returns-then-any_changed
returns-then-any_changed c =
    let p = c.args.pair.now in
    let own = own_differs p.change.now.before.now p.change.now.after.now p.link in
    let up = c.if-any_changed.true in
    up
    ∙ sym (ap (λ x. x || own) up)
    ∙ due_told c.requires.at c.link.ensures.read c.any_changed.result own
    (c.any_changed.ensures ∙ (λ j. list_any (flag (c.deref.ensures.value j)) (c.read.ensures j))) refl

pub returns-else-any_changed : goal.returns-else-any_changed
returns-else-any_changed c =
    let p = c.args.pair.now in
    let r = c.requires in
    let own = c.index.result.now in
    sym (ap (λ x. x || own) c.if-any_changed.false)
    ∙ due_told r.at c.link.ensures.read c.any_changed.result own
    (c.any_changed.ensures ∙ (λ j. list_any (flag (c.deref.ensures.value j)) (c.read.ensures j)))
    (c.index.ensures
    ∙ get_or_default c.args.front.now.own_changed.items p.link own false (omega (arith, p.inside, r.own.count))
    ∙ r.own.flagged p.link p.inside)
