-- The network after an allowed edit is valid and of the same shape, and the inverse leads back.
use Rattle.std.proofs.Common.{rules, sym, ap, ◌∙◌, subst}
use Rattle.transyt_net.specs.Parts.{shape}
use Rattle.transyt_net.specs.Valid.{IsValid}
use Rattle.transyt_net.specs.Edits.{with_edit}
use Rattle.transyt_net.specs.EditFaults.{edit_fault}
use Rattle.transyt_net.proofs.ApplyLaws.{valid_edit}
use Rattle.transyt_net.proofs.BackLaws.{back_allowed}
use Rattle.transyt_net.proofs.KeptLaws.{shape_kept}
use Rattle.transyt_net.proofs.UndoLaws.{undone}
use Rattle.transyt_net.proofs.net.Net.apply.Goals as goal

-- the inverse leads back
pub returns-clause-undoes : goal.returns-clause-undoes
returns-clause-undoes c =
    (λ j. with_edit (c.change.ensures.value j) (c.change.ensures.back j)) ∙ undone c.args.self.now c.args.e

-- it is allowed
pub returns-clause-allowed : goal.returns-clause-allowed
returns-clause-allowed c =
    (λ j. edit_fault (c.change.ensures.value j) (c.change.ensures.back j))
    ∙ back_allowed c.args.self.now c.args.e (subst IsValid c.self.view_is c.self.invariant.0) (search rules)

-- the shape stays
pub returns-clause-shape : goal.returns-clause-shape
returns-clause-shape c = ap shape c.change.ensures.value ∙ shape_kept c.args.self.now c.args.e

-- the network stays valid
pub returns-clause-valid : goal.returns-clause-valid
returns-clause-valid c =
    subst IsValid (sym c.change.ensures.value)
    (valid_edit c.args.self.now c.args.e (subst IsValid c.self.view_is c.self.invariant.0) (search rules))
