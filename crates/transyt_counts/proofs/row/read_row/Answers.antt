-- A row by its first five fields.
use Rattle.std.proofs.Common.{◌∙◌, sym, arith}
use Rattle.csv.specs.Records.{fields_of}
use Rattle.transyt_counts.proofs.RowLaws.{no_field, a_fifth, just_four}
use Rattle.transyt_counts.proofs.row.read_row.Goals as goal

pub returns-in_default : goal.returns-in_default
returns-in_default c =
    sym (a_fifth c.args.net.now c.args.line (fields_of c.args.fields.now) c.in_default.field-0-4.now
    (rw c.in_default.is-4 at (sym c.get-5.ensures.value)))

pub returns-in_default-2 : goal.returns-in_default-2
returns-in_default-2 c =
    sym (no_field c.args.net.now c.args.line 3 _ (omega arith) (rw c.in_default.is-3 at (sym c.get-4.ensures.value)))

pub returns-in_default-3 : goal.returns-in_default-3
returns-in_default-3 c =
    sym (no_field c.args.net.now c.args.line 2 _ (omega arith) (rw c.in_default.is-2 at (sym c.get-3.ensures.value)))

pub returns-in_default-4 : goal.returns-in_default-4
returns-in_default-4 c =
    sym (no_field c.args.net.now c.args.line 1 _ (omega arith) (rw c.in_default.is-1 at (sym c.get-2.ensures.value)))

pub returns-in_default-5 : goal.returns-in_default-5
returns-in_default-5 c =
    sym (no_field c.args.net.now c.args.line 0 _ (omega arith) (rw c.in_default.is-0 at (sym c.get.ensures.value)))

-- four fields and no fifth
pub returns : goal.returns
returns c =
    let is = c.in-Some-Some-Some-Some-None in
    c.judge.ensures
    ∙ sym (just_four c.args.net.now c.args.line (fields_of c.args.fields.now) is.link.now is.feeder.now is.vehicles.now is.minutes.now
    (rw is.is-0 at (sym c.get.ensures.value)) (rw is.is-1 at (sym c.get-2.ensures.value))
    (rw is.is-2 at (sym c.get-3.ensures.value)) (rw is.is-3 at (sym c.get-4.ensures.value))
    (rw is.is-4 at (sym c.get-5.ensures.value)))
