-- The commands of each edit, and then how many rows and flows there are.
use Rattle.std.proofs.Common.{◌≡◌, ◌≤◌, ◌+◌, [], ◌∷◌, ◌++◌, List, length, drop, sym, subst, ◌∙◌, rules}
use Rattle.std.specs.List.{flat_map}
use Rattle.transyt_net.specs.declared.edit.Edit.{Edit}
use Rattle.transyt_words.specs.Counts.{command_lines, counted_line}
use Rattle.transyt_words.proofs.LineLaws.{some_done, some_more}
use Rattle.transyt_words.proofs.counts.counts_lines.Goals as goal

-- one edit more
pub loop-edit-preserved : goal.loop-edit-preserved
loop-edit-preserved c =
    let i = c.loop-edit.edit-index in
    let lines = c.loop-edit.lines.items in
    let edits : c.deref-edit-items.result.now ≡ c.args.counts.now.edits = search rules in
    let all = flat_map command_lines c.args.counts.now.edits in
    subst (λ (es : List Edit). c.add_command.new.lines.items ++ flat_map command_lines (drop (i + 1) es) ≡ all) edits
    (some_more c.deref-edit-items.result.now i lines all command_lines _ c.add_command.new.lines.items
    c.loop-edit-test.true c.in_ok-add_command.ensures
    (subst (λ (es : List Edit). lines ++ flat_map command_lines (drop i es) ≡ all) (sym edits) c.loop-edit.invariant))

-- all edits, and the last line
pub returns : goal.returns
returns c =
    let edits : c.deref-edit-items.result.now ≡ c.args.counts.now.edits = search rules in
    let passed : length c.args.counts.now.edits ≤ c.loop-edit.edit-index =
    subst (λ (es : List Edit). length es ≤ c.loop-edit.edit-index) edits c.loop-edit-test.false in
    let commands = some_done c.args.counts.now.edits c.loop-edit.edit-index c.loop-edit.lines.items _ command_lines
    passed c.loop-edit.invariant in
    let last : c.counted_line.result ≡ counted_line c.args.counts.now.rows (length c.args.counts.now.edits) =
    search rules in
    c.in_ok-add.ensures ∙ (λ j. commands j ++ last j ∷ [])
