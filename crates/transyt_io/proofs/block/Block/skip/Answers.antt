-- The bytes that are held from a later place on.
use Rattle.std.proofs.Common.{◌∙◌, ◌+◌, drop, take, sym, ap}
use Rattle.std.proofs.lemmas.List.{drop-drop}
use Rattle.std.proofs.lemmas.Slice.{between_is}
use Rattle.transyt_io.proofs.block.Block.skip.Goals as goal

pub returns : goal.returns
returns c =
    let at = c.self.inside.at in
    let all = c.self.inside.bytes.items in
    let upto = c.self.inside.«end» in
    between_is all (at + c.args.count) upto ∙ sym (drop-drop c.args.count at (take upto all))
    ∙ ap (drop c.args.count) (sym (between_is all at upto) ∙ c.self.view_is)
