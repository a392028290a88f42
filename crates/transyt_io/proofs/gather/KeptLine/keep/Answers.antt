-- The part of the piece that fits is added, and the first 4,098 bytes of both are the first 4,098 of those kept and the
-- piece.
use Rattle.std.proofs.Common.{◌≡◌, ◌∙◌, ◌++◌, ◌-◌, sym, arith, rules, ap, ℕ, true, length, take, min, vec_len, refl, is_ok}
use Rattle.transyt_io.proofs.Lines.{take_onto}
use Rattle.transyt_io.proofs.gather.KeptLine.keep.Goals as goal

-- as much of the piece is added as there is room for
pub returns : goal.returns
returns c =
    let line = c.self.inside.bytes in
    let piece = c.args.piece.now in
    let same : vec_len line ≡ length line.items = line.ok.0 in
    let room : c.min-n.result ≡ min (length piece) (4098 - length line.items) = omega (arith, c.min-n.ensures) in
    let good : is_ok c.extend_from_slice.result ≡ true = search rules in
    let added : c.extend_from_slice.new.self.items ≡ line.items ++ take c.min-n.result piece =
    c.extend_from_slice.ensures.items ∙ (rw good refl) in
    rw (← c.self.view_is) (added ∙ ap (λ (n : ℕ). line.items ++ take n piece) room
    ∙ sym (take_onto 4098 line.items piece c.self.invariant.kept))
