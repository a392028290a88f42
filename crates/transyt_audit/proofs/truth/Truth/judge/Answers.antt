-- After the list of moves stands the last line.
use Rattle.std.proofs.Common.{◌≡◌, false, nat_lt, ap, sym, ◌∙◌, arith}
use Rattle.std.proofs.lemmas.Bool.Decides.{nat_tests}
use Rattle.transyt_moves.specs.Moves.{move_count}
use Rattle.transyt_sweep.specs.Sweeps.{index}
use Rattle.transyt_audit.specs.Certificate.{joined, end_words}
use Rattle.transyt_audit.specs.Findings.{finding_of}
use Rattle.transyt_audit.proofs.TrueLines.{text_last}
use Rattle.transyt_audit.proofs.truth.Truth.judge.Goals as goal

pub returns-clause-finding : goal.returns-clause-finding
returns-clause-finding g c =
    let net = c.args.self.now in
    let place = c.args.place in
    let count : c.self.inside.places ≡ move_count net = c.self.invariant.0 ∙ ap move_count c.self.view_is in
    let present : c.self.inside.present ≡ index net = c.self.invariant.1 ∙ ap index c.self.view_is in
    let last : place ≡ move_count net = omega (arith, c.if-place-self.false, c.if-place-self-2.false, count) in
    let text = c.bytes.ensures.bytes ∙ c.put_end.ensures.text ∙ (λ j. joined (end_words (count j) (present j)))
    ∙ sym (text_last net place last) in
    let there : nat_lt (move_count net) place ≡ false = grind (arith, nat_tests) in
    let no_move : nat_lt place (move_count net) ≡ false = grind (arith, nat_tests) in
    rw (there, no_move, ← text) (c.finding_of.ensures ∙ ap (λ b. finding_of b false) c.agrees.ensures)
