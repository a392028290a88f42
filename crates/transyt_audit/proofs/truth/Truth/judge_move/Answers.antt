-- The line compared is the true one of the place, and the index that of its move.
use Rattle.std.proofs.Common.{◌≡◌, ap, sym, ◌∙◌}
use Rattle.transyt_net.specs.Parts.{Network}
use Rattle.transyt_moves.specs.Moves.{move}
use Rattle.transyt_sweep.specs.Sweeps.{index}
use Rattle.transyt_sweep.specs.Climb.{tried_at}
use Rattle.transyt_audit.specs.Certificate.{joined, new_line, move_words}
use Rattle.transyt_audit.proofs.TrueLines.{text_at, lowers_is}
use Rattle.transyt_audit.proofs.truth.Truth.judge_move.Goals as goal

pub returns-clause-finding : goal.returns-clause-finding
returns-clause-finding g c =
    let net = c.args.self.now in
    let place = c.args.place in
    let edit : c.move_at.result ≡ move net place =
    c.move_at.ensures ∙ ap (λ (n : Network). move n place) (c.in_ok-tried.ensures.same ∙ c.self.view_is) in
    let tried : c.in_ok-tried.tried ≡ tried_at net place =
    c.in_ok-tried.ensures.tried ∙ ap (λ (n : Network). tried_at n place) c.self.view_is in
    let present : c.self.inside.present ≡ index net = c.self.invariant.1 ∙ ap index c.self.view_is in
    let text = c.bytes.ensures.bytes ∙ c.put_move.ensures.text
    ∙ (λ j. joined (move_words (new_line place (edit j) (tried j)))) ∙ sym (text_at net place c.requires.place) in
    rw (c.finding_of.ensures, c.agrees.ensures, text, c.is_below-lowers.ensures, present, tried, lowers_is net place)
