-- The find of a try is the index with the move.
use Rattle.std.proofs.Common.{◌≡◌, ◌∙◌, ap}
use Rattle.transyt_net.specs.Parts.{Network}
use Rattle.transyt_moves.specs.Moves.{move}
use Rattle.transyt_sweep.specs.Climb.{tried_at}
use Rattle.transyt_io.proofs.PrintLaws.{prints_same}
use Rattle.transyt_audit.specs.Certificate.{move_text}
use Rattle.transyt_line_answers.specs.Conditions.{index_found}
use Rattle.transyt_line_answers.proofs.CertLaws.{found_at_place}
use Rattle.transyt_line_answers.proofs.certifying.write_cert_place.Goals as goal

-- the line is that of the place
pub returns : goal.returns
returns g c =
    let net = c.args.session.now.net in
    let place = c.args.place in
    let edit : c.move_at-edit.result ≡ move net place =
    c.move_at-edit.ensures ∙ ap (λ (n : Network). move n place) c.net.ensures in
    let found : c.index_of-found.result ≡ tried_at net place =
    c.index_of-found.ensures ∙ ap index_found c.requires.tried ∙ found_at_place net place in
    let told = c.write_line.ensures in
    prints_same _ _ c.write_line.result c.move_line.new.line _
    (record { ok = told.ok; err = told.err; cause = told.cause })
    (c.move_line.ensures.text ∙ (λ i. move_text place (edit i) (found i)))
