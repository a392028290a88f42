-- The parts are written one after another; where one breaks off, a front of the whole is written.
use Rattle.std.proofs.Common.{refl}
use Rattle.transyt_io.proofs.PrintLaws.{prints_both, prints_front, prints_same}
use Rattle.transyt_deck.proofs.CardLines.{parts_are}
use Rattle.transyt_deck.proofs.ReadBack.{deck_read_back}
use Rattle.transyt_deck.proofs.deck_text.print_deck.Goals as goal

-- the text broke off in the frame
pub returns-in_err-print_frame-clause-prints : goal.returns-in_err-print_frame-clause-prints
returns-in_err-print_frame-clause-prints g c =
    prints_same _ _ _ _ _
    (prints_front _ _ _ c.from_residual.ensures.0 c.in_err-print_frame.ensures)
    (parts_are c.args.net.now c.frame.ensures.value refl refl refl)

-- the text broke off in the nodes
pub returns-in_err-print_nodes-clause-prints : goal.returns-in_err-print_nodes-clause-prints
returns-in_err-print_nodes-clause-prints g c =
    prints_same _ _ _ _ _
    (prints_both _ _ _ c.in_ok-print_frame.ensures
    (prints_front _ _ _ c.from_residual-in_err-print_nodes.ensures.0 c.in_err-print_nodes.ensures))
    (parts_are c.args.net.now c.frame.ensures.value c.nodes.ensures.value refl refl)

-- one part after the other
pub returns-clause-prints : goal.returns-clause-prints
returns-clause-prints g c =
    prints_same _ _ _ _ _
    (prints_both _ _ _ c.in_ok-print_frame.ensures
    (prints_both _ _ _ c.in_ok-print_nodes.ensures c.print_linked.ensures))
    (parts_are c.args.net.now c.frame.ensures.value c.nodes.ensures.value c.links.ensures.value c.plan.ensures.value)

-- the network is valid, so its text reads back, whether or not it was written whole
pub returns-in_err-print_frame-clause-reads_back : goal.returns-in_err-print_frame-clause-reads_back
returns-in_err-print_frame-clause-reads_back g c = deck_read_back c.args.net.now c.frame.ensures.valid

pub returns-in_err-print_nodes-clause-reads_back : goal.returns-in_err-print_nodes-clause-reads_back
returns-in_err-print_nodes-clause-reads_back g c = deck_read_back c.args.net.now c.frame.ensures.valid

pub returns-clause-reads_back : goal.returns-clause-reads_back
returns-clause-reads_back g c = deck_read_back c.args.net.now c.frame.ensures.valid
