-- The counter's ledger is that of the blank.
use Rattle.transyt_desks.proofs.tests.two_desks_are_at_work_at_once.Given as goal

-- the ledger of the call
abbrev pub ghosts-two_rounds_of_two : goal.ghosts-two_rounds_of_two
ghosts-two_rounds_of_two g a = record { name = a.blank.name; parts = a.blank.parts }
