-- The worked lines, computed from the definitions.
use Rattle.std.proofs.Common.{◌≡◌, codes, Some, None, refl}
use Rattle.std.specs.Fmt.{digits}
use Rattle.transyt_net.specs.declared.edit.Edit.TheVariants.{Offset, Change}
use Rattle.transyt_audit.specs.Certificate.{joined, new_line, move_words, end_words}

pub line_of_offset : joined (move_words (new_line 14 (Offset 300 15) (Some 520471746)))
    ≡ codes "MOVE 14 OFFSET 300 15 INDEX 520471746"
unfolding digits
line_of_offset = refl

pub line_of_barred : joined (move_words (new_line 53 (Change 21 2 1) None)) ≡ codes "MOVE 53 CHANGE 21 2 1 BARRED"
unfolding digits
line_of_barred = refl

pub line_of_end : joined (end_words 72 518578809) ≡ codes "CERT 72 INDEX 518578809"
unfolding digits
line_of_end = refl
