-- The worked lines, computed from the definitions.
use Rattle.std.proofs.Common.{◌≡◌, [], ◌∷◌, ◌++◌, codes, refl}
use Rattle.std.specs.Fmt.{digits}
use Rattle.transyt_io.specs.Forms.{filled, form_line, values_line, values_text}

-- a line with four numbers
pub step_line : form_line (codes "TOOK # OFFSET # # INDEX #") (3 ∷ 21 ∷ 0 ∷ 1948618 ∷ [])
    ≡ codes "TOOK 3 OFFSET 21 0 INDEX 1948618" ++ 10 ∷ []
unfolding form_line filled digits
step_line = refl

-- a line with three values
pub queue_line : values_line (codes "QUEUE #") (300 ∷ []) (214786 ∷ 0 ∷ 18446744073709551615 ∷ [])
    ≡ codes "QUEUE 300 214786 0 18446744073709551615" ++ 10 ∷ []
unfolding values_line values_text filled digits
queue_line = refl

-- a form with a number too few
pub one_number_short : filled (codes "NODE # OFFSET #") (7 ∷ []) ≡ codes "NODE 7 OFFSET "
unfolding filled digits
one_number_short = refl

-- a form with a number too many
pub one_number_over : filled (codes "NODE #") (7 ∷ 17 ∷ []) ≡ codes "NODE 7"
unfolding filled digits
one_number_over = refl
