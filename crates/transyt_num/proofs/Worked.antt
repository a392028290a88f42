-- The worked words and roots, computed from the definitions.
use Rattle.std.proofs.Common.{◌≡◌, map, refl}
use Rattle.transyt_num.specs.Number.{number_of}
use Rattle.transyt_num.specs.Root.{root, root_up_to}
use Rattle.transyt_num.specs.WorkedNumbers.{worked_roots, worked_words}

-- each word reads as the number beside it
pub words : map (λ row. number_of row.0) worked_words ≡ map (λ row. row.1) worked_words
words = refl

-- each number has the root beside it
pub roots : map (λ row. root row.0) worked_roots ≡ map (λ row. row.1) worked_roots
unfolding root_up_to
roots = refl
