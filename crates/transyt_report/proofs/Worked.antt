-- What the worked texts and reports share, computed from the definitions.
use Rattle.std.proofs.Common.{ℕ, List, ◌≡◌, [], ◌∷◌, ◌++◌, codes, refl}
use Rattle.std.specs.Fmt.{digits}
use Rattle.transyt_delay.specs.declared.figures.Figures.{Figures}
use Rattle.transyt_io.specs.Forms.{filled, form_line}
use Rattle.transyt_report.specs.Texts.{index_line}
use Rattle.transyt_report.specs.Texts.{work_line}

-- an index
pub index_is : index_line 556223009 ≡ codes "INDEX 556223009" ++ 10 ∷ []
unfolding index_line form_line filled digits
index_is = refl

-- the work so far
pub work_is : work_line 1378 ≡ codes "WORK 1378" ++ 10 ∷ []
unfolding work_line form_line filled digits
work_is = refl

-- the lines of links, each with its figures
abbrev pub lines_by : {A : Type 0} (line : A → Figures → List ℕ) → List A → List Figures → List ℕ
lines_by line [] fs = []
lines_by line (link ∷ links) [] = []
lines_by line (link ∷ links) (f ∷ fs) = line link f ++ lines_by line links fs
