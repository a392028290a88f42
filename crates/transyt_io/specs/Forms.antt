-- Lines of a fixed form.
use Rattle.std.specs.Prelude.{ℕ, ◌==◌, List, [], ◌∷◌, ◌++◌, drop, decimal, if◌then◌else◌}

-- the shortest decimal text of the first number, if there is one
abbrev pub first_text : List ℕ → List ℕ
first_text [] = []
first_text (n ∷ ns) = decimal n

-- the text of a byte of a form: for `#` the first number, and itself for any other
abbrev pub piece : ℕ → List ℕ → List ℕ
piece byte ns = if byte == 35 then first_text ns else byte ∷ []

-- the numbers that are left after a byte of a form
abbrev pub numbers_after : ℕ → List ℕ → List ℕ
numbers_after byte ns = if byte == 35 then drop 1 ns else ns

-- a form with its numbers, in shortest decimal text, in the places of `#`
unfoldable pub filled : List ℕ → List ℕ → List ℕ
filled [] ns = []
filled (byte ∷ form) ns = piece byte ns ++ filled form (numbers_after byte ns)

-- values in shortest decimal text, one blank before each
unfoldable pub values_text : List ℕ → List ℕ
values_text [] = []
values_text (v ∷ vs) = (32 ∷ decimal v) ++ values_text vs

-- a line of a form
unfoldable pub form_line : List ℕ → List ℕ → List ℕ
form_line form numbers = filled form numbers ++ 10 ∷ []

-- a line of a form with values after it
unfoldable pub values_line : List ℕ → List ℕ → List ℕ → List ℕ
values_line form numbers values = filled form numbers ++ values_text values ++ 10 ∷ []
