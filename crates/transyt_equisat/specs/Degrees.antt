-- Fractions of whole numbers, the links that count at a node, and their degrees of saturation.
use Rattle.std.specs.Prelude.{◌*◌, ◌≡◌, ◌≤◌, Bool, nat_lt, List, if◌then◌else◌, fold, ℕ, ◌&&◌, nat_eq, length}
use Rattle.std.specs.Prelude.{slice_index_or}
use Rattle.transyt_equisat.specs.declared.fraction.Fraction.{Fraction}
use Rattle.transyt_parts.specs.Parts.{LinkValue, total_flow}

-- the fraction 0
abbrev pub nothing : Fraction
nothing = record { top = 0; base = 1 }

-- whether a is above b
abbrev pub is_above : Fraction → Fraction → Bool
is_above a b = nat_lt (b.top * a.base) (a.top * b.base)

-- the greatest of these, the first where some are equal; 0 where there is none
abbrev pub greatest : List Fraction → Fraction
greatest ds = fold (λ a b. if is_above b a then b else a) nothing ds

-- a is at most b
abbrev pub AtMost : Fraction → Fraction → Type 0
AtMost a b = a.top * b.base ≤ b.top * a.base

-- a and b are equal
abbrev pub IsSame : Fraction → Fraction → Type 0
IsSame a b = a.top * b.base ≡ b.top * a.base

-- whether a link counts at the node of a number: it runs there, and in exactly one stage
abbrev pub is_counted : ℕ → LinkValue → Bool
is_counted number l = nat_eq l.node number && nat_eq (length l.stages) 1

-- the first stage that a link runs in, from 1: of a counted link the only one
abbrev pub first_stage : LinkValue → ℕ
first_stage l = slice_index_or l.stages 0 0

-- whether a link counts in a stage of the node of a number
abbrev pub counts_in : ℕ → ℕ → LinkValue → Bool
counts_in number stage l = is_counted number l && nat_eq (first_stage l) stage

-- the degree of saturation of a link at a green, in a cycle of so many steps
abbrev pub degree : ℕ → LinkValue → ℕ → Fraction
degree steps l green = record { top = total_flow l * steps; base = l.saturation * green }
