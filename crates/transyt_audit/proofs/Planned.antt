-- The audit of a network with a climb plan.
use Rattle.std.proofs.Common.{◌≡◌, ℕ, ◌+◌, ◌*◌, ◌-◌, ◌≤◌, List, length, Option, Some, is_some, true, if◌then◌else◌, ap, sym, ◌∙◌, arith}
use Rattle.std.specs.Option.{option_map}
use Rattle.transyt_io.specs.Lines.{lines}
use Rattle.transyt_moves.specs.Moves.{move_count}
use Rattle.transyt_net.specs.Parts.{Network}
use Rattle.transyt_syntax.specs.declared.code.Code.TheVariants as code
use Rattle.transyt_audit.specs.Verdict.{given_from, judged, verdict}
use Rattle.transyt_audit.specs.Findings.{steps_from}
use Rattle.transyt_audit.specs.declared.verdict.Verdict.TheVariants.{No}

-- there is a plan where one is given
pub planned : {A B : Type 0} (f : A → B) (o : Option A) (p : A) (plan : Option B) → option_map f o ≡ plan
    → o ≡ Some p → is_some plan ≡ true
planned f o p plan value given = ap is_some (sym value) ∙ ap (λ x. is_some (option_map f x)) given

-- the verdict is what the given lines are judged by
pub verdict_is : (net truth : Network) (table : List ℕ) (line : ℕ) → truth ≡ net → is_some net.plan ≡ true
    → judged truth (given_from (line + 1) (lines table)) (line + 1 + length (lines table)) ≡ verdict net table line
verdict_is net truth table line same plan =
    ap (λ n. judged n (given_from (line + 1) (lines table)) (line + 1 + length (lines table))) same
    ∙ ap (λ b. if b then judged net (given_from (line + 1) (lines table)) (line + 1 + length (lines table))
    else No line code.NoPlan) (sym plan)

one_more : (each places before opened after : ℕ) → opened ≡ before + each → after ≤ opened + each * (places - 0)
    → after ≤ before + each * (places + 1)
one_more each places before opened after first rest = grind arith

-- the network's own evaluation is one more than those of its moves
pub steps_are : (net truth : Network) (before opened after : ℕ) → truth ≡ net
    → opened ≡ before + net.frame.sweeps * length net.links → after ≤ opened + steps_from truth 0
    → after ≤ before + net.frame.sweeps * length net.links * (move_count net + 1)
steps_are net truth before opened after same first rest =
    one_more (net.frame.sweeps * length net.links) (move_count net) before opened after first (rw same at rest)
