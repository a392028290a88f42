-- The bytes copied to the front are std's text of the value, which is the shortest.
use Rattle.std.proofs.Common.{ℕ, ◌^◌, ◌<◌, ◌≤◌, List, length, sym, ap, ◌∙◌, subst, arith}
use Rattle.std.proofs.lemmas.Fmt.{length-decimal-le_wide}
use Rattle.std.proofs.lemmas.List.{take_at}
use Rattle.std.specs.Fmt.{decimal}
use Rattle.transyt_num.proofs.NumberLaws.{shortest_decimal, number_of-decimal}
use Rattle.transyt_num.specs.Number.{number_of, IsShortest}
use Rattle.transyt_num.proofs.writing.put_number.Goals as goal

-- the text is copied
pub returns-clause-text : goal.returns-clause-text
returns-clause-text c =
    take_at c.copy_from_slice.new.self _ _ (ap length c.copy_from_slice.ensures.after)
    ∙ c.copy_from_slice.ensures.after ∙ c.as_bytes-text.ensures.value ∙ c.format.ensures.text

-- it is the shortest one
pub returns-clause-shortest : goal.returns-clause-shortest
returns-clause-shortest c =
    subst (λ (text : List ℕ). IsShortest c.args.v text) (sym (returns-clause-text c))
    (shortest_decimal c.args.v (omega (arith, c.ranges.v.fits)))

-- and reads as the value
pub returns-clause-read_back : goal.returns-clause-read_back
returns-clause-read_back c = λ small. ap number_of (returns-clause-text c) ∙ number_of-decimal c.args.v small

-- the length is that of the text
pub returns-clause-some : goal.returns-clause-some
returns-clause-some c =
    let some = (shortest_decimal c.args.v (omega (arith, c.ranges.v.fits))).some in
    omega (arith, some, ap length (c.as_bytes-text.ensures.value ∙ c.format.ensures.text))

pub returns-clause-digits : goal.returns-clause-digits
returns-clause-digits c = λ k some small.
    let fits : c.args.v < 10 ^ 64 = omega (arith, c.ranges.v.fits) in
    let few : length (decimal c.args.v) ≤ k = length-decimal-le_wide k c.args.v some small fits in
    omega (arith, few, ap length (c.as_bytes-text.ensures.value ∙ c.format.ensures.text))

-- 2^64 is below 10^20
pub returns-clause-short : goal.returns-clause-short
returns-clause-short c = λ small. returns-clause-digits c 20 (omega arith) (omega arith)
