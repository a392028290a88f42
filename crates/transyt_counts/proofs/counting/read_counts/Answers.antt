-- The answer from the entries is that of the table.
use Rattle.std.proofs.Common.{◌≡◌, ℕ, List, Ok, sym, ap, length}
use Rattle.std.proofs.lemmas.Result.{IfOk-weaker}
use Rattle.transyt_net.specs.Parts.{Network}
use Rattle.transyt_counts.specs.declared.key.Key.{Key}
use Rattle.transyt_counts.specs.declared.row.Count.{Count}
use Rattle.transyt_counts.specs.declared.tally.Totals.{Totals}
use Rattle.transyt_counts.specs.Rows.{records_of}
use Rattle.transyt_counts.specs.Counts.{read_rows, answer_of, tally_answer, counts_of, tally_of}
use Rattle.transyt_counts.specs.Exact.{AreExact}
use Rattle.transyt_counts.proofs.ExactLaws.{table_exact}
use Rattle.transyt_counts.proofs.ReadLaws.{rows_good}
use Rattle.transyt_counts.proofs.counting.read_counts.Goals as goal

-- one answer, from the entries and from the table
one_answer : (net : Network) (table : List ℕ) (counts : List Count) (rows : ℕ) (entries : List (Key × Totals))
    → read_rows net 1 (records_of table) ≡ Ok counts → length counts ≡ rows → entries ≡ tally_of counts
    → tally_answer rows entries ≡ counts_of net table
one_answer net table counts rows entries read count tally = rw (← count, tally) (sym (ap answer_of read))

pub returns-clause-counts : goal.returns-clause-counts
returns-clause-counts c =
    let (counts, read, count, tally) = c.in-Ok.ensures.ok in
    rw (one_answer c.args.net.now c.args.table.now counts c.in-Ok.rows c.tally_rows-read.new.tally.entries read count tally)
    at c.edits_by-found.ensures.counts

pub returns-clause-refused : goal.returns-clause-refused
returns-clause-refused c =
    let (counts, read, count, tally) = c.in-Ok.ensures.ok in
    rw (one_answer c.args.net.now c.args.table.now counts c.in-Ok.rows c.tally_rows-read.new.tally.entries read count tally)
    at c.edits_by-found.ensures.refused

-- an answer is exact
pub returns-clause-exact : goal.returns-clause-exact
returns-clause-exact c =
    let net : Network = c.args.net.now in
    let table : List ℕ = c.args.table.now in
    let (counts, read, count, tally) = c.in-Ok.ensures.ok in
    IfOk-weaker c.edits_by-found.result (λ v. counts_of net table ≡ Ok v)
    (λ v. (cs : List Count) × (read_rows net 1 (records_of table) ≡ Ok cs) × (length cs ≡ v.rows) × AreExact net cs v.edits)
    (λ v answer. table_exact net table counts v c.frame.ensures.valid read (rows_good net 1 (records_of table) counts read).0 answer)
    (returns-clause-counts c)
