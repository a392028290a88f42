-- The worked tables, computed from the definitions.
use Rattle.std.proofs.Common.{◌≡◌, map, refl}
use Rattle.std.specs.Prelude.{count_by}
use Rattle.std.proofs.lemmas.List.Elements.{All-from_recursion}
use Rattle.csv.proofs.OnLiterals.{csv_on_literals}
use Rattle.transyt_net.specs.WorkedNets.{town}
use Rattle.transyt_counts.specs.Counts.{counts_of}
use Rattle.transyt_counts.specs.declared.row.Count.{Count}
use Rattle.transyt_counts.specs.Exact.{AreExact, sets}
use Rattle.transyt_counts.specs.WorkedTables.{four_counts, three_edits, worked_texts}

-- each text has the answer that is written beside it
pub texts : map (λ text. counts_of town text.0) worked_texts ≡ map (λ text. text.1) worked_texts
unfolding csv_on_literals
texts = refl

-- each row counts in one edit, each edit is allowed, and they set the counted flows
pub exact : AreExact town four_counts three_edits
exact = record {
  once = All-from_recursion (λ (c : Count). count_by (sets c.key) three_edits ≡ 1) four_counts (refl, (refl, (refl, (refl, tt))));
  allowed = (refl, (refl, (refl, tt)));
  after = refl;
}
