-- How far a table was read: the start, one row more, and the ends.
use Rattle.std.proofs.Common.{◌≡◌, ℕ, ◌+◌, ◌-◌, ◌≤◌, true, false, List, [], ◌∷◌, ◌++◌, length, All, Option, Some, Ok}
use Rattle.std.proofs.Common.{refl, sym, ◌∙◌, ap, arith}
use Rattle.std.proofs.lemmas.Bool.{cond_both}
use Rattle.std.proofs.lemmas.List.{append-nil, append_assoc, length-append}
use Rattle.std.proofs.lemmas.List.Elements.{All-nil, All-same, All-weaker}
use Rattle.csv.specs.declared.reader.Reader.{Reader}
use Rattle.csv.specs.declared.parser.State.TheVariants as st
use Rattle.csv.specs.Reading.{ReadRecord, Reached, default_config, source_of, strip_bom, is_bom, reader_state}
use Rattle.csv.proofs.ReadFacts.{rows-more, rows-end}
use Rattle.transyt_net.specs.Parts.{Network}
use Rattle.transyt_counts.specs.declared.key.Key.{Key}
use Rattle.transyt_counts.specs.declared.row.Count.{Count}
use Rattle.transyt_counts.specs.declared.tally.Totals.{Totals}
use Rattle.transyt_counts.specs.declared.counts.CountStop.{CountStop}
use Rattle.transyt_counts.specs.declared.counts.CountStop.TheVariants as stop
use Rattle.transyt_counts.specs.Rows.{records_of, read_row}
use Rattle.transyt_counts.specs.Counts.{with_count, tally_of, HasRoom, AreCounted, read_rows, counts_of, Refuses}
use Rattle.transyt_counts.specs.Progress.{IsReading, RefusesRow}
use Rattle.transyt_counts.proofs.TextLaws.{records_reached, reached_few}
use Rattle.transyt_counts.proofs.TallyLaws.{AreFew, tally_push, entries_few}
use Rattle.transyt_counts.proofs.RowLaws.{good_row}
use Rattle.transyt_counts.proofs.ReadLaws.{push_ok, push_err, rows_good}

-- a byte order mark is bytes too
strip_short : (xs : List ℕ) → length (strip_bom xs) ≤ length xs
unfolding strip_bom
strip_short (a ∷ b ∷ c ∷ rest) =
    cond_both (is_bom a b c) rest (a ∷ b ∷ c ∷ rest) (λ ys. length ys ≤ length (a ∷ b ∷ c ∷ rest)) (λ is. omega arith) (λ no. omega arith)
strip_short xs = omega arith

-- the rows before a number were read from a table, each has no code, and these are the totals of their keys
pub record HasRead {R : Type 0} (rem : R → Option (List ℕ)) (net : Network) (table : List ℕ) (reader : Reader R) (entries : List (Key × Totals))
    (row : ℕ) : Type 0 where
  pub rows : List (List (List ℕ))
  pub left : List ℕ
  pub counts : List Count
  pub source : source_of rem reader ≡ Some left
  pub reached : Reached default_config st.StartRecord (strip_bom table) rows (reader_state reader) left
  pub number : length rows + 1 ≡ row
  pub counted : read_rows net 1 rows ≡ Ok counts
  pub tally : entries ≡ tally_of counts
  pub few : All (λ e. AreFew row e.1) entries

module _ {R : Type 0} (rem : R → Option (List ℕ)) (net : Network) (table : List ℕ) where
  -- nothing was read yet
  pub read_start : (reader : Reader R) (entries : List (Key × Totals))
      → reader_state reader ≡ st.StartRecord → source_of rem reader ≡ Some (strip_bom table) → entries ≡ []
      → HasRead rem net table reader entries 1
  unfolding Reached
  read_start reader entries state source empty = record {
    rows = [];
    left = strip_bom table;
    counts = [];
    source = source;
    reached = (sym state, refl);
    number = refl;
    counted = refl;
    tally = empty;
    few = All-same (λ (e : Key × Totals). AreFew 1 e.1) entries [] empty (All-nil (λ (e : Key × Totals). AreFew 1 e.1));
  }

  -- a row more
  pub read_more : (a b : Reader R) (before after : List (Key × Totals))
      (row : ℕ) (fields : List (List ℕ)) (c : Count)
      → IsReading a → HasRead rem net table a before row → ReadRecord rem a b true fields → read_row net row fields ≡ Ok c
      → after ≡ with_count before c → HasRead rem net table b after (row + 1)
  read_more a b before after row fields c reading has read counts made =
      let (left, source, reached) = rows-more rem a b fields default_config st.StartRecord (strip_bom table) has.left has.rows
      reading.config has.source has.reached read in
      let number : 1 + length has.rows ≡ row = omega (arith, has.number) in
      record {
        rows = has.rows ++ fields ∷ [];
        left = left;
        counts = has.counts ++ c ∷ [];
        source = source;
        reached = reached;
        number = omega (arith, length-append has.rows (fields ∷ []), has.number);
        counted = push_ok net 1 has.rows has.counts fields c has.counted (ap (λ m. read_row net m fields) number ∙ counts);
        tally = made ∙ ap (λ es. with_count es c) has.tally ∙ tally_push has.counts c;
        few = All-same (λ (e : Key × Totals). AreFew (row + 1) e.1) after (with_count before c) made
            (entries_few net row c before (good_row net row fields c counts) has.few);
      }

  -- the end of the table
  pub read_end : (a b : Reader R) (entries : List (Key × Totals))
      (row : ℕ) (fields : List (List ℕ))
      → IsReading a → HasRead rem net table a entries row → ReadRecord rem a b false fields
      → (counts : List Count) × (read_rows net 1 (records_of table) ≡ Ok counts) × (length counts ≡ row - 1) × (entries ≡ tally_of counts)
  read_end a b entries row fields reading has read =
      let none = rows-end rem a b fields default_config has.left reading.config has.source read in
      let (rest, split, nothing) = records_reached default_config (strip_bom table) has.rows (reader_state a) has.left has.reached in
      let all : records_of table ≡ has.rows = split ∙ ap (λ rs. has.rows ++ rs) (nothing none) ∙ append-nil has.rows in
      let good = rows_good net 1 has.rows has.counts has.counted in (
        has.counts,
        ap (read_rows net 1) all ∙ has.counted,
        omega (arith, good.1, has.number),
        has.tally,
      )

  -- a row with a code
  pub read_refused : (a b : Reader R) (entries : List (Key × Totals))
      (row : ℕ) (fields : List (List ℕ)) (halt : CountStop)
      → IsReading a → HasRead rem net table a entries row → ReadRecord rem a b true fields → RefusesRow net row fields halt
      → Refuses (counts_of net table) halt
  read_refused a b entries row fields stop.Memory reading has read refused = tt
  read_refused a b entries row fields (stop.Refused number code) reading has read refused =
      let (left, source, reached) = rows-more rem a b fields default_config st.StartRecord (strip_bom table) has.left has.rows
      reading.config has.source has.reached read in
      let (rest, split, nothing) = records_reached default_config (strip_bom table) (has.rows ++ fields ∷ []) (reader_state b) left reached in
      let all : records_of table ≡ has.rows ++ fields ∷ rest = split ∙ append_assoc has.rows (fields ∷ []) rest in
      let at : 1 + length has.rows ≡ row = omega (arith, has.number) in
      rw (all, push_err net 1 has.rows has.counts fields code rest has.counted (rw (← at) at refused.1), at, refused.0)

  -- rows are no more than bytes
  pub read_few : (a : Reader R) (entries : List (Key × Totals)) (row : ℕ)
      → HasRead rem net table a entries row → row ≤ length table + 1
  read_few a entries row has =
      let few = reached_few default_config st.StartRecord (strip_bom table) has.rows (reader_state a) has.left refl has.reached in
      omega (arith, few, strip_short table, has.number)

  -- so there is room for a row more
  pub read_room : (a : Reader R) (entries : List (Key × Totals)) (row : ℕ)
      → length table ≤ 4194304 → HasRead rem net table a entries row → All (λ e. HasRoom e.1) entries
  read_room a entries row fits has =
      let rows = read_few a entries row has in
      All-weaker (λ (e : Key × Totals). AreFew row e.1) (λ (e : Key × Totals). HasRoom e.1)
      (λ e few. (omega (arith, few.vehicles, rows), omega (arith, few.minutes.1, rows))) entries has.few

  -- and each entry comes from rows
  pub read_counted : (a : Reader R) (entries : List (Key × Totals)) (row : ℕ)
      → length table ≤ 4194304 → HasRead rem net table a entries row → All (λ e. AreCounted e.1) entries
  read_counted a entries row fits has =
      let rows = read_few a entries row has in
      All-weaker (λ (e : Key × Totals). AreFew row e.1) (λ (e : Key × Totals). AreCounted e.1)
      (λ e few. (few.minutes.0, omega (arith, few.vehicles, rows))) entries has.few
