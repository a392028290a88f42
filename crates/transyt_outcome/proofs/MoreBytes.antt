-- Bytes after others change nothing where one of their whole lines ends the run.
use Rattle.std.proofs.Common.{◌≡◌, ℕ, ◌++◌, Bool, true, false, List, [], sym, ◌∙◌, ap}
use Rattle.std.proofs.lemmas.List.{append-nil}
use Rattle.transyt_io.specs.Lines.{lines_by, lines, whole}
use Rattle.transyt_io.proofs.Lines.{whole_then}
use Rattle.transyt_outcome.specs.Runs.{Answering, RunAnswers, of_lines, answers_by, report_of, refused_of}
use Rattle.transyt_outcome.specs.Outcome.{EndsRun, IsSettled}
use Rattle.transyt_outcome.proofs.MoreLines.{lines_more, ended_stays}

module _ {State : Type 0} (by : Answering State) (taken : List ℕ)
    (ended : EndsRun (answers_by by (whole taken)).ending) where
  -- the answers to the whole lines are all
  whole_ends : (keep : Bool) (more : List ℕ)
      → answers_by by (lines_by keep (taken ++ more)) ≡ answers_by by (whole taken)
  whole_ends keep more =
      let parts = whole_then keep taken more in
      ap (answers_by by) parts.1 ∙ lines_more by (whole taken) parts.0
      ∙ ended_stays by (answers_by by (whole taken)) parts.0 ended

  -- also where the bytes are the whole input
  pub all_same : (more : List ℕ) → answers_by by (lines (taken ++ more)) ≡ answers_by by (lines taken)
  all_same more =
      whole_ends true more ∙ sym (whole_ends true []) ∙ ap (λ (xs : List ℕ). answers_by by (lines xs)) (append-nil taken)

  pub whole_same : (more : List ℕ) → answers_by by (whole (taken ++ more)) ≡ answers_by by (whole taken)
  whole_same more = whole_ends false more

-- bytes after a whole line that ends the run change nothing
pub lines_settled : {State : Type 0} (by : Answering State) → IsSettled (of_lines by)
lines_settled {State} by = record {
  ends = λ taken more ended. ap (λ (a : RunAnswers State). a.ending) (whole_same by taken ended more);
  report = λ taken more ended. ap (report_of by) (all_same by taken ended more);
  refused = λ taken more ended. ap (refused_of by) (all_same by taken ended more);
}
