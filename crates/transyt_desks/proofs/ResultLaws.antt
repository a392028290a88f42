-- TryResults: a move's desk is the rest of its number by the number of desks, and its turn the quotient.
use Rattle.std.proofs.Common.{◌≡◌, ℕ, ◌+◌, ◌*◌, ◌/◌, ◌%◌, ◌<◌, ◌≤◌, List, length, slice_index_or, slice_set, [], ◌∷◌, ◌++◌}
use Rattle.std.proofs.Common.{nat_lt, Option, Some, None}
use Rattle.std.proofs.Common.{length-append, refl, ap, sym, ◌∙◌, subst, arith}
use Rattle.std.proofs.lemmas.Bool.Decides.{nat_tests}
use Rattle.std.proofs.lemmas.Option.{none-some}
use Rattle.std.proofs.lemmas.List.{get_or-set_other, get_or_append_left, get_or_default, get_or_at}
use Rattle.std.proofs.lemmas.Bool.{cond-false}
use Rattle.std.proofs.lemmas.Grind.{get_or-set_at}
use Rattle.std.proofs.Math.Nat.{mul-le-mul_right}
use borrow.Author.Count.{below_more}
use Rattle.std.proofs.lemmas.Nat.{mod_below}
use Rattle.transyt_net.specs.declared.edit.Edit.{Edit}
use Rattle.transyt_net.specs.declared.edit.EditFault.{EditFault}
use Rattle.transyt_net.specs.EditFaults.{edit_fault}
use Rattle.transyt_net.specs.Edits.{with_edit}
use Rattle.transyt_net.specs.Parts.{Network}
use Rattle.transyt_moves.specs.Moves.{move}
use Rattle.transyt_sweep.specs.Sweeps.{index}
use Rattle.transyt_track.specs.Due.{edit_work}
use Rattle.transyt_session.specs.declared.answers.Tried.{Tried}
use Rattle.transyt_session.specs.Session.{try_of, tried_with}
use Rattle.transyt_desks.specs.declared.desk.Desk.{Desk}
use Rattle.transyt_desks.specs.declared.results.TryResults.{TryResults}
use Rattle.transyt_desks.specs.declared.results.MadeMove.{MadeMove}
use Rattle.transyt_desks.specs.declared.batch.Batch.{Batch}
use Rattle.transyt_desks.specs.Stretches.{made_at, made_by, place_at, turn_place}
use Rattle.transyt_desks.specs.Stretches.{AreResults, AreTried, AreTriesAt, HasTried, HaveTried}
use Rattle.transyt_desks.specs.Desks.{no_desk}
use Rattle.transyt_desks.proofs.TriedLaws.{none_by}

-- one try more
pub tries_more : (net : Network) (places : ℕ → ℕ) (n : ℕ) (tries : List Tried) (t : Tried) → n < length tries
    → AreTriesAt net places n tries → t ≡ try_of net (move net (places n)) → edit_work net (move net (places n)) ≤ 8000
    → AreTriesAt net places (n + 1) (slice_set tries n t)
tries_more net places n tries t inside are is small =
    let P : ℕ → Type 0 = λ k. (d : Tried) → slice_index_or (slice_set tries n t) k d ≡ try_of net (move net (places k)) in
    record {
      each = λ k d less. below_more P n
          (λ k fewer d. get_or-set_other tries n k t d (λ same. absurd (omega (arith, same, fewer))) ∙ are.each k d fewer)
          (λ d. get_or-set_at tries n n t d refl inside ∙ is) k less d;
      few = below_more (λ k. edit_work net (move net (places k)) ≤ 8000) n are.few small;
    }

-- what the desk found whose turn the move with a number is
abbrev pub results_of : Batch → List Desk → ℕ → Desk → TryResults
results_of batch desks number d = (slice_index_or desks (number % batch.desks) d).results

-- the try of a move that its desk took back: it has little work, and isn't made
pub record WasTakenBack (net : Network) (batch : Batch) (number : ℕ) (result : Tried) : Type 0 where
  pub tried : result ≡ try_of net (move net (place_at batch.place batch.count number))
  pub few : edit_work net (move net (place_at batch.place batch.count number)) ≤ 8000
  pub passes : made_at net batch.bound (place_at batch.place batch.count number) ≡ None

-- the result of a move that its desk took back, and what is known where the desk had stopped
module _ (net : Network) (batch : Batch) (desks : List Desk) (number : ℕ) (d : Desk) (found : AreTried net batch desks)
    (inside : number < batch.room) where
  -- its turn and its desk
  turn_is : number % batch.desks + number / batch.desks * batch.desks ≡ number
  turn_is = omega (arith, batch.several)

  pub its : AreResults net batch (number % batch.desks) (results_of batch desks number d)
  its =
      let there : number % batch.desks < length desks =
      omega (arith, mod_below number batch.desks (omega (arith, batch.several)), found.count) in
      subst (λ (x : Desk). AreResults net batch (number % batch.desks) x.results)
      (get_or_default desks (number % batch.desks) no_desk d there) (found.each (number % batch.desks) there)

  pub found_at : (t : Tried) → number / batch.desks < (results_of batch desks number d).passed
      → WasTakenBack net batch number (slice_index_or (results_of batch desks number d).tries (number / batch.desks) t)
  found_at t before =
      let turn = number / batch.desks in
      subst (λ n. WasTakenBack net batch n (slice_index_or (results_of batch desks number d).tries turn t)) turn_is (record {
        tried = its.tries.each turn t before;
        few = its.tries.few turn before;
        passes = its.passes turn before;
      })

  -- a desk that has stopped has made a move
  pub stopped_made : (results_of batch desks number d).passed ≤ number / batch.desks → (results_of batch desks number d).made ≡ None → ⊥
  stopped_made stopped none =
      let going = its.whole none (number / batch.desks) (omega (arith, turn_is, inside)) in omega (arith, stopped, going)

  -- it is this one, where no move before it is made
  pub stopped_at : (results_of batch desks number d).passed ≤ number / batch.desks
      → ((k : ℕ) → k < number → made_at net batch.bound (place_at batch.place batch.count k) ≡ None)
      → (made : MadeMove) → (results_of batch desks number d).made ≡ Some made
      → made_at net batch.bound (place_at batch.place batch.count number) ≡ Some made
  stopped_at stopped before made is =
      let its_number = number % batch.desks + (results_of batch desks number d).passed * batch.desks in
      let here : made_at net batch.bound (place_at batch.place batch.count its_number) ≡ Some made = its.found made is in
      let never : its_number < number → ⊥ = λ fewer. none-some made (sym (before its_number fewer) ∙ here) in
      let most = mul-le-mul_right batch.desks stopped in
      let same : number ≡ its_number = omega (arith, most, never, turn_is) in
      ap (λ n. made_at net batch.bound (place_at batch.place batch.count n)) same ∙ here

-- nothing is made below nothing
none_below : (net : Network) (e : Edit) (fault : Option EditFault) → made_by 0 e (tried_with net e fault) ≡ None
none_below net e None = cond-false (nat_lt (index (with_edit net e)) 0) _ _ (grind (arith, nat_tests))
none_below net e (Some fault) = refl

pub nothing_made : (net : Network) (place : ℕ) → made_at net 0 place ≡ None
nothing_made net place = none_below net (move net place) (edit_fault net (move net place))

-- so with the bound 0 no desk stops
pub never_stops : (net : Network) (batch : Batch) (desk : ℕ) (results : TryResults) → batch.bound ≡ 0 → AreResults net batch desk results
    → results.made ≡ None
never_stops net batch desk results zero_bound its =
    let place = turn_place batch desk results.passed in
    none_by results.made (λ made is.
    none-some made (sym (ap (λ b. made_at net b place) zero_bound ∙ nothing_made net place) ∙ its.found made is))

-- and each has tried all its moves
pub going_on : (net : Network) (batch : Batch) (desks : List Desk) (number : ℕ) (d : Desk) → AreTried net batch desks
    → number < batch.room → batch.bound ≡ 0 → number / batch.desks < (results_of batch desks number d).passed
going_on net batch desks number d found inside zero_bound =
    let its_results = its net batch desks number d found inside in
    its_results.whole (never_stops net batch (number % batch.desks) (results_of batch desks number d) zero_bound its_results)
    (number / batch.desks) (omega (arith, turn_is net batch desks number d found inside, inside))

-- desks that have tried their moves, and one more after them
pub found_more : (net : Network) (batch : Batch) (olds news back : List Desk) (x y : Desk) → length back ≡ 1
    → HaveTried net batch olds news → HasTried net batch (length olds) (slice_index_or back 0 x) y
    → HaveTried net batch (olds ++ back) (news ++ slice_set back 0 y)
found_more net batch olds news [] x y one found last = absurd (omega (arith, one))
found_more net batch olds news (b ∷ c ∷ more) x y one found last = absurd (omega (arith, one))
found_more net batch olds news (b ∷ []) x y one found last = record {
  len = omega (arith, found.len, length-append news (y ∷ []), length-append olds (b ∷ []));
  each = λ k d less. below_more
      (λ k. (d : Desk) → HasTried net batch k (slice_index_or (olds ++ b ∷ []) k d) (slice_index_or (news ++ y ∷ []) k d))
      (length olds)
      (λ k fewer d. rw (get_or_append_left olds (b ∷ []) d k fewer, get_or_append_left news (y ∷ []) d k (omega (arith, found.len, fewer)))
      (found.each k d fewer))
      (λ d. rw (get_or_at olds b [] d (length olds) refl, get_or_at news y [] d (length olds) found.len) last)
      k (omega (arith, less, length-append olds (b ∷ []))) d;
}
