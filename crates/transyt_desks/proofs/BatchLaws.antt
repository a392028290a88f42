-- What a crew comes to that has tried the moves of a batch.
use Rattle.std.proofs.Common.{◌≡◌, ◌≢◌, ℕ, ◌+◌, ◌*◌, ◌%◌, ◌<◌, List, length, slice_index_or, slice_set, None}
use Rattle.std.proofs.Common.{refl, ap, sym, ◌∙◌, subst, arith}
use Rattle.std.proofs.lemmas.Option.{none-some}
use Rattle.transyt_net.specs.Parts.{SameShape, shape as shape_word}
use Rattle.transyt_sweep.specs.Sweeps.{index}
use Rattle.transyt_session.specs.Session.{SessionValue, standing_for}
use Rattle.transyt_desks.specs.declared.desk.Desk.{Desk}
use Rattle.transyt_desks.specs.declared.results.TryResults.{TryResults}
use Rattle.transyt_desks.specs.declared.batch.Batch.{Batch}
use Rattle.transyt_desks.specs.declared.stretch.Stretch.{Stretch}
use Rattle.transyt_desks.specs.Desks.{no_desk, session_at, sessions_of}
use Rattle.transyt_desks.specs.Batches.{AreStanding, HasTriedBatch}
use Rattle.transyt_desks.specs.Stretches.{made_at, net_made, place_at, turn_place, AreResults, HaveTried, IsStretch, MadeAt}
use Rattle.transyt_desks.proofs.DeskLaws.{net_read, session_is, sessions_count, set_each}
use Rattle.transyt_desks.proofs.ResultLaws.{never_stops}
use Rattle.transyt_desks.proofs.TriedLaws.{lowers_none, made_shape, none_by}

-- what the desk at a place found
abbrev results_at : List Desk → ℕ → TryResults
results_at desks k = (slice_index_or desks k no_desk).results

-- desks that have come to the network of desk 0 and tried their moves of a batch on it
module _ (zero_desk : SessionValue) (batch : Batch) (olds news : List Desk) (has : HaveTried zero_desk.net batch olds news) where
  inside : (k : ℕ) → k < length (sessions_of news) → k < length news
  inside k less = omega (arith, less, sessions_count news)

  its : (k : ℕ) → k < length (sessions_of news) → AreResults zero_desk.net batch k (results_at news k)
  its k less = (has.each k no_desk (omega (arith, inside k less, has.len))).results

  its_session : (k : ℕ) → k < length (sessions_of news) → session_at (sessions_of news) k
      ≡ standing_for (net_made (results_at news k).made zero_desk.net) (slice_index_or olds k no_desk).session
  its_session k less = session_is news k ∙ (has.each k no_desk (omega (arith, inside k less, has.len))).session

  -- none has a trial
  closed_all : (k : ℕ) → k < length (sessions_of news) → (session_at (sessions_of news) k).before ≡ None
  closed_all k less = ap (λ (s : SessionValue). s.before) (its_session k less)

  -- the networks have the same shape
  shapes_all : (k : ℕ) → k < length (sessions_of news) → SameShape (session_at (sessions_of news) k).net zero_desk.net
  shapes_all k less =
      ap (λ (t : SessionValue). shape_word t.net) (its_session k less)
      ∙ made_shape zero_desk.net batch.bound (turn_place batch k (results_at news k).passed) (results_at news k).made (its k less).found

  -- a desk that has made no move stands for the network
  net_kept : (k : ℕ) → k < length (sessions_of news) → (results_at news k).made ≡ None
      → (session_at (sessions_of news) k).net ≡ zero_desk.net
  net_kept k less none =
      ap (λ (s : SessionValue). s.net) (its_session k less) ∙ ap (λ made. net_made made zero_desk.net) none

  -- with the bound 0 all do
  pub all_standing : batch.bound ≡ 0 → (ends : List Desk) → ends ≡ news → AreStanding zero_desk.net (sessions_of ends)
  all_standing zero_bound ends are = subst (λ ds. AreStanding zero_desk.net (sessions_of ds)) (sym are) (record {
    nets = λ k less. net_kept k less (never_stops zero_desk.net batch k (results_at news k) zero_bound (its k less));
    closed = closed_all;
  })

  module _ (s : Stretch) (closed : zero_desk.before ≡ None) (bound : batch.bound ≡ index zero_desk.net)
      (stretch : IsStretch zero_desk.net batch.place batch.count batch.room s) where
    -- nor has any made a move where none of the batch lowers the index
    none_made_all : s.made ≡ None → (k : ℕ) → k < length (sessions_of news) → (results_at news k).made ≡ None
    none_made_all none k less =
        let number = k + (results_at news k).passed * batch.desks in
        let place = place_at batch.place batch.count number in
        none_by (results_at news k).made (λ made is.
        let higher = stretch.passes number (omega (arith, (its k less).next made is, stretch.whole none)) in
        none-some made (sym (ap (λ b. made_at zero_desk.net b place) bound ∙ lowers_none zero_desk.net place higher)
        ∙ (its k less).found made is))

    -- then all stand for the network
    pub tried_none : s.made ≡ None → HasTriedBatch batch zero_desk zero_desk (sessions_of news) s
    tried_none none = record {
      stretch = stretch;
      zero_is = (λ i. record { net = zero_desk.net; before = closed i; work = zero_desk.work })
          ∙ ap (λ made. standing_for (net_made made zero_desk.net) zero_desk) (sym none);
      zero_shape = refl;
      same = λ _ k less. net_kept k less (none_made_all none k less);
      shapes = shapes_all;
      closed = closed_all;
    }

    -- else desk 0 has traded networks with the desk that has made the move
    pub tried_some : (zero_new : SessionValue) (d y : Desk) → s.made ≢ None → MadeAt batch news s
        → zero_new ≡ standing_for (slice_index_or news (s.passed % batch.desks) d).session.net zero_desk
        → y.session ≡ standing_for zero_desk.net (slice_index_or news (s.passed % batch.desks) d).session
        → HasTriedBatch batch zero_desk zero_new (sessions_of (slice_set news (s.passed % batch.desks) y)) s
    tried_some zero_new d y some there zero_is y_is =
        let at = s.passed % batch.desks in
        let here : at < length (sessions_of news) = omega (arith, there.inside, sessions_count news) in
        let new_net = ap (λ (t : SessionValue). t.net) zero_is ∙ net_read news at d there.inside in
        let its_net = ap (λ (t : SessionValue). t.net) (its_session at here) ∙ ap (λ o. net_made o zero_desk.net) there.made in
        record {
          stretch = stretch;
          zero_is = zero_is ∙ ap (λ n. standing_for n zero_desk) (net_read news at d there.inside ∙ its_net);
          zero_shape = ap shape_word new_net ∙ shapes_all at here;
          same = λ none. absurd (some none);
          shapes = set_each (λ t. SameShape t.net zero_desk.net) news at y (ap (λ (t : SessionValue). shape_word t.net) y_is) shapes_all;
          closed = set_each (λ t. t.before ≡ None) news at y (ap (λ (t : SessionValue). t.before) y_is) closed_all;
        }
