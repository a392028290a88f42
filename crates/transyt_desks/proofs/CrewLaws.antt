-- The first of a crew have tried moves, and the others are as they were.
use Rattle.std.proofs.Common.{◌≡◌, ◌≢◌, ℕ, ◌+◌, ◌-◌, ◌<◌, ◌≤◌, List, ◌++◌, length, take, drop, Bool, true, false, nat_lt, Option, Some, None}
use Rattle.std.proofs.Common.{slice_index_or, refl, ap, sym, ◌∙◌, subst, arith, max}
use Rattle.std.proofs.lemmas.List.{get_or-take, get_or-drop, length-take, take-map, take_at}
use Rattle.std.proofs.lemmas.Bool.Decides.{nat_tests}
use Rattle.std.proofs.lemmas.Option.{none-some}
use Rattle.transyt_net.specs.Parts.{SameShape}
use Rattle.transyt_session.specs.Session.{SessionValue}
use Rattle.transyt_desks.specs.declared.desk.Desk.{Desk}
use Rattle.transyt_desks.specs.declared.results.MadeMove.{MadeMove}
use Rattle.transyt_desks.specs.declared.batch.Batch.{Batch}
use Rattle.transyt_desks.specs.declared.stretch.Stretch.{Stretch}
use Rattle.transyt_desks.specs.Desks.{no_session, session_at, desks_of, sessions_of, AreAlike, AreDesks}
use Rattle.transyt_desks.specs.Batches.{CanAllFollow, CanFollow, HasTriedBatch}
use Rattle.transyt_desks.specs.Stretches.{net_made}
use Rattle.transyt_desks.proofs.DeskLaws.{crew_can, crew_shape, desk_each, session_read, sessions_count}

-- where the first of desks are all of a list
pub first_sessions : (n : ℕ) (front back : List Desk) → length front ≡ n → take n (sessions_of (front ++ back)) ≡ sessions_of front
first_sessions n front back count =
    take-map (λ (d : Desk). d.session) n (front ++ back) ∙ ap sessions_of (take_at front back n count)

-- each of a crew can come to the network of desk 0, also where it isn't known to follow
pub each_can : (zero_desk : SessionValue) (crew : List Desk) (in_step : ℕ) → AreDesks zero_desk (sessions_of crew) in_step
    → AreAlike (desks_of zero_desk (sessions_of crew)) → (k : ℕ) (d : Desk) → k < length crew
    → CanFollow zero_desk.net false (slice_index_or crew k d).session
each_can zero_desk crew in_step are alike k d less =
    subst (CanFollow zero_desk.net false) (sym (session_read crew k d less))
    (crew_can zero_desk (sessions_of crew) in_step are alike (length crew) false (λ never. absurd (cc)) k less
    (omega (arith, less, sessions_count crew)))

-- the first of a crew can come to the network of desk 0
pub first_can : (zero_desk : SessionValue) (crew : List SessionValue) (in_step n : ℕ) (known : Bool)
    → AreDesks zero_desk crew in_step → AreAlike (desks_of zero_desk crew) → (known ≡ true → n ≤ in_step)
    → CanAllFollow zero_desk.net known (take n crew)
first_can zero_desk crew in_step n known are alike knows k less =
    let count = length-take n crew in
    let fewer : k < n = omega (arith, count, less) in
    subst (CanFollow zero_desk.net known) (sym (get_or-take n crew k no_session fewer))
    (crew_can zero_desk crew in_step are alike n known knows k fewer (omega (arith, count, less)))

-- a crew of which the first have tried the moves of a batch, and the others are as they were
module _ (batch : Batch) (zero_desk zero_new : SessionValue) (olds news : List SessionValue) (in_step : ℕ) (s : Stretch)
    (within : batch.desks ≤ length olds) (as_many : length news ≡ length olds) (rest : drop batch.desks news ≡ drop batch.desks olds)
    (are : AreDesks zero_desk olds in_step) (alike : AreAlike (desks_of zero_desk olds))
    (has_tried : HasTriedBatch batch zero_desk zero_new (take batch.desks news) s) where
  -- what holds of the first now and of the others before holds of all now
  tried_each : (P : ℕ → SessionValue → Type 0)
      → ((k : ℕ) → k < length (take batch.desks news) → P k (session_at (take batch.desks news) k))
      → ((k : ℕ) → batch.desks ≤ k → k < length olds → P k (session_at olds k))
      → (k : ℕ) → k < length news → P k (session_at news k)
  tried_each P first others k less = by (nat_lt k batch.desks) refl
    where
      by : (b : Bool) → nat_lt k batch.desks ≡ b → P k (session_at news k)
      by true is =
          let before : k < batch.desks = grind (arith, nat_tests, is) in
          subst (P k) (get_or-take batch.desks news k no_session before)
          (first k (omega (arith, before, less, length-take batch.desks news)))
      by false is =
          let after : batch.desks ≤ k = grind (arith, nat_tests, is) in
          let place : batch.desks + (k - batch.desks) ≡ k = omega (arith, after) in
          let same : session_at olds k ≡ session_at news k =
          ap (session_at olds) (sym place) ∙ sym (get_or-drop batch.desks olds (k - batch.desks) no_session)
          ∙ ap (λ ss. session_at ss (k - batch.desks)) (sym rest)
          ∙ get_or-drop batch.desks news (k - batch.desks) no_session ∙ ap (session_at news) place in
          subst (P k) same (others k after (omega (arith, less, as_many)))

  -- all have the shape of the network of desk 0 before
  shapes_before : (k : ℕ) → k < length news → SameShape (session_at news k).net zero_desk.net
  shapes_before = tried_each (λ k x. SameShape x.net zero_desk.net) has_tried.shapes
      (λ k after less. crew_shape zero_desk olds in_step are alike k less)

  -- they are desks, of which as many are known to follow as before and as have tried, or none
  pub tried_are : (known : ℕ) → (s.made ≡ None → known ≡ max batch.desks in_step) → (s.made ≢ None → known ≡ 0)
      → AreDesks zero_new news known
  tried_are known none some = record {
    few = omega (arith, are.few, as_many);
    several = λ one. are.several (sym as_many ∙ one);
    closed = tried_each (λ k x. x.before ≡ None) has_tried.closed (λ k after less. are.closed k less);
    shapes = λ k less. shapes_before k less ∙ sym (shapes_before 1 (omega (arith, less, as_many, are.several)));
    known = knows s.made refl;
  }
    where
      knows : (o : Option MadeMove) → s.made ≡ o → (k : ℕ) → k < known → k < length news → (session_at news k).net ≡ zero_new.net
      knows (Some made) is k fewer less = absurd (omega (arith, fewer, some (λ never. none-some made (sym never ∙ is))))
      knows None is k fewer less =
          let same = sym (ap (λ (x : SessionValue). x.net) has_tried.zero_is ∙ ap (λ made. net_made made zero_desk.net) is) in
          tried_each (λ j x. j < max batch.desks in_step → x.net ≡ zero_new.net) (λ j inside _. has_tried.same is j inside ∙ same)
          (λ j after inside known_too. are.known j (omega (arith, after, known_too)) inside ∙ same) k less (omega (arith, fewer, none is))

  -- alike still
  pub tried_alike : AreAlike (desks_of zero_new news)
  tried_alike = record {
    shape = desk_each (λ x. SameShape x.net zero_new.net) zero_new news refl
        (λ k less. shapes_before k less ∙ sym has_tried.zero_shape);
  }
