-- Desks as a list: each session is that of its desk, so facts of all desks are facts of their sessions.
use Rattle.std.proofs.Common.{◌≡◌, ◌≢◌, ℕ, zero, suc, ◌-◌, ◌<◌, ◌≤◌, List, [], ◌∷◌, length, drop, max, Bool, true, false, ◌==◌, if◌then◌else◌}
use Rattle.std.proofs.Common.{slice_index_or, slice_set, replicate, refl, ap, sym, ◌∙◌, arith}
use Rattle.std.proofs.Math.ListN.{get_or-map}
use Rattle.std.proofs.lemmas.Bool.Decides.{nat_tests}
use Rattle.std.proofs.lemmas.List.{length-map, get_or_default, get_or-drop, get_or-replicate, length-replicate}
use Rattle.transyt_net.specs.Parts.{SameShape, shape as shape_word}
use Rattle.transyt_session.specs.Session.{SessionValue, opened}
use Rattle.transyt_desks.specs.declared.desk.Desk.{Desk}
use Rattle.transyt_desks.specs.Desks.{no_session, no_desk, session_at, desk_zero, desks_of, sessions_of, opened_desks}
use Rattle.transyt_desks.specs.Desks.{AreAligned, AreAlike, AreDesks}
use Rattle.transyt_desks.specs.Batches.{AreStanding, CanFollow}

-- the session at a place is that of the desk there
pub session_is : (desks : List Desk) (k : ℕ) → session_at (sessions_of desks) k ≡ (slice_index_or desks k no_desk).session
session_is desks k = get_or-map (λ (d : Desk). d.session) desks k no_desk

-- whatever stands where there is no desk
pub session_read : (desks : List Desk) (k : ℕ) (d : Desk) → k < length desks
    → (slice_index_or desks k d).session ≡ session_at (sessions_of desks) k
session_read desks k d less =
    ap (λ (x : Desk). x.session) (get_or_default desks k d no_desk less) ∙ sym (session_is desks k)

-- and its network that of the session there
pub net_read : (desks : List Desk) (k : ℕ) (d : Desk) → k < length desks
    → (slice_index_or desks k d).session.net ≡ (session_at (sessions_of desks) k).net
net_read desks k d less = ap (λ (s : SessionValue). s.net) (session_read desks k d less)

-- there are as many
pub sessions_count : (desks : List Desk) → length (sessions_of desks) ≡ length desks
sessions_count desks = length-map desks (λ (d : Desk). d.session)

-- a new session is at desk 0
pub zero_set : (sessions : List SessionValue) (s : SessionValue) → 0 < length sessions → desk_zero (slice_set sessions 0 s) ≡ s
zero_set [] s some = absurd (omega arith)
zero_set (x ∷ xs) s some = refl

-- a fact of desk 0 and of each other desk is one of all
front_each : (P : SessionValue → Type 0) (s : SessionValue) (others : List SessionValue) → P s
    → ((k : ℕ) → k < length others → P (session_at others k)) → (k : ℕ) → k < length (s ∷ others) → P (session_at (s ∷ others) k)
front_each P s others here all zero less = here
front_each P s others here all (suc k) less = all k (omega (arith, less))

-- desks are alike with another session of the same shape at desk 0
pub alike_lent : (sessions : List SessionValue) (s : SessionValue) → 0 < length sessions → AreAlike sessions
    → SameShape s.net (desk_zero sessions).net → AreAlike (slice_set sessions 0 s)
alike_lent [] s some alike same = absurd (omega arith)
alike_lent (x ∷ xs) s some alike same = record {
  shape = front_each (λ t. SameShape t.net s.net) s xs refl (λ k less. alike.shape (suc k) (omega (arith, less)) ∙ sym same);
}

-- desks that stand for one network are alike
pub aligned_alike : (sessions : List SessionValue) → AreAligned sessions → AreAlike sessions
aligned_alike sessions aligned = record { shape = λ k less. ap shape_word (aligned.same k less) }

-- a fact of all sessions of desks holds with another desk in a place, if it holds of its session
pub set_each : (P : SessionValue → Type 0) (desks : List Desk) (at : ℕ) (y : Desk) → P y.session
    → ((k : ℕ) → k < length (sessions_of desks) → P (session_at (sessions_of desks) k))
    → (k : ℕ) → k < length (sessions_of (slice_set desks at y)) → P (session_at (sessions_of (slice_set desks at y)) k)
set_each P [] at y here all = all
set_each P (d ∷ ds) zero y here all = front_each P y.session (sessions_of ds) here (λ k less. all (suc k) (omega (arith, less)))
set_each P (d ∷ ds) (suc at) y here all = front_each P d.session (sessions_of (slice_set ds at y)) (all 0 (omega arith))
    (set_each P ds at y here (λ k less. all (suc k) (omega (arith, less))))

-- and so is a fact of desk 0 and of each of the crew
pub desk_each : (P : SessionValue → Type 0) (zero_desk : SessionValue) (crew : List SessionValue) → P zero_desk
    → ((k : ℕ) → k < length crew → P (session_at crew k))
    → (k : ℕ) → k < length (desks_of zero_desk crew) → P (session_at (desks_of zero_desk crew) k)
desk_each P zero_desk [] here all = front_each P zero_desk [] here all
desk_each P zero_desk (x ∷ xs) here all = front_each P zero_desk xs here (λ k less. all (suc k) (omega (arith, less)))

-- there are as many as in the crew, or one
pub desks_count : (zero_desk : SessionValue) (crew : List SessionValue)
    → length (desks_of zero_desk crew) ≡ max (length crew) 1
desks_count zero_desk [] = refl
desks_count zero_desk (x ∷ xs) = omega arith

-- the session at a place after the first of desks that were opened
pub opened_at : (s : SessionValue) (n k : ℕ) → 0 < k → k < n → session_at (opened_desks s n) k ≡ opened s.net
opened_at s n zero some less = absurd (omega arith)
opened_at s n (suc k) some less = get_or-replicate (n - 1) k (opened s.net) no_session (omega arith)

-- a crew for so many workers
abbrev pub crew_of : ℕ → ℕ
crew_of workers = if workers == 1 then 0 else workers

-- desks that were opened with it
pub opened_is : (s : SessionValue) (workers : ℕ) → 1 ≤ workers
    → desks_of s (replicate (crew_of workers) (opened s.net)) ≡ opened_desks s workers
opened_is s zero some = absurd (omega (arith, some))
opened_is s (suc zero) some = refl
opened_is s (suc (suc n)) some =
    let many : (suc (suc n) == 1) ≡ false = grind (arith, nat_tests) in
    let fewer : suc n ≡ suc (suc n) - 1 = omega arith in
    ap (λ b. desks_of s (replicate (if b then 0 else suc (suc n)) (opened s.net))) many
    ∙ ap (λ k. s ∷ replicate k (opened s.net)) fewer

-- a session and a crew of twins of it
pub opened_are : (s : SessionValue) (workers : ℕ) (crew : List SessionValue) → workers ≤ 8
    → crew ≡ replicate (crew_of workers) (opened s.net) → AreDesks s crew 0
opened_are s workers crew few is =
    let size : length crew ≡ crew_of workers = ap length is ∙ length-replicate (crew_of workers) (opened s.net) in
    let several : length crew ≢ 1 = grind (arith, nat_tests, size) in
    let each : (k : ℕ) → k < crew_of workers → session_at crew k ≡ opened s.net =
    λ k less. ap (λ ss. session_at ss k) is ∙ get_or-replicate (crew_of workers) k (opened s.net) no_session less in
    record {
      few = grind (arith, nat_tests, size);
      several = several;
      closed = λ k less. ap (λ (t : SessionValue). t.before) (each k (omega (arith, less, size)));
      shapes = λ k less.
          ap (λ (t : SessionValue). shape_word t.net)
          (each k (omega (arith, less, size)) ∙ sym (each 1 (omega (arith, less, size, several))));
      known = λ k less inside. absurd (omega (arith, less));
    }

module _ (zero_desk : SessionValue) (crew : List SessionValue) (in_step : ℕ) (are : AreDesks zero_desk crew in_step) where
  -- where there is one of the crew, there are two
  pub crew_two : (k : ℕ) → k < length crew → 1 < length crew
  crew_two k less = omega (arith, less, are.several)

  -- the networks of a crew have the shape of that of desk 0 where those of the desks have
  pub crew_shape : AreAlike (desks_of zero_desk crew) → (k : ℕ) → k < length crew
      → SameShape (session_at crew k).net zero_desk.net
  crew_shape alike k less =
      let two = crew_two k less in
      are.shapes k less
      ∙ sym (ap (λ (s : SessionValue). shape_word s.net) (get_or-drop 1 crew 0 no_session))
      ∙ alike.shape 1 (omega (arith, two, desks_count zero_desk crew))

  -- so each can come to its network
  pub crew_can : AreAlike (desks_of zero_desk crew) → (n : ℕ) (known : Bool) → (known ≡ true → n ≤ in_step)
      → (k : ℕ) → k < n → k < length crew → CanFollow zero_desk.net known (session_at crew k)
  crew_can alike n known knows k fewer less = record {
    shape = crew_shape alike k less;
    closed = are.closed k less;
    known_is = λ yes. are.known k (omega (arith, fewer, knows yes)) less;
  }

-- a crew that stands for the network of desk 0
pub standing_aligned : (zero_desk : SessionValue) (crew : List SessionValue) → AreStanding zero_desk.net crew
    → AreAligned (desks_of zero_desk crew)
standing_aligned zero_desk crew stand = record { same = desk_each (λ s. s.net ≡ zero_desk.net) zero_desk crew refl stand.nets }

-- is one of desks, that is known to follow
pub standing_are : (zero_desk : SessionValue) (olds news : List SessionValue) (in_step known : ℕ)
    → AreDesks zero_desk olds in_step → length news ≡ length olds → AreStanding zero_desk.net news
    → AreDesks zero_desk news known
standing_are zero_desk olds news in_step known are count stand = record {
  few = omega (arith, are.few, count);
  several = λ one. are.several (sym count ∙ one);
  closed = stand.closed;
  shapes = λ k less. ap shape_word (stand.nets k less)
      ∙ sym (ap shape_word (stand.nets 1 (omega (arith, count, less, are.several))));
  known = λ k _ less. stand.nets k less;
}

-- a crew that is known to follow stands for the network of desk 0
pub known_aligned : (zero_desk : SessionValue) (crew : List SessionValue) (in_step : ℕ) → AreDesks zero_desk crew in_step
    → length crew ≤ in_step → AreAligned (desks_of zero_desk crew)
known_aligned zero_desk crew in_step are all = record {
  same = desk_each (λ s. s.net ≡ zero_desk.net) zero_desk crew refl (λ k less. are.known k (omega (arith, less, all)) less);
}

-- the others of desks are those of their crew after the first
pub others_aligned : (zero_desk : SessionValue) (crew : List Desk)
    → ((k : ℕ) → k < length (drop 1 crew) → (session_at (sessions_of (drop 1 crew)) k).net ≡ zero_desk.net)
    → AreAligned (desks_of zero_desk (sessions_of crew))
others_aligned zero_desk [] all = record { same = front_each (λ s. s.net ≡ zero_desk.net) zero_desk [] refl all }
others_aligned zero_desk (x ∷ xs) all = record {
  same = front_each (λ s. s.net ≡ zero_desk.net) zero_desk (sessions_of xs) refl
      (λ k less. all k (omega (arith, less, sessions_count xs)));
}

pub aligned_others : (zero_desk : SessionValue) (crew : List Desk) → AreAligned (desks_of zero_desk (sessions_of crew))
    → (k : ℕ) → k < length (drop 1 crew) → (session_at (sessions_of (drop 1 crew)) k).net ≡ zero_desk.net
aligned_others zero_desk [] aligned k less = absurd (omega (arith, less))
aligned_others zero_desk (x ∷ xs) aligned k less = aligned.same (suc k) (omega (arith, less, sessions_count xs))
