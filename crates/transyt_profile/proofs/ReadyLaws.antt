-- The values that are ready in a lane, one step more, and all of them together.
use Rattle.std.proofs.Common.{◌≡◌, ℕ, ◌+◌, ◌*◌, ◌^◌, ◌<◌, ◌≤◌, List, length, get_or, set, sum, sum_by, take}
use Rattle.std.proofs.Common.{All, ap, bit_or, fold, max, subst, sym, ◌∙◌, arith, get_or-set_same, below_more}
use Rattle.std.specs.List.{Any}
use Rattle.std.proofs.Math.Logic.{⊎_elim}
use Rattle.std.proofs.lemmas.Bool.{cases_lt}
use Rattle.std.proofs.lemmas.Grind.{common_steps}
use Rattle.std.proofs.lemmas.List.{take_all, get_or-map, length-map, length-set}
use Rattle.std.proofs.lemmas.List.Elements.{All-from_get_or, All-map}
use Rattle.std.proofs.lemmas.List.Folds.{fold-map}
use Rattle.std.proofs.lemmas.List.Sums.{fold_more, sum-map, sum_by_more}
use Rattle.std.proofs.lemmas.Nat.{le_or_l, le_or_r}
use Rattle.transyt_profile.specs.Arriving.{sent}
use Rattle.transyt_profile.specs.Passing.{AreShared}
use Rattle.transyt_profile.specs.Profile.{share_of, shared}
use Rattle.transyt_profile.specs.declared.platoon.Platoon.{Platoon}
use Rattle.transyt_profile.specs.declared.readying.Lane.{Lane}
use Rattle.transyt_profile.specs.declared.shares.Shares.{Shares}
use Rattle.transyt_profile.proofs.Parts.{start_fits}

-- the share of step k
abbrev pub share_at : ℕ → ℕ → List ℕ → ℕ → ℕ
share_at part whole xs k = share_of part whole (get_or xs k 0)

-- in this lane the first n steps whose shares are below 2^22 are ready: each share times f
abbrev pub InLane : List ℕ → (ℕ → ℕ) → ℕ → ℕ → ℕ → Type 0
InLane lanes share f lane n = (k : ℕ) → k < n → share k < 2 ^ 22 → get_or lanes (4 * k + lane) 0 ≡ share k * f

-- the other lanes are as they were
abbrev pub OthersStay : List ℕ → List ℕ → ℕ → Type 0
OthersStay old new lane =
    (k : ℕ) → (m : ℕ) → m < 4 → (m ≡ lane → ⊥) → get_or new (4 * k + m) 0 ≡ get_or old (4 * k + m) 0

-- one step more is ready
pub lane_more : (lanes : List ℕ) (share : ℕ → ℕ) (f lane n r : ℕ) → 4 * n + lane < length lanes
    → InLane lanes share f lane n → (share n < 2 ^ 22 → r ≡ share n * f)
    → InLane (set lanes (4 * n + lane) r) share f lane (n + 1)
lane_more lanes share f lane n r inside before here =
    below_more _ _ (λ k low. grind (arith, common_steps, before k low)) (rw get_or-set_same here)

-- and the others stay
pub others_more : (old lanes : List ℕ) (lane n r : ℕ) → lane < 4 → OthersStay old lanes lane
    → OthersStay old (set lanes (4 * n + lane) r) lane
others_more old lanes lane n r own before k m small other = grind (arith, common_steps, before k m small other)

-- a fact about each share holds for each value of the onward part
pub all_shared : (part whole b : ℕ) (xs : List ℕ) → ((k : ℕ) → k < length xs → share_at part whole xs k < b)
    → All (λ v. v < b) (shared part whole xs)
all_shared part whole b xs each =
    All-map (λ v. v < b) (share_of part whole) xs (All-from_get_or (λ v. share_of part whole v < b) xs 0 each)

-- where all shares are below 2^22, the lane has each share times f
pub lane_all : (part whole f lane n : ℕ) (lanes xs : List ℕ) → length xs ≤ n
    → InLane lanes (share_at part whole xs) f lane n → ((k : ℕ) → k < length xs → share_at part whole xs k < 2 ^ 22)
    → (k : ℕ) → k < length xs → get_or lanes (4 * k + lane) 0 ≡ get_or (shared part whole xs) k 0 * f
lane_all part whole f lane n lanes xs all ready small k below =
    ready k (omega (arith, all, below)) (small k below)
    ∙ ap (λ v. v * f) (sym (get_or-map (share_of part whole) xs k 0 0 below))

-- the sum over all steps
pub sum_shared : (part whole n : ℕ) (xs : List ℕ) → length xs ≤ n
    → sum_by (share_of part whole) (take n xs) ≡ sum (shared part whole xs)
sum_shared part whole n xs all =
    ap (sum_by (share_of part whole)) (take_all n xs all) ∙ sym (sum-map (share_of part whole) xs)

-- some of the first n shares comes to b, where b is more than 0
abbrev pub Reached : (ℕ → ℕ) → ℕ → ℕ → Type 0
Reached share n b = 0 < b → (k : ℕ) × (k < n) × (b ≤ share k)

-- so with one share more does the greater of b and that one
pub reached_more : (share : ℕ → ℕ) (n b r most : ℕ) → most ≡ max b r → r ≡ share n → Reached share n b
    → Reached share (n + 1) most
reached_more share n b r most greater here before some =
    ⊎_elim
    (λ (less : r < b).
    let found = before (omega (arith, less)) in
    (found.0, omega (arith, found.1), omega (arith, less, greater, found.2)))
    (λ (least : b ≤ r). (n, omega arith, omega (arith, least, greater, here)))
    (cases_lt r b)

-- each value of the part that goes on is at most the greatest of all shares
pub any_shared : (part whole n most limit : ℕ) (xs : List ℕ) → 0 < length xs → n ≤ length xs
    → Reached (share_at part whole xs) n most → limit ≤ most → Any (λ v. limit ≤ v) (shared part whole xs)
any_shared part whole n most limit xs some all reached within =
    let at : (k : ℕ) → k < length xs → limit ≤ share_at part whole xs k → Any (λ v. limit ≤ v) (shared part whole xs) =
    λ k below comes. (
      k,
      share_at part whole xs k,
      omega (arith, below, length-map xs (share_of part whole)),
      get_or-map (share_of part whole) xs k 0 (share_at part whole xs k) below,
      comes,
    ) in
    ⊎_elim
    (λ (more : 0 < most). let found = reached more in at found.0 (omega (arith, found.1, all)) (omega (arith, found.2, within)))
    (λ (none : most ≤ 0). at 0 some (omega (arith, none, within)))
    (cases_lt 0 most)

-- the part of a value of a platoon that goes on
abbrev pub own_share : Platoon → ℕ → ℕ
own_share p = share_of p.part.now.part p.part.now.whole

-- The first n steps of a lane's platoon are shared: each product that fits stands in its lane, the other lanes stay, and
-- the shares come to these.
pub record AreSharedFirst (lane : Lane) (old : List ℕ) (n : ℕ) (lanes : List ℕ) (shares : Shares) : Type 0 where
  pub most : (k : ℕ) → k < n → own_share lane.platoon.now (get_or lane.platoon.now.leaving.now k 0) ≤ shares.bits
  pub bits : shares.bits ≡ fold (λ bits v. bit_or bits (own_share lane.platoon.now v)) 0 (take n lane.platoon.now.leaving.now)
  pub ready : InLane lanes (λ k. own_share lane.platoon.now (get_or lane.platoon.now.leaving.now k 0))
      lane.platoon.now.travel.now.starting_factor lane.number n
  pub others : OthersStay old lanes lane.number
  pub total : shares.total ≡ sum_by (own_share lane.platoon.now) (take n lane.platoon.now.leaving.now)
  pub few : shares.total ≤ n * 2 ^ 44
  pub room : length lanes ≡ 4 * length lane.platoon.now.leaving.now

-- one step more is shared
pub one_shared : (lane : Lane) (old : List ℕ) (n : ℕ) (lanes : List ℕ) (shares after : Shares) (share product : ℕ)
    → n < length lane.platoon.now.leaving.now
    → share ≡ own_share lane.platoon.now (get_or lane.platoon.now.leaving.now n 0) → share < 2 ^ 44
    → (share * lane.platoon.now.travel.now.starting_factor < 2 ^ 64
    → product ≡ share * lane.platoon.now.travel.now.starting_factor)
    → after.total ≡ shares.total + share → after.bits ≡ bit_or shares.bits share → AreSharedFirst lane old n lanes shares
    → AreSharedFirst lane old (n + 1) (set lanes (4 * n + lane.number) product) after
one_shared lane old n lanes shares after share product below is small fits total bits before =
    let p = lane.platoon.now in
    let xs = p.leaving.now in
    record {
      most = below_more _ _ (λ k low. omega (arith, bits, before.most k low, le_or_l shares.bits share))
          (omega (arith, bits, is, le_or_r shares.bits share));
      bits = bits ∙ ap (λ b. bit_or b share) before.bits ∙ ap (bit_or _) is
          ∙ sym (fold_more (λ bits v. bit_or bits (own_share p v)) 0 xs n 0 below);
      ready = lane_more _ _ _ _ _ _ (omega (arith, below, before.room, lane.within)) before.ready
          (λ low. fits (start_fits p.travel.now share (omega (arith, low, is))) ∙ ap (λ v. v * p.travel.now.starting_factor) is);
      others = others_more _ _ _ _ _ lane.within before.others;
      total = omega (arith, total, is, before.total, sum_by_more (own_share p) xs n 0 below);
      few = omega (arith, total, before.few, small);
      room = length-set lanes (4 * n + lane.number) product ∙ before.room;
    }

-- as many steps are shared
pub shared_at : (lane : Lane) (old : List ℕ) (n m : ℕ) (lanes : List ℕ) (shares : Shares) → n ≡ m
    → AreSharedFirst lane old n lanes shares → AreSharedFirst lane old m lanes shares
shared_at lane old n m lanes shares same first = subst (λ (k : ℕ). AreSharedFirst lane old k lanes shares) same first

-- where all that sets out is below 2^22, so is each share
pub small_share : (p : Platoon) (k : ℕ) → All (λ v. v < 2 ^ 22) (sent p) → k < length p.leaving.now
    → own_share p (get_or p.leaving.now k 0) < 2 ^ 22
small_share p k fit below =
    subst (λ v. v < 2 ^ 22) (get_or-map (own_share p) p.leaving.now k 0 0 below)
    (fit k 0 (omega (arith, below, length-map p.leaving.now (own_share p))))

-- all of them are shared
pub all_first : (lane : Lane) (old : List ℕ) (n : ℕ) (lanes : List ℕ) (shares : Shares)
    → length lane.platoon.now.leaving.now ≡ n → AreSharedFirst lane old n lanes shares
    → AreShared lane.platoon.now lane.number lanes shares
all_first lane old n lanes shares all first =
    let p = lane.platoon.now in
    let xs = p.leaving.now in
    let few : length xs ≤ n = omega (arith, all) in
    record {
      total = first.total ∙ sum_shared _ _ n xs few;
      bits = first.bits ∙ ap (fold _ 0) (take_all n xs few) ∙ sym (fold-map bit_or (own_share p) 0 xs);
      most = All-map (λ v. v ≤ shares.bits) (own_share p) xs
          (All-from_get_or (λ v. own_share p v ≤ shares.bits) xs 0 (λ k below. first.most k (omega (arith, below, all))));
      ready = λ fit. lane_all _ _ _ _ _ _ _ few first.ready (λ k below. small_share p k fit below);
    }
