-- The arrivals of a link, feed by feed.
use Rattle.std.proofs.Common.{◌≡◌, ℕ, ◌+◌, ◌-◌, ◌*◌, ◌^◌, ◌<◌, ◌≤◌, List, All, length, take, drop, ap, sym, ◌∙◌, arith}
use Rattle.std.proofs.lemmas.List.Sums.{fold-append}
use Rattle.std.proofs.Math.Seq.{take-add}
use Rattle.std.proofs.lemmas.List.{length-take}
use Rattle.std.proofs.lemmas.List.Elements.{All-replicate}
use Rattle.transyt_profile.specs.Profile.{added, folded, uniform}
use Rattle.transyt_parts.specs.declared.link.Feed.{Feed}
use Rattle.transyt_net.specs.Parts.{Network}
use Rattle.transyt_sweep.specs.Cell.{brought}
use Rattle.transyt_sweep.specs.Inflow.{HaveRoom, with_feeds}

-- some feeds more
pub feeds_next : (net : Network) (read : ℕ → List ℕ) (come : List ℕ) (feeds : List Feed) (p n q : ℕ) (now new : List ℕ)
    → p + n ≡ q → now ≡ with_feeds net read come (take p feeds) → new ≡ with_feeds net read now (take n (drop p feeds))
    → new ≡ with_feeds net read come (take q feeds)
feeds_next net read come feeds p n q now new reach before sum =
    sum
    ∙ ap (λ c. with_feeds net read c (take n (drop p feeds))) before
    ∙ sym (fold-append (λ c f. added c (brought net read f)) come (take p feeds) (take n (drop p feeds)))
    ∙ ap (with_feeds net read come) (sym (take-add p n feeds) ∙ ap (λ m. take m feeds) reach)

-- two turns with room for all feeds have room for so many of those that are left from a place on
pub room_next : (n p m : ℕ) (feeds : List Feed) (turns : List ℕ) → p + m ≤ length feeds → length feeds ≤ 8
    → length turns ≡ 2 * n → All (λ v. v < (16 - length feeds) * 2 ^ 44 + p * 2 ^ 44) (folded n turns)
    → HaveRoom n (length (take m (drop p feeds))) turns
room_next n p m feeds turns within few len small = record {
  len = len;
  small = λ j d h. omega (arith, length-take m (drop p feeds), within, few, small j d h);
}

-- two turns that begin with an entry flow
pub started_small : (n value : ℕ) (turns : List ℕ) → value < 2 ^ 30 → folded n turns ≡ uniform n value
    → All (λ v. v < 2 ^ 30) (folded n turns)
started_small n value turns small started = rw started (All-replicate (λ v. v < 2 ^ 30) n value small)

-- all arrivals are small: those of an entry flow, to which the arrivals of a link's feeds were added
pub all_small : (n m value count : ℕ) (started turns : List ℕ) → value < 2 ^ 30 → folded n started ≡ uniform n value
    → count ≤ 8 → ((limit : ℕ) → All (λ v. v < limit) (folded n started)
    → All (λ v. v < limit + count * 2 ^ 44) (folded n turns)) → m ≡ n → All (λ v. v < 2 ^ 48) (folded m turns)
all_small n m value count started turns small start few grows same =
    rw same (λ j d h. omega (arith, few, grows (2 ^ 30) (started_small n value started small start) j d h))
