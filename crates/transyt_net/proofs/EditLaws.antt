-- The one element that an edit changes.
use Rattle.std.proofs.Common.{◌≡◌, ℕ, ◌<◌, List, [], ◌∷◌, ◌++◌, length, take}
use Rattle.std.proofs.Common.{get_or, set, Some, unwrap_or, refl, sym, ap, ◌∙◌, arith, All}
use Rattle.std.proofs.lemmas.List.{set-append_left, take_at, length-set, get_or_append_left}
use Rattle.std.proofs.lemmas.List.Elements.{All-head, All-tail}
use Rattle.std.proofs.lemmas.Bool.Decides.{nat_tests}
use Rattle.transyt_net.specs.Valid.{numbered, on_numbered, on_place}
use Rattle.transyt_net.specs.There.{IsPlace}
use Rattle.transyt_parts.specs.declared.node.Stage.{Stage}
use Rattle.transyt_parts.specs.declared.link.Feed.{Feed}
use Rattle.transyt_parts.specs.Parts.{LinkValue}
use Rattle.transyt_net.specs.Edits.{change_to, feeder_of, no_feed, the_feed}
use Rattle.transyt_net.proofs.PlaceLaws.{found_here, on_place_here, written_here}

-- a fact of each element holds for the element of a number
pub all_numbered : {A : Type 0} (P : A → Type 0) (key : A → ℕ) (xs : List A) (k : ℕ) (y : A) → All P xs
    → numbered key xs k ≡ Some y → P y
all_numbered P key [] k y all at = absurd (cc)
all_numbered P key (x ∷ xs) k y all at =
    grind (arith, nat_tests, All-head P x xs all, all_numbered P key xs k y (All-tail P x xs all))

-- a link, with the feed at the place of a feeder written
pub feed_written : {l was : LinkValue} (f : Feed → Feed) (feeder p : ℕ) (old : Feed) → l ≡ was
    → IsPlace feeder_of l.feeds feeder p → old ≡ get_or l.feeds p old
    → record l { feeds = set l.feeds p (f old) } ≡ record was { feeds = on_numbered feeder_of f was.feeds feeder }
feed_written {l} f feeder p old same place read =
    ap (λ fs. record l { feeds = fs }) (written_here feeder_of f l.feeds feeder p old (f old) place read refl)
    ∙ ap (λ (m : LinkValue). record m { feeds = on_numbered feeder_of f m.feeds feeder }) same

-- the feed at the place of a feeder is the feeder's
pub feed_found : {l was : LinkValue} (feeder p : ℕ) (old : Feed) → l ≡ was → IsPlace feeder_of l.feeds feeder p
    → old ≡ get_or l.feeds p old → old ≡ the_feed was feeder
feed_found {l} feeder p old same place read =
    ap (λ o. unwrap_or o no_feed) (sym (found_here feeder_of l.feeds feeder p old place read))
    ∙ ap (λ (m : LinkValue). the_feed m feeder) same

-- the front of a longer list, with a change set in it
pub changed_front : (items rest : List Stage) (p change : ℕ) (d : Stage) → p < length items
    → take (length items) (set (items ++ rest) p (change_to change (get_or (items ++ rest) p d)))
    ≡ on_place (change_to change) items p
changed_front items rest p change d h =
    let new : Stage = change_to change (get_or items p d) in
    ap (λ s. take (length items) (set (items ++ rest) p (change_to change s))) (get_or_append_left items rest d p h)
    ∙ ap (take (length items)) (set-append_left items rest p new h)
    ∙ take_at (set items p new) rest (length items) (length-set items p new)
    ∙ sym (on_place_here (change_to change) items p d h)
