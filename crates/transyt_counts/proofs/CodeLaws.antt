-- The code of a key hangs on nothing that an edit sets, and a key without one can be set.
use Rattle.std.proofs.Common.{◌≡◌, ℕ, ◌≤◌, true, ◌||◌, nat_eq, List, [], ◌∷◌, map, Option, Some, None}
use Rattle.std.proofs.Common.{refl, sym, ◌∙◌, ap, arith}
use Rattle.std.specs.Option.{option_map_or}
use Rattle.std.proofs.lemmas.Bool.Decides.{nat_tests}
use Rattle.transyt_parts.specs.declared.link.Feed.{Feed}
use Rattle.transyt_parts.specs.Parts.{LinkValue}
use Rattle.transyt_parts.specs.Made.{bare_feed, bare_link}
use Rattle.transyt_parts.specs.Valid.{is_fed}
use Rattle.transyt_net.specs.Parts.{Network, shape}
use Rattle.transyt_net.specs.Valid.{feeds_at, is_among}
use Rattle.transyt_net.specs.EditFaults.{edit_fault, is_link}
use Rattle.transyt_net.proofs.ShapeLaws.{same_link_numbers}
use Rattle.transyt_counts.specs.declared.key.Key.{Key}
use Rattle.transyt_counts.specs.Rows.{edit_of, key_code}

-- a key's code hangs on nothing that an edit sets
fed_bare : (fs : List Feed) (feeder : ℕ) → is_fed (map bare_feed fs) feeder ≡ is_fed fs feeder
fed_bare [] feeder = refl
fed_bare (f ∷ fs) feeder = ap (λ b. nat_eq feeder f.feeder || b) (fed_bare fs feeder)

feeds_bare : (ls : List LinkValue) (link feeder : ℕ) → is_fed (feeds_at (map bare_link ls) link) feeder ≡ is_fed (feeds_at ls link) feeder
feeds_bare [] link feeder = refl
feeds_bare (l ∷ ls) link feeder = grind (arith, fed_bare l.feeds feeder, feeds_bare ls link feeder)

fed_shape : (a b : Network) (link feeder : ℕ) → shape a ≡ shape b → is_fed (feeds_at a.links link) feeder ≡ is_fed (feeds_at b.links link) feeder
fed_shape a b link feeder same =
    sym (feeds_bare a.links link feeder) ∙ ap (λ (n : Network). is_fed (feeds_at n.links link) feeder) same ∙ feeds_bare b.links link feeder

link_shape : (a b : Network) (link : ℕ) → shape a ≡ shape b → is_link a link ≡ is_link b link
link_shape a b link same = ap (λ ns. is_among ns link) (same_link_numbers a b same)

known_shape : (a b : Network) (o : Option ℕ) → shape a ≡ shape b
    → option_map_or (is_link a) o true ≡ option_map_or (is_link b) o true
known_shape a b None same = refl
known_shape a b (Some f) same = link_shape a b f same

fed_by_shape : (a b : Network) (link : ℕ) (o : Option ℕ) → shape a ≡ shape b
    → option_map_or (is_fed (feeds_at a.links link)) o true ≡ option_map_or (is_fed (feeds_at b.links link)) o true
fed_by_shape a b link None same = refl
fed_by_shape a b link (Some f) same = fed_shape a b link f same

-- networks of one shape have the same codes of keys
pub code_shape : (a b : Network) (k : Key) → shape a ≡ shape b → key_code a k ≡ key_code b k
code_shape a b k same =
    rw (link_shape a b k.link same, known_shape a b k.feeder same, fed_by_shape a b k.link k.feeder same)

-- a key without a code can be set to a flow in its range
edit_by : (net : Network) (link : ℕ) (o : Option ℕ) (flow : ℕ) → key_code net (record { link = link; feeder = o }) ≡ None → flow ≤ 9999
    → edit_fault net (edit_of (record { link = link; feeder = o }) flow) ≡ None
edit_by net link o flow none small = grind (arith, nat_tests, none, small)

-- the edit of a key without a code is allowed
pub edit_allowed : (net : Network) (k : Key) (flow : ℕ) → key_code net k ≡ None → flow ≤ 9999 → edit_fault net (edit_of k flow) ≡ None
edit_allowed net k flow none small = edit_by net k.link k.feeder flow none small
