-- The edits of keys, one after another, set just their flows.
use Rattle.std.proofs.Common.{◌≡◌, ℕ, ◌≤◌, true, false, nat_eq, List, [], ◌∷◌, map, All, Option, Some, None}
use Rattle.std.proofs.Common.{refl, sym, ◌∙◌, ap, arith, get_or}
use Rattle.std.specs.List.{fold}
use Rattle.std.specs.Option.{option_eq}
use Rattle.std.proofs.lemmas.Bool.{and_from, and_left, and_right}
use Rattle.std.proofs.lemmas.Bool.Decides.{nat_tests}
use Rattle.std.proofs.lemmas.List.Elements.{All-head, All-tail, All-weaker}
use Rattle.std.proofs.lemmas.List.Folds.{map_fixed}
use Rattle.transyt_parts.specs.declared.link.Feed.{Feed}
use Rattle.transyt_parts.specs.Parts.{LinkValue}
use Rattle.transyt_parts.specs.Valid.{all_differ, link_number, feeders}
use Rattle.transyt_net.specs.Parts.{Network}
use Rattle.transyt_net.specs.Valid.{IsValid, IsLink, link_numbers}
use Rattle.transyt_net.specs.declared.edit.Edit.{Edit}
use Rattle.transyt_net.specs.Edits.{with_edit, set_entry, set_part, feeder_of}
use Rattle.transyt_net.specs.EditFaults.{edit_fault}
use Rattle.transyt_net.proofs.ApplyLaws.{valid_edit}
use Rattle.transyt_net.proofs.KeptLaws.{shape_kept}
use Rattle.transyt_net.proofs.PlaceLaws.{eq_swapped}
use Rattle.transyt_counts.specs.declared.key.Key.{Key}
use Rattle.transyt_counts.specs.Rows.{same_key, edit_of, key_code}
use Rattle.transyt_counts.specs.Exact.{entry_key, part_key, AreAllowed, set_flow, set_feed, set_link, set_flows}
use Rattle.transyt_counts.proofs.KeyLaws.{key_same}
use Rattle.transyt_counts.proofs.CodeLaws.{code_shape, edit_allowed}
use Rattle.transyt_counts.proofs.WrittenLaws.{written_all}

-- a flow of one key more, of another key
flow_other : (k : Key) (ks : List Key) (flow : Key → ℕ) (j : Key) (before : ℕ) → same_key j k ≡ false
    → set_flow ks flow j before ≡ set_flow (k ∷ ks) flow j before
flow_other k ks flow j before other = rw other

-- and of that key, once it was set
flow_here : (k : Key) (ks : List Key) (flow : Key → ℕ) (j : Key) (before : ℕ) → same_key j k ≡ true
    → set_flow ks flow j (flow k) ≡ set_flow (k ∷ ks) flow j before
flow_here k ks flow j before same = grind (arith, key_same j k same)

-- a feed of another key
feed_other : (k : Key) (ks : List Key) (flow : Key → ℕ) (link : ℕ) (f : Feed) → same_key (part_key link f.feeder) k ≡ false
    → set_feed ks flow link f ≡ set_feed (k ∷ ks) flow link f
feed_other k ks flow link f other = rw other

feeds_other : (k : Key) (ks : List Key) (flow : Key → ℕ) (link : ℕ) (fs : List Feed)
    → ((f : Feed) → same_key (part_key link f.feeder) k ≡ false)
    → map (set_feed ks flow link) fs ≡ map (set_feed (k ∷ ks) flow link) fs
feeds_other k ks flow link [] other = refl
feeds_other k ks flow link (f ∷ fs) other = rw (other f, feeds_other k ks flow link fs other)

-- a link of another number
link_other : (k : Key) (ks : List Key) (flow : Key → ℕ) (l : LinkValue) → nat_eq k.link l.number ≡ false
    → set_link ks flow l ≡ set_link (k ∷ ks) flow l
link_other k ks flow l other =
    let apart : (o : Option ℕ) → same_key (record { link = l.number; feeder = o }) k ≡ false =
    λ o. and_left (nat_eq l.number k.link) (option_eq nat_eq o k.feeder) (eq_swapped k.link l.number other) in
    rw (
      flow_other k ks flow (entry_key l.number) l.entry (apart None),
      feeds_other k ks flow l.number l.feeds (λ f. apart (Some f.feeder)),
    )

-- the link of an entry flow that was set
link_entry : (link : ℕ) (ks : List Key) (flow : Key → ℕ) (l : LinkValue) → nat_eq link l.number ≡ true
    → set_link ks flow (set_entry (flow (entry_key link)) l) ≡ set_link (entry_key link ∷ ks) flow l
link_entry link ks flow l same =
    let number : nat_eq l.number link ≡ true = grind (arith, nat_tests, same) in
    rw (
      flow_here (entry_key link) ks flow (entry_key l.number) l.entry (and_from _ _ number refl),
      feeds_other (entry_key link) ks flow l.number l.feeds (λ f. and_right (nat_eq l.number link) false refl),
    )

-- the link of a flow from a feeder that was set
link_part : (link feeder : ℕ) (ks : List Key) (flow : Key → ℕ) (l : LinkValue) → nat_eq link l.number ≡ true
    → all_differ (feeders l.feeds) ≡ true
    → set_link ks flow (set_part feeder (flow (part_key link feeder)) l) ≡ set_link (part_key link feeder ∷ ks) flow l
link_part link feeder ks flow l same differ =
    let k : Key = part_key link feeder in
    let number : nat_eq l.number link ≡ true = grind (arith, nat_tests, same) in
    rw (
      flow_other k ks flow (entry_key l.number) l.entry (and_right (nat_eq l.number link) false refl),
      written_all feeder_of (λ f. record f { flow = flow k }) (set_feed ks flow l.number) (set_feed (k ∷ ks) flow l.number) l.feeds feeder differ
          (λ i d below. λ is. let f : Feed = get_or l.feeds i d in
          ap (λ x. record f { flow = x }) (flow_here k ks flow (part_key l.number f.feeder) f.flow
          (and_from (nat_eq l.number link) (nat_eq f.feeder feeder) number (grind (arith, nat_tests, is)))))
          (λ i d below. λ other. let f : Feed = get_or l.feeds i d in
          feed_other k ks flow l.number f (and_right (nat_eq l.number link) (nat_eq f.feeder feeder) (eq_swapped feeder f.feeder other))),
    )

-- one edit, and then the flows of the other keys
set_one : (net : Network) (link : ℕ) (o : Option ℕ) (ks : List Key) (flow : Key → ℕ) → IsValid net
    → set_flows ks flow (with_edit net (edit_of (record { link = link; feeder = o }) (flow (record { link = link; feeder = o }))))
    ≡ set_flows (record { link = link; feeder = o } ∷ ks) flow net
set_one net link None ks flow valid =
    let k : Key = entry_key link in
    ap (λ ls. record net { links = ls }) (
    written_all link_number (set_entry (flow k)) (set_link ks flow) (set_link (k ∷ ks) flow) net.links link valid.sound.links_differ
    (λ i d below. λ is. link_entry link ks flow (get_or net.links i d) is)
    (λ i d below. λ other. link_other k ks flow (get_or net.links i d) other)
    )
set_one net link (Some feeder) ks flow valid =
    let k : Key = part_key link feeder in
    ap (λ ls. record net { links = ls }) (
    written_all link_number (set_part feeder (flow k)) (set_link ks flow) (set_link (k ∷ ks) flow) net.links link valid.sound.links_differ
    (λ i d below. λ is.
    let l : LinkValue = get_or net.links i d in
    let keeps : IsLink net.frame.step_count net.nodes (link_numbers net.links) l = valid.sound.links i d below in
    link_part link feeder ks flow l is keeps.feeders_differ)
    (λ i d below. λ other. link_other k ks flow (get_or net.links i d) other)
    )

-- the flows of no key
links_none : (flow : Key → ℕ) (ls : List LinkValue) → map (set_link [] flow) ls ≡ ls
links_none flow ls =
    map_fixed (set_link [] flow) ls (
    λ i d below. let l : LinkValue = get_or ls i d in
    rw (map_fixed (set_feed [] flow l.number) l.feeds (λ j e inside. refl)))

-- the edits of keys without a code, to flows in their range: each is allowed, and together they set those flows
pub edits_set : (ks : List Key) (flow : Key → ℕ) (net : Network) → IsValid net
    → All (λ k. (key_code net k ≡ None) × (flow k ≤ 9999)) ks
    → AreAllowed net (map (λ k. edit_of k (flow k)) ks)
    × (fold with_edit net (map (λ k. edit_of k (flow k)) ks) ≡ set_flows ks flow net)
edits_set [] flow net valid good = (tt, sym (ap (λ ls. record net { links = ls }) (links_none flow net.links)))
edits_set (k ∷ ks) flow net valid good =
    let Good : Key → Type 0 = λ j. (key_code net j ≡ None) × (flow j ≤ 9999) in
    let e : Edit = edit_of k (flow k) in
    let here = All-head Good k ks good in
    let allowed : edit_fault net e ≡ None = edit_allowed net k (flow k) here.0 here.1 in
    let next : Network = with_edit net e in
    let later = edits_set ks flow next (valid_edit net e valid allowed) (
    All-weaker Good (λ j. (key_code next j ≡ None) × (flow j ≤ 9999))
    (λ j is. (code_shape next net j (shape_kept net e) ∙ is.0, is.1)) ks (All-tail Good k ks good)
    ) in (
      (allowed, later.0),
      later.1 ∙ set_one net k.link k.feeder ks flow valid,
    )
