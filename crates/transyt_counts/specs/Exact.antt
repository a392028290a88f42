-- The network after the edits of a table: each row counts in one edit, each edit is allowed after those before
-- it, and after them all each key's flow is its counted one and all else is as before.
use Rattle.std.specs.Prelude.{ℕ, ◌≡◌, Bool, false, List, [], ◌∷◌, map, fold, All, count_by, Some, None, if◌then◌else◌}
use Rattle.std.specs.List.{list_any}
use Rattle.transyt_parts.specs.declared.link.Feed.{Feed}
use Rattle.transyt_parts.specs.Parts.{LinkValue}
use Rattle.transyt_net.specs.Parts.{Network}
use Rattle.transyt_net.specs.declared.edit.Edit.{Edit}
use Rattle.transyt_net.specs.declared.edit.Edit.TheVariants.{Entry, Part}
use Rattle.transyt_net.specs.Edits.{with_edit}
use Rattle.transyt_net.specs.EditFaults.{edit_fault}
use Rattle.transyt_counts.specs.declared.key.Key.{Key}
use Rattle.transyt_counts.specs.declared.row.Count.{Count}
use Rattle.transyt_counts.specs.Rows.{same_key}
use Rattle.transyt_counts.specs.Counts.{keys_of, flow_of}

-- the key of a link's entry flow, and of what it takes from a feeder
abbrev pub entry_key : ℕ → Key
entry_key link = record { link = link; feeder = None }

abbrev pub part_key : ℕ → ℕ → Key
part_key link feeder = record { link = link; feeder = Some feeder }

-- whether an edit sets the flow of a key
abbrev pub sets : Key → Edit → Bool
sets k (Entry link flow) = same_key k (entry_key link)
sets k (Part link feeder flow) = same_key k (part_key link feeder)
sets k e = false

-- each edit is allowed on the network that those before it make
abbrev pub AreAllowed : Network → List Edit → Type 0
AreAllowed net [] = Unit {0}
AreAllowed net (e ∷ es) = (edit_fault net e ≡ None) × AreAllowed (with_edit net e) es

-- a flow where it is that of one of these keys, else as it was
abbrev pub set_flow : List Key → (Key → ℕ) → Key → ℕ → ℕ
set_flow keys flow k before = if list_any (same_key k) keys then flow k else before

-- a feed with its flow set, if it is one of these
abbrev pub set_feed : List Key → (Key → ℕ) → ℕ → Feed → Feed
set_feed keys flow link f = record f { flow = set_flow keys flow (part_key link f.feeder) f.flow }

-- a link with its flows set, those that are of these
abbrev pub set_link : List Key → (Key → ℕ) → LinkValue → LinkValue
set_link keys flow l = record l {
  entry = set_flow keys flow (entry_key l.number) l.entry;
  feeds = map (set_feed keys flow l.number) l.feeds;
}

-- a network with the flows of these keys set, and all else as it was
abbrev pub set_flows : List Key → (Key → ℕ) → Network → Network
set_flows keys flow net = record net { links = map (set_link keys flow) net.links }

-- the network after the edits of rows
pub record AreExact (net : Network) (counts : List Count) (edits : List Edit) : Type 0 where
  pub once : All (λ c. count_by (sets c.key) edits ≡ 1) counts
  pub allowed : AreAllowed net edits
  pub after : fold with_edit net edits ≡ set_flows (keys_of counts) (flow_of counts) net
