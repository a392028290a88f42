-- The pairs of a link and a sweep that have to be worked out again between two networks of one shape, and their number:
-- the work of an edit, of a climb and of its certificate.
use Rattle.std.specs.Prelude.{ℕ, Bool, false, not, ◌||◌, length, sum_by, zero, suc, ◌+◌, List, [], ◌∷◌, Option, Some}
use Rattle.std.specs.Prelude.{None}
use Rattle.std.specs.Str.{bytes_eq}
use Rattle.std.specs.List.{list_any, range_with_len, count_by}
use Rattle.std.specs.Option.{option_map_or}
use Rattle.transyt_net.specs.Parts.{Network}
use Rattle.transyt_sweep.specs.Sweeps.{out_of, read_at}
use Rattle.transyt_track.specs.Own.{own, same_own, places_at}
use Rattle.transyt_net.specs.declared.edit.Edit.{Edit}
use Rattle.transyt_net.specs.declared.edit.EditFault.{EditFault}
use Rattle.transyt_net.specs.Edits.{with_edit}
use Rattle.transyt_net.specs.EditFaults.{edit_fault}
use Rattle.transyt_moves.specs.Moves.{move}
use Rattle.transyt_sweep.specs.Climb.{Look}

-- whether a link's departures at a sweep differ between two networks
unfoldable pub differs : Network → Network → ℕ → ℕ → Bool
differs before after sweep link = not (bytes_eq (out_of before sweep link) (out_of after sweep link))

-- whether the departures of another link that a link reads at a sweep differ
abbrev pub read_differs : Network → Network → ℕ → ℕ → ℕ → Bool
read_differs before after sweep link other = differs before after (read_at sweep link other) other

-- whether a link at a sweep is due: its own data differ, or the departures that it reads of a feeder or of the link to
-- which it gives way
abbrev pub is_due : Network → Network → ℕ → ℕ → Bool
is_due before after sweep link =
    not (same_own (own before link) (own after link))
    || list_any (read_differs before after sweep link) (places_at before link).feeders
    || option_map_or (read_differs before after sweep link) (places_at before link).rule false

-- how many of the first `count` links are due at a sweep
unfoldable pub due_in : Network → Network → ℕ → ℕ → ℕ
due_in before after sweep count = count_by (is_due before after sweep) (range_with_len 0 count)

-- how many links are due at a sweep
abbrev pub due_at : Network → Network → ℕ → ℕ
due_at before after sweep = due_in before after sweep (length before.links)

-- how many links are due at the first `count` sweeps together, each at each sweep counted
unfoldable pub due_through : Network → Network → ℕ → ℕ
due_through before after count = sum_by (due_at before after) (range_with_len 1 count)

-- DUE: the number of pairs of a link and a sweep that are due
unfoldable pub due : Network → Network → ℕ
due before after = due_through before after before.frame.sweeps

-- the work of an edit, by its fault
abbrev pub work_with : Network → Edit → Option EditFault → ℕ
work_with net edit None = due net (with_edit net edit)
work_with net edit (Some fault) = 0

-- the work of an edit: the pairs due from the network to that with the edit, and none where it isn't allowed
abbrev pub edit_work : Network → Edit → ℕ
edit_work net edit = work_with net edit (edit_fault net edit)

-- the work of the places that a climb looks at: that of each move on the network as it was then
abbrev pub work_of : List Look → ℕ
work_of [] = 0
work_of (look ∷ looks) = edit_work look.net (move look.net look.place) + work_of looks

-- the work of a certificate: that of the moves at the first `places` places, each tried on the network as it is
abbrev pub cert_work : Network → ℕ → ℕ
cert_work net zero = 0
cert_work net (suc places) = cert_work net places + edit_work net (move net places)
