-- The rows of a table: the records of its bytes, and what each counts, or its code.
use Rattle.std.specs.Prelude.{ℕ, List, Bool, ◌&&◌, nat_eq, true, not, nat_le, [], ◌∷◌, Option, Some, None, Result, Err}
use Rattle.std.specs.Prelude.{if◌then◌else◌}
use Rattle.csv.specs.Reading.{records, default_config, strip_bom}
use Rattle.std.specs.Option.{option_eq, option_map_or, option_map, option_or}
use Rattle.transyt_net.specs.declared.edit.Edit.{Edit}
use Rattle.transyt_net.specs.declared.edit.Edit.TheVariants.{Entry, Part}
use Rattle.transyt_counts.specs.declared.key.Key.{Key}
use Rattle.transyt_syntax.specs.declared.code.Code.{Code}
use Rattle.transyt_syntax.specs.Syntax.{when, unless}
use Rattle.transyt_num.specs.Number.{number_of}
use Rattle.transyt_parts.specs.Valid.{within, is_fed}
use Rattle.transyt_net.specs.Parts.{Network}
use Rattle.transyt_net.specs.Valid.{feeds_at}
use Rattle.transyt_net.specs.EditFaults.{is_link}
use Rattle.transyt_counts.specs.declared.row.Count.{Count}
use Rattle.transyt_syntax.specs.declared.code.Code.TheVariants as code

-- the records of a table, each as its fields
abbrev pub records_of : List ℕ → List (List (List ℕ))
records_of table = records default_config (strip_bom table)

-- the edit that sets a key's flow: what a link takes from a feeder, or its entry flow where there is none
abbrev pub edit_of : Key → ℕ → Edit
edit_of k flow = option_map_or (λ feeder. Part k.link feeder flow) k.feeder (Entry k.link flow)

-- whether two keys are the same flow
abbrev pub same_key : Key → Key → Bool
same_key a b = nat_eq a.link b.link && option_eq nat_eq a.feeder b.feeder

-- the feeder that a field names: none where it is empty
abbrev pub feeder_of : List ℕ → Option (Option ℕ)
feeder_of [] = Some None
feeder_of (b ∷ bs) = option_map (λ f. Some f) (number_of (b ∷ bs))

-- a row of these numbers, if they are all there
abbrev pub made_count : ℕ → Option ℕ → Option (Option ℕ) → Option ℕ → Option ℕ → Option Count
made_count row (Some link) (Some feeder) (Some vehicles) (Some minutes) =
    Some (record { row = row; key = record { link = link; feeder = feeder }; vehicles = vehicles; minutes = minutes })
made_count row link feeder vehicles minutes = None

-- the count of a row of these four fields; none where one isn't a number
abbrev pub count_of : ℕ → List ℕ → List ℕ → List ℕ → List ℕ → Option Count
count_of row link feeder vehicles minutes =
    made_count row (number_of link) (feeder_of feeder) (number_of vehicles) (number_of minutes)

-- the code of a row's key: an unknown link or feeder, a feeder that doesn't feed the link
abbrev pub key_code : Network → Key → Option Code
key_code net k =
    if not (is_link net k.link && option_map_or (is_link net) k.feeder true) then Some code.Unknown
    else when (not (option_map_or (is_fed (feeds_at net.links k.link)) k.feeder true)) code.NoFeeder

-- the code of what a row counts: that of its key, a number out of its range
abbrev pub count_code : Network → Count → Option Code
count_code net c =
    option_or (key_code net c.key) (when (not (nat_le c.vehicles 999999 && within 1 1440 c.minutes)) code.Range)

-- the count of a row that has no code; no number where a field isn't a number
abbrev pub judged : Network → Option Count → Result Count Code
judged net count = option_map_or (λ c. unless (count_code net c) c) count (Err code.NoNumber)

-- the count of a row with its number, or its code; a wrong count where it hasn't four fields
abbrev pub read_row : Network → ℕ → List (List ℕ) → Result Count Code
read_row net row (a ∷ b ∷ c ∷ d ∷ []) = judged net (count_of row a b c d)
read_row net row fields = Err code.WrongCount
