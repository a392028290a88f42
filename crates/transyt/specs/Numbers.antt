-- The numbers that words give: workers, nodes, a town, cycle times, starts.
use Rattle.std.specs.Prelude.{ℕ, ◌-◌, ◌≤◌, ◌<◌, ◌&&◌, nat_le, List, [], ◌∷◌, Option, None, Some}
use Rattle.std.specs.Bool.{then_some}
use Rattle.std.specs.Option.{option_map, option_and_then}
use Rattle.transyt_num.specs.Number.{number_of}
use Rattle.transyt_climbs.specs.Scan.{scan_of}
use Rattle.transyt_climbs.specs.declared.scan_word.ScanWord.{ScanWord}
use Rattle.transyt_words.specs.declared.starts.StartsWord.{StartsWord}
use Rattle.transyt_words.specs.Plans.{starts_of}
use Rattle.transyt.specs.declared.town.Town.{Town}

-- the number of workers of a word: one digit from 1 to 8
abbrev pub workers_of : List ℕ → Option ℕ
workers_of (digit ∷ []) = then_some (nat_le 49 digit && nat_le digit 56) (digit - 48)
workers_of _ = None

-- the number of nodes of a word, 1 to 200
abbrev pub nodes_of : List ℕ → Option ℕ
nodes_of word = option_and_then (λ n. then_some (nat_le 1 n && nat_le n 200) n) (number_of word)

-- a town that may be asked for
abbrev pub IsTown : Town → Type 0
IsTown town = (town.seed < 1000000000) × (1 ≤ town.nodes) × (town.nodes ≤ 200)

-- the town of two words
abbrev pub town_of : List ℕ → List ℕ → Option Town
town_of seed nodes =
    option_and_then (λ s. option_map (λ n. record { seed = s; nodes = n }) (nodes_of nodes)) (number_of seed)

-- workers and cycle times by the numbers of four words
abbrev pub times_by : Option ℕ → Option ℕ → Option ℕ → Option ℕ → Option ScanWord
times_by (Some workers) (Some low) (Some high) (Some by) = scan_of workers low high by
times_by _ _ _ _ = None

-- `w low high by`
abbrev pub times_of : List (List ℕ) → Option ScanWord
times_of (workers ∷ low ∷ high ∷ by ∷ []) =
    times_by (workers_of workers) (number_of low) (number_of high) (number_of by)
times_of _ = None

-- workers and starts by the numbers of four words
abbrev pub starts_by : Option ℕ → Option ℕ → Option ℕ → Option ℕ → Option StartsWord
starts_by (Some workers) (Some seed) (Some count) (Some from) = starts_of workers seed count from
starts_by _ _ _ _ = None

-- `w seed count`, which begins with the deck's own plan, and `w seed count from`
abbrev pub starts_asked : List (List ℕ) → Option StartsWord
starts_asked (workers ∷ seed ∷ count ∷ []) =
    starts_by (workers_of workers) (number_of seed) (number_of count) (Some 0)
starts_asked (workers ∷ seed ∷ count ∷ from ∷ []) =
    starts_by (workers_of workers) (number_of seed) (number_of count) (number_of from)
starts_asked _ = None
