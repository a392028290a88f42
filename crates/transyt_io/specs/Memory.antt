-- Sources and sinks in memory: what contracts see of them, and what each call leaves.
use Rattle.std.specs.Prelude.{ℕ, ◌+◌, ◌-◌, ◌++◌, Bool, ◌&&◌, ◌||◌, ◌==◌, nat_lt, min, List, [], length, drop}
use Rattle.std.specs.List.{list_any}
use Rattle.transyt_io.specs.Streams.{last_count}

-- one more, up to the last value of a count
abbrev pub next_count : ℕ → ℕ
next_count n = min (n + 1) last_count

-- the call after so many calls has one of the numbers that fail; past number 4,294,967,295 none has
abbrev pub fails_next : List ℕ → ℕ → Bool
fails_next fail calls = nat_lt calls 4294967295 && list_any (λ number. number == calls + 1) fail

-- the view of a MemorySource: the bytes left, the most bytes that one call gives, the numbers of the calls that fail,
-- from 1, how many calls there were and how many failed, and how many bytes the last call gave
pub record Supply : Type 0 where
  pub left : List ℕ
  pub piece : ℕ
  pub fail : List ℕ
  pub calls : ℕ
  pub faults : ℕ
  pub last : ℕ

-- a source that nothing was read from
abbrev pub new_supply : List ℕ → ℕ → List ℕ → Supply
new_supply bytes piece fail = record { left = bytes; piece = piece; fail = fail; calls = 0; faults = 0; last = 0 }

-- how many bytes a call with so much room gives, if it does not fail
abbrev pub given_count : Supply → ℕ → ℕ
given_count supply room = min (min supply.piece room) (length supply.left)

-- the source after a call that gave n bytes
abbrev pub supply_after : Supply → ℕ → Supply
supply_after supply n = record supply { left = drop n supply.left; calls = next_count supply.calls; last = n }

-- the source after a call that failed
abbrev pub supply_after_fault : Supply → Supply
supply_after_fault supply =
    record supply { calls = next_count supply.calls; faults = next_count supply.faults; last = 0 }

-- the view of a SteadySource: the bytes left, and how many bytes the last call gave
pub record Stock : Type 0 where
  pub left : List ℕ
  pub last : ℕ

-- a steady source after a call that gave n bytes
abbrev pub stock_after : Stock → ℕ → Stock
stock_after stock n = record { left = drop n stock.left; last = n }

-- the view of a MemorySink: the bytes written, how many more it takes, the most bytes that one call takes, the numbers
-- of the calls that fail, from 1, and how many calls there were and how many failed
pub record Store : Type 0 where
  pub written : List ℕ
  pub room : ℕ
  pub piece : ℕ
  pub fail : List ℕ
  pub calls : ℕ
  pub faults : ℕ

-- a sink that nothing was written to
abbrev pub new_store : ℕ → ℕ → List ℕ → Store
new_store room piece fail = record { written = []; room = room; piece = piece; fail = fail; calls = 0; faults = 0 }

-- the next call fails: its number is one of those, or no room is left
abbrev pub refuses_next : Store → Bool
refuses_next store = store.room == 0 || fails_next store.fail store.calls

-- how many bytes a call takes of so many, if it does not fail
abbrev pub taken_count : Store → ℕ → ℕ
taken_count store size = min (min store.piece size) store.room

-- the sink after a call that took these bytes
abbrev pub store_after : Store → List ℕ → Store
store_after store bytes =
    record store { written = store.written ++ bytes; room = store.room - length bytes; calls = next_count store.calls }

-- the sink after a call that failed
abbrev pub store_after_fault : Store → Store
store_after_fault store = record store { calls = next_count store.calls; faults = next_count store.faults }
