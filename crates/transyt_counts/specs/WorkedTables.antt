-- Worked tables of counts for the worked town. No number is neutral.
use Rattle.std.specs.Prelude.{ℕ, List, [], ◌∷◌, Option, None, Some, codes, Result, Ok, Err}
use Rattle.transyt_syntax.specs.declared.code.Code.{Code}
use Rattle.transyt_syntax.specs.declared.code.Code.TheVariants as code
use Rattle.transyt_net.specs.declared.edit.Edit.{Edit}
use Rattle.transyt_net.specs.declared.edit.Edit.TheVariants.{Entry, Part}
use Rattle.transyt_net.specs.Parts.{Network}
use Rattle.transyt_net.specs.WorkedNets.{of, signals, streets}
use Rattle.transyt_counts.specs.declared.row.Count.{Count}
use Rattle.transyt_counts.specs.declared.counts.CountStop.{CountStop}
use Rattle.transyt_counts.specs.declared.counts.CountStop.TheVariants as stop
use Rattle.transyt_counts.specs.Counts.{CountsValue}

-- a row of four fields
abbrev pub fields : List ℕ → List ℕ → List ℕ → List ℕ → List (List ℕ)
fields link feeder vehicles minutes = link ∷ feeder ∷ vehicles ∷ minutes ∷ []

-- the entry flow of link 5, counted by the sixth row
abbrev pub count_five : ℕ → ℕ → Count
count_five vehicles minutes =
    record { row = 6; key = record { link = 5; feeder = None }; vehicles = vehicles; minutes = minutes }

-- rows, and what each counts as the sixth of its table, or its code: links 5, 9 and 4 are there, and 4 is fed by 9
-- and 5
abbrev pub worked_rows : List (List (List ℕ) × Result Count Code)
worked_rows =
    (fields (codes "5") [] (codes "37") (codes "15"), Ok (count_five 37 15))
    ∷ (
      fields (codes "4") (codes "9") (codes "25") (codes "10"),
      Ok (record { row = 6; key = record { link = 4; feeder = Some 9 }; vehicles = 25; minutes = 10 }),
    )
    ∷ ([], Err code.WrongCount)
    ∷ (codes "5" ∷ [] ∷ codes "37" ∷ [], Err code.WrongCount)
    ∷ (codes "5" ∷ [] ∷ codes "37" ∷ codes "15" ∷ codes "1" ∷ [], Err code.WrongCount)
    ∷ (fields (codes "5") [] (codes "3x") (codes "15"), Err code.NoNumber)
    ∷ (fields (codes "6") (codes "-") (codes "37") (codes "15"), Err code.NoNumber)
    ∷ (fields (codes "6") [] (codes "37") (codes "0"), Err code.Unknown)
    ∷ (fields (codes "4") (codes "6") (codes "37") (codes "15"), Err code.Unknown)
    ∷ (fields (codes "9") (codes "5") (codes "37") (codes "0"), Err code.NoFeeder)
    ∷ (fields (codes "5") [] (codes "999999") (codes "1440"), Ok (count_five 999999 1440))
    ∷ (fields (codes "5") [] (codes "1000000") (codes "1440"), Err code.Range)
    ∷ (fields (codes "5") [] (codes "999999") (codes "1441"), Err code.Range)
    ∷ (fields (codes "5") [] (codes "37") (codes "0"), Err code.Range)
    ∷ (fields (codes "5") [] (codes "0") (codes "1"), Ok (count_five 0 1))
    ∷ []

-- tables, each with its answer: two rows of one flow are summed, 78 vehicles in 35 minutes are 133 an hour; of a
-- flow above 9,999 an hour the last row is refused
abbrev pub worked_tables : List (List (List (List ℕ)) × Result CountsValue CountStop)
worked_tables = (
  fields (codes "5") [] (codes "37") (codes "15") ∷ fields (codes "4") (codes "9") (codes "25") (codes "10")
      ∷ fields (codes "5") [] (codes "41") (codes "20") ∷ fields (codes "4") (codes "5") (codes "12") (codes "7") ∷ [],
  Ok (record { rows = 4; edits = Entry 5 133 ∷ Part 4 9 150 ∷ Part 4 5 102 ∷ [] }),
)
    ∷ (fields (codes "5") [] (codes "9999") (codes "60") ∷ [], Ok (record { rows = 1; edits = Entry 5 9999 ∷ [] }))
    ∷ (
      fields (codes "5") [] (codes "9008") (codes "53") ∷ fields (codes "4") (codes "9") (codes "9") (codes "5")
          ∷ fields (codes "5") [] (codes "992") (codes "7")
          ∷ fields (codes "4") (codes "5") (codes "999") (codes "1") ∷ [],
      Err (stop.Refused 3 code.CountedFlow),
    )
    ∷ (
      fields (codes "5") [] (codes "37") (codes "15") ∷ fields (codes "4") (codes "9") (codes "25") (codes "0")
          ∷ fields (codes "8") [] (codes "41") (codes "20") ∷ [],
      Err (stop.Refused 2 code.Range),
    )
    ∷ ([], Ok (record { rows = 0; edits = [] }))
    ∷ []

-- tables as they are written, each with its answer: blank lines are no rows, and a comma at the end begins a field
abbrev pub worked_texts : List (List ℕ × Result CountsValue CountStop)
worked_texts = (
  codes "5,,37,15\n4,9,25,10\n5,,41,20\n4,5,12,7\n",
  Ok (record { rows = 4; edits = Entry 5 133 ∷ Part 4 9 150 ∷ Part 4 5 102 ∷ [] }),
)
    ∷ (codes "5,,37,15\n\n4,4,25,10\n", Err (stop.Refused 2 code.NoFeeder))
    ∷ (codes "\n\r\n", Ok (record { rows = 0; edits = [] }))
    ∷ (codes " \n", Err (stop.Refused 1 code.WrongCount))
    ∷ (codes "5,,37,15,\n", Err (stop.Refused 1 code.WrongCount))
    ∷ []

-- a count of a link's flow by a row
abbrev pub count_at : ℕ → ℕ → Option ℕ → ℕ → ℕ → Count
count_at row link feeder vehicles minutes =
    record { row = row; key = record { link = link; feeder = feeder }; vehicles = vehicles; minutes = minutes }

-- the counts of a table: three flows of link 4, and one of them twice
abbrev pub four_counts : List Count
four_counts =
    count_at 1 4 None 37 15 ∷ count_at 2 4 (Some 9) 25 10 ∷ count_at 3 4 None 41 20 ∷ count_at 4 4 (Some 5) 12 7 ∷ []

-- the edits that they come to
abbrev pub three_edits : List Edit
three_edits = Entry 4 133 ∷ Part 4 9 150 ∷ Part 4 5 102 ∷ []

-- the count of the first and the third row, their edit, and the town with that flow and all else as it was
abbrev pub two_counts : List Count
two_counts = count_at 1 4 None 37 15 ∷ count_at 3 4 None 41 20 ∷ []

abbrev pub town_of_two : Network
town_of_two = of (signals 4 8) (streets 133 1451 4 6 311 23)

-- the row that counts the flow from link 5 to link 4, and the town with it
abbrev pub fed_count : List Count
fed_count = count_at 4 4 (Some 5) 12 7 ∷ []

abbrev pub town_of_fed : Network
town_of_fed = of (signals 4 8) (streets 151 1451 4 6 102 23)
