-- Worked lines of answers, each with its text. No number is neutral.
use Rattle.std.specs.Prelude.{ℕ, ◌++◌, List, [], ◌∷◌, true, false, None, Some, codes}
use Rattle.transyt_syntax.specs.declared.code.Code.TheVariants as code
use Rattle.transyt_net.specs.declared.edit.Edit.TheVariants.{Entry, Part}
use Rattle.transyt_equisat.specs.Balance.{GreensValue}
use Rattle.transyt_audit.specs.declared.verdict.Verdict.TheVariants.{Yes, No}
use Rattle.transyt_climbs.specs.declared.row.Climbed.{Climbed}
use Rattle.transyt_climbs.specs.declared.row.NetworkRow.TheVariants as row
use Rattle.transyt_climbs.specs.declared.scan_row.ScanRow.{ScanRow}
use Rattle.transyt_words.specs.declared.table.Numbered.TheVariants.{Starts, Cycles}
use Rattle.transyt_words.specs.Answer.{LineValue, refused_card}
use Rattle.transyt_words.specs.Counts.{command_lines, counted_line, refused_row}
use Rattle.transyt_words.specs.Equisat.{end_line, node_line, stage_line}
use Rattle.transyt_words.specs.Audit.{audit_line}
use Rattle.transyt_words.specs.Scan as scan
use Rattle.transyt_words.specs.Plans as plan

-- a climb at a cycle time
abbrev pub a_row : ScanRow
a_row = record { cycle = 66; «from» = 1948618; took = 5; «local» = true; looked = 192; «to» = 1352922 }

-- the same climb as a row of a table of plans
abbrev pub a_climb : Climbed
a_climb = record { number = 66; «from» = 1948618; took = 5; «local» = true; looked = 192; «to» = 1352922 }

-- the balance of a node, but for its stages
abbrev pub a_balance : GreensValue
a_balance = record { top = 1800; base = 1320; link = 21; stages = [] }

-- a line, and its text with the deck text of the junction without links after it
abbrev pub a_best_line : List LineValue
a_best_line = plan.best_line (Some (record { place = 3; number = 66; «to» = 1352922 })) ∷ []

abbrev pub line_with_deck : List ℕ
line_with_deck =
    codes "* BEST 66 1352922" ++ 10 ∷ codes "FORM 2" ++ 10 ∷ codes "CYCLE 90 15 2 45 37 40" ++ 10
    ∷ codes "NODE 21 4" ++ 10 ∷ codes "STAGE 2 1 3" ++ 10 ∷ codes "STAGE 6 2 5" ++ 10 ∷ codes "STEPS 7 2" ++ 10
    ∷ codes "END" ++ 10 ∷ []

-- each kind of line, with its text
abbrev pub worked_lines : List (List LineValue × List ℕ)
worked_lines =
    (refused_card 7 code.Unknown ∷ [], codes "CARD 7 REFUSED 17" ++ 10 ∷ [])
    ∷ (refused_row 4 code.Range ∷ [], codes "ROW 4 REFUSED 14" ++ 10 ∷ [])
    ∷ (command_lines (Entry 21 640), codes "ENTRY 21 640" ++ 10 ∷ [])
    ∷ (command_lines (Part 21 8 315), codes "PART 21 8 315" ++ 10 ∷ [])
    ∷ (counted_line 12 3 ∷ [], codes "* COUNTS 12 3" ++ 10 ∷ [])
    ∷ (node_line 5 a_balance ∷ [], codes "NODE 5 PEAK 1800 OF 1320 LINK 21" ++ 10 ∷ [])
    ∷ (
      stage_line 2 (record { change = 31; green = 14; need = 9 }) ∷ [],
      codes "STAGE 2 CHANGE 31 GREEN 14 NEED 9" ++ 10 ∷ [],
    )
    ∷ (end_line ∷ [], codes "END EQUISAT" ++ 10 ∷ [])
    ∷ (scan.row_line a_row ∷ [], codes "CYCLE 66 FROM 1948618 TOOK 5 LOCAL 192 TO 1352922" ++ 10 ∷ [])
    ∷ (
      scan.row_line (record a_row { «local» = false }) ∷ [],
      codes "CYCLE 66 FROM 1948618 TOOK 5 BUDGET 192 TO 1352922" ++ 10 ∷ [],
    )
    ∷ (scan.best_line a_row ∷ [], codes "BEST 66 1352922" ++ 10 ∷ [])
    ∷ (audit_line (Yes 24 1352922) ∷ [], codes "AUDIT YES 24 INDEX 1352922" ++ 10 ∷ [])
    ∷ (audit_line (No 31 code.Unknown) ∷ [], codes "AUDIT NO 31 17" ++ 10 ∷ [])
    ∷ (
      plan.row_line Starts (row.Climbed a_climb) ∷ [],
      codes "* START 66 FROM 1948618 TOOK 5 LOCAL 192 TO 1352922" ++ 10 ∷ [],
    )
    ∷ (
      plan.row_line Starts (row.Climbed (record a_climb { «local» = false })) ∷ [],
      codes "* START 66 FROM 1948618 TOOK 5 BUDGET 192 TO 1352922" ++ 10 ∷ [],
    )
    ∷ (
      plan.row_line Cycles (row.Climbed a_climb) ∷ [],
      codes "* CYCLE 66 FROM 1948618 TOOK 5 LOCAL 192 TO 1352922" ++ 10 ∷ [],
    )
    ∷ (
      plan.row_line Cycles (row.Climbed (record a_climb { «local» = false })) ∷ [],
      codes "* CYCLE 66 FROM 1948618 TOOK 5 BUDGET 192 TO 1352922" ++ 10 ∷ [],
    )
    ∷ (plan.row_line Cycles (row.Barred 66 21) ∷ [], codes "* CYCLE 66 BARRED 21" ++ 10 ∷ [])
    ∷ (plan.row_line Cycles (row.NoPlan 66) ∷ [], codes "* CYCLE 66 NONE" ++ 10 ∷ [])
    ∷ (
      plan.best_line (Some (record { place = 3; number = 66; «to» = 1352922 })) ∷ [],
      codes "* BEST 66 1352922" ++ 10 ∷ [],
    )
    ∷ (plan.best_line None ∷ [], codes "* NONE" ++ 10 ∷ [])
    ∷ []
