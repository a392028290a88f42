-- The refusal of an edit: its code, and the ranges of the numbers that it sets.
use Rattle.std.specs.Prelude.{ℕ, Bool, nat_le, nat_lt}
use Rattle.transyt_syntax.specs.declared.code.Code.{Code}
use Rattle.transyt_syntax.specs.declared.code.Code.TheVariants as code
use Rattle.transyt_parts.specs.Ranges.{cruise_range, is_in, most_flow, saturation_range}
use Rattle.transyt_parts.specs.Valid.{weights_in_range}
use Rattle.transyt_net.specs.declared.edit.Edit.{Edit}
use Rattle.transyt_net.specs.declared.edit.Edit.TheVariants as e
use Rattle.transyt_net.specs.declared.edit.EditFault.{EditFault}
use Rattle.transyt_net.specs.declared.edit.EditFault.TheVariants as fault

-- the code of an edit's fault
abbrev pub edit_code : EditFault → Code
edit_code fault.Unknown = code.Unknown
edit_code fault.NoFeeder = code.NoFeeder
edit_code fault.Range = code.Range
edit_code fault.StageOrder = code.StageOrder
edit_code fault.LeastGreen = code.LeastGreen

-- whether the numbers that an edit sets are in their ranges, in a cycle of so many steps
abbrev pub edit_in_range : ℕ → Edit → Bool
edit_in_range steps (e.Offset node offset) = nat_lt offset steps
edit_in_range steps (e.Change node stage change) = nat_lt change steps
edit_in_range steps (e.Entry link flow) = nat_le flow most_flow
edit_in_range steps (e.Part link feeder flow) = nat_le flow most_flow
edit_in_range steps (e.Cruise link feeder seconds) = is_in cruise_range seconds
edit_in_range steps (e.Saturation link flow) = is_in saturation_range flow
edit_in_range steps (e.Weight link weights) = weights_in_range weights
