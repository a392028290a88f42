-- The worked lines, computed from the definition.
use Rattle.std.proofs.Common.{◌≡◌, map, refl}
use Rattle.transyt_commands.specs.Commands.{command_in}
use Rattle.transyt_commands.specs.WorkedLines.{worked}

-- each worked line has the command or the code beside it
pub all_worked : map (λ row. command_in row.0) worked ≡ map (λ row. row.1) worked
all_worked = refl
