-- The number of each code.
use Rattle.std.specs.Prelude.{ℕ}
use Rattle.transyt_syntax.specs.declared.code.Code.{Code}
use Rattle.transyt_syntax.specs.declared.code.Code.TheVariants as code

-- the number that is printed
abbrev pub number : Code → ℕ
number code.OddByte = 10
number code.LongLine = 11
number code.WrongCount = 12
number code.NoNumber = 13
number code.Range = 14
number code.OutOfPlace = 15
number code.Twice = 16
number code.Unknown = 17
number code.StageOrder = 18
number code.LeastGreen = 19
number code.TooMany = 20
number code.NoEnd = 21
number code.FewStages = 22
number code.NoFeeder = 23
number code.NoTrial = 24
number code.OpenTrial = 25
number code.NoPlan = 26
number code.CountedFlow = 27
number code.OtherLine = 28
number code.LowerIndex = 29
