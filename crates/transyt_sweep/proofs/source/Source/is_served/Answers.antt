-- Where all six comparisons hold, the factors serve.
use Rattle.std.proofs.Common.{arith}
use Rattle.transyt_sweep.proofs.source.Source.is_served.Goals as goal

pub returns-then-factors-frame : goal.returns-then-factors-frame
returns-then-factors-frame c = λ is are. record {
  are = are;
  serve = record {
    feeder = grind arith;
    flow = grind arith;
    whole = grind arith;
    time = grind (arith, are.time);
    percent = grind (arith, is);
  };
  below = grind arith;
}
