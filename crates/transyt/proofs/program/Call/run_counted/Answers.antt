-- The clauses of the top call as one record.
use Rattle.transyt.proofs.program.Call.run_counted.Goals as goal

-- the meaning of its status
pub returns : goal.returns
returns g c =
    let all = c.transyt.ensures in
    record {
      bad_words = all.bad_words;
      untouched = λ bad. let same = all.untouched bad in let source = same.0 in let sink = same.1 in cc;
      outcome = all.outcome;
      reads_nothing = all.reads_nothing;
      read_fault = all.read_fault;
      write_fault = all.write_fault;
      told = λ memory quiet. all.told memory quiet.read quiet.write;
      complete = λ memory quiet. all.complete memory quiet.read quiet.write;
      too_long = λ memory quiet. all.too_long memory quiet.read quiet.write;
      headline = λ run memory quiet. all.headline run memory quiet.read quiet.write;
    }
