-- Each turn reads a row; there are no more turns than bytes and one.
use Rattle.std.proofs.Common.{arith}
use Rattle.transyt_counts.proofs.ProgressLaws.{read_start, read_more, read_end, read_refused, read_few, read_room, read_counted}
use Rattle.transyt_counts.proofs.counting.tally_rows.Goals as goal

pub loop-row-init : goal.loop-row-init
loop-row-init c = record {
  reading = c.requires.reading;
  read = read_start _ _ _ c.args.reader.now c.args.tally.now.entries c.requires.start c.requires.source c.requires.empty;
}

pub take_row-requires : goal.take_row-requires
take_row-requires c = read_room _ _ _ _ _ _ c.requires.fits c.loop-row.invariant.read

pub returns-then-not-branch-clause-ok : goal.returns-then-not-branch-clause-ok
returns-then-not-branch-clause-ok c =
    read_end _ _ _ _ c.next_record.new.reader _ _ _ c.loop-row.invariant.reading c.loop-row.invariant.read
    (rw c.if-not-branch.true at c.in_ok-next_record.ensures.reads)

pub returns-then-not-branch-clause-counted : goal.returns-then-not-branch-clause-counted
returns-then-not-branch-clause-counted c = read_counted _ _ _ _ _ _ c.requires.fits c.loop-row.invariant.read

pub loop-row-preserved : goal.loop-row-preserved
loop-row-preserved c =
    let (count, counts, made) = c.in_default.ensures.ok in
    record {
      reading = c.in_ok-next_record.ensures.ready;
      read = read_more _ _ _ _ _ _ _ _ _ count c.loop-row.invariant.reading c.loop-row.invariant.read
          (rw c.if-not-branch.false at c.in_ok-next_record.ensures.reads) counts made;
    }

pub returns-in-Err-clause-err : goal.returns-in-Err-clause-err
returns-in-Err-clause-err c =
    read_refused _ _ _ _ c.next_record.new.reader _ _ _ c.in-Err.stop c.loop-row.invariant.reading c.loop-row.invariant.read
    (rw c.if-not-branch.false at c.in_ok-next_record.ensures.reads) c.in-Err.ensures.err

pub unreachable-requires : goal.unreachable-requires
unreachable-requires c = omega (arith, read_few _ _ _ _ _ _ c.loop-row.invariant.read, c.loop-row-test.false)
