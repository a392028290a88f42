-- Each line leaves as much to tell as was left before it.
use Rattle.std.proofs.Common.{◌≡◌, ◌+◌, sym, ap, ◌∙◌, arith}
use Rattle.transyt_io.specs.Lines.{lines}
use Rattle.transyt_audit.specs.Findings.{finding_at, steps_from}
use Rattle.transyt_audit.proofs.Onward.{onward, onward_start, onward_skipped, onward_end}
use Rattle.transyt_audit.proofs.GivenLines.{after_line, onward_line, first_found}
use Rattle.transyt_audit.proofs.auditing.judge.Goals.{then-not-is_skipped+in_ok-judge, in-Right, in-Lower}
use Rattle.transyt_audit.proofs.auditing.judge.Goals.{else-not-is_skipped}
use Rattle.transyt_audit.proofs.auditing.judge.Goals as goal

-- a line that is not the true one
pub returns-in-Wrong-clause-verdict : goal.returns-in-Wrong-clause-verdict
returns-in-Wrong-clause-verdict g c =
    let net = c.args.truth.now in
    let i = c.loop-line.invariant in
    let line = onward_line net c.loop-line.place c.loop-line.lower c.loop-line.number c.in-Some.line.now (lines c.in-Some.after.now)
    (sym c.is_skipped.ensures ∙ c.if-not-is_skipped.true) in
    let found = rw (c.in-Wrong.is, i.truth) at c.in_ok-judge.ensures.finding in
    rw (← onward_start net c.args.first (lines c.args.table.now), ← i.same, c.in-Some.ensures.line, line, ← found)

-- a given line takes a place, and a skipped one none
pub loop-line-preserved : goal.loop-line-preserved
loop-line-preserved g c =
    let net = c.args.truth.now in
    let place = c.loop-line.place in
    let lower = c.loop-line.lower in
    let number = c.loop-line.number in
    let rest = lines c.in-Some.after.now in
    let i = c.loop-line.invariant in
    let before = rw c.in-Some.ensures.line at i.same in
    elim c.if-not-is_skipped.branch [
      | then-not-is_skipped+in_ok-judge w ↦
          let line = onward_line net place lower number c.in-Some.line.now rest
          (sym c.is_skipped.ensures ∙ w.if-not-is_skipped.true) in
          let found = sym (rw i.truth at w.in_ok-judge.ensures.finding) in
          let told : onward net c.if-not-is_skipped.place c.if-not-is_skipped.lower (number + 1) rest
          ≡ after_line net place lower number rest (finding_at net place c.in-Some.line.now) =
          elim w.match-branch-2.branch [
            | in-Right v ↦ rw (w.place-is, w.lower-is, v.lower-is, found ∙ v.in-Right.is)
            | in-Lower v ↦
                rw (w.place-is, w.lower-is, v.lower-is, v.unwrap_or.ensures, found ∙ v.in-Lower.is)
                (ap (λ o. onward net (place + 1) o (number + 1) rest) (first_found lower number))
          ] in
          record {
            same = told ∙ sym line ∙ before;
            truth = w.truth-is ∙ w.in_ok-judge.ensures.same ∙ i.truth;
            place = omega (arith, w.place-is, i.place);
            number = omega (arith, i.number, c.in-Some.ensures.less);
            steps = omega (arith, rw i.truth at w.judge.ensures.steps, w.steps-is, i.steps, ap (steps_from net) w.place-is);
            more_steps = omega (arith, w.steps-is, w.judge.ensures.more_steps, i.more_steps);
          }
      | else-not-is_skipped w ↦ record {
        same = rw (w.place-is, w.lower-is) (sym (onward_skipped net place lower number c.in-Some.line.now rest
            (sym c.is_skipped.ensures ∙ w.if-not-is_skipped.false)) ∙ before);
        truth = w.truth-is ∙ i.truth;
        place = omega (arith, w.place-is, i.place);
        number = omega (arith, i.number, c.in-Some.ensures.less);
        steps = omega (arith, w.steps-is, i.steps, ap (steps_from net) w.place-is);
        more_steps = omega (arith, w.steps-is, i.more_steps);
      }
    ]

-- where no line was wrong, what was found decides
pub returns-clause-verdict : goal.returns-clause-verdict
returns-clause-verdict g c =
    let net = c.args.truth.now in
    let i = c.loop-line.invariant in
    rw (
      ← onward_start net c.args.first (lines c.args.table.now),
      ← i.same,
      c.in_default.ensures.line,
      onward_end net c.loop-line.place c.loop-line.lower c.loop-line.number,
      c.concluded.ensures,
      i.truth,
    )
