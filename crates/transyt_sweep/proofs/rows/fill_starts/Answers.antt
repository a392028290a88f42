-- The links are started one after another.
use Rattle.std.proofs.Common.{◌+◌, length, sym, subst, ap, ◌∙◌, arith}
use Rattle.transyt_kept.specs.Marked.{KeptValue}
use Rattle.transyt_sweep.specs.Opened.{AreStarted}
use Rattle.transyt_sweep.proofs.FilledLaws.{empty_started, started_put, started_end}
use Rattle.transyt_sweep.proofs.rows.fill_starts.Goals as goal

-- none is
pub loop-link-init : goal.loop-link-init
loop-link-init c = record {
  started = subst (AreStarted c.args.net.now 0 0) (sym (ap (λ (v : KeptValue). v.now) c.requires))
      (empty_started c.args.net.now);
  unmarked = ap (λ (v : KeptValue). v.marked) c.requires;
}

-- one more is
pub loop-link-preserved : goal.loop-link-preserved
loop-link-preserved c = record {
  started = subst (AreStarted c.args.net.now 0 (c.loop-link.link + 1))
      (sym (ap (λ (v : KeptValue). v.now) c.start.ensures.value))
      (started_put c.args.net.now c.loop-link.link c.loop-link.rows.now c.loop-link.invariant.started c.start.ensures.kept
      (omega (arith, c.loop-link-test.true, ap length c.links-link-end.ensures.value)));
  unmarked = ap (λ (v : KeptValue). v.marked) c.start.ensures.value ∙ c.loop-link.invariant.unmarked;
}

-- all of them are
pub returns-clause-opened : goal.returns-clause-opened
returns-clause-opened c =
    started_end c.args.net.now c.loop-link.link c.loop-link.rows.now
    (omega (arith, ap length c.links-link-end.ensures.value)) c.loop-link.invariant.started
