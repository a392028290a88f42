-- The difference of two places in their turn is the difference round the cycle.
use Rattle.std.proofs.Common.{sym, arith}
use Rattle.transyt_cycle.proofs.CycleLaws.{minus_mod-above, minus_mod-under, minus_mod-add}
use Rattle.transyt_cycle.proofs.difference.minus_mod.Goals as goal

-- a comes after b in its turn
pub returns-then-from-to-clause-value : goal.returns-then-from-to-clause-value
returns-then-from-to-clause-value c = sym (minus_mod-above _ _ _ c.requires (omega (arith, c.if-from-to.true)))

-- b comes after a in its turn
pub returns-else-from-to-clause-value : goal.returns-else-from-to-clause-value
returns-else-from-to-clause-value c = sym (minus_mod-under _ _ _ c.requires (omega (arith, c.if-from-to.false)))

-- b steps on from it stands a, where a comes after b
pub returns-then-from-to-clause-back : goal.returns-then-from-to-clause-back
returns-then-from-to-clause-back c = rw (returns-then-from-to-clause-value c) (minus_mod-add _ _ _ c.requires)

-- and where b comes after a
pub returns-else-from-to-clause-back : goal.returns-else-from-to-clause-back
returns-else-from-to-clause-back c = rw (returns-else-from-to-clause-value c) (minus_mod-add _ _ _ c.requires)
