-- The lines of the shares stand one after another.
use Rattle.std.proofs.Common.{◌≡◌, ◌++◌, ◌+◌, drop}
use Rattle.transyt_words.specs.Equisat.{share_lines}
use Rattle.transyt_words.proofs.equisat.add_shares.Given as goal

-- the lines so far and those to come are all
abbrev pub invariant-loop-place : goal.invariant-loop-place
invariant-loop-place l =
    l.lines.items ++ share_lines (l.place + 1) (drop l.place l.shares) ≡ l.fn.lines.items ++ share_lines 1 l.shares
