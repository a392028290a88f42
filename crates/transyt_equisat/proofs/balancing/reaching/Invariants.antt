-- A search from here finds what one from the start finds, since no number before this one passes.
use Rattle.std.proofs.Common.{◌≡◌, drop}
use Rattle.std.specs.List.{find}
use Rattle.transyt_equisat.specs.Balance.{reaches}
use Rattle.transyt_equisat.proofs.balancing.reaching.Given as goal

abbrev pub invariant-loop-place : goal.invariant-loop-place
invariant-loop-place l =
    find (reaches l.here.net.now l.here.number l.peak l.here.greens.now) (drop l.place l.here.net.now.links)
    ≡ find (reaches l.here.net.now l.here.number l.peak l.here.greens.now) l.here.net.now.links
