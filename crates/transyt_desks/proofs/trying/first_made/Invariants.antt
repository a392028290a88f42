-- The moves so far don't lower the index.
use Rattle.std.proofs.Common.{◌≡◌, None}
use Rattle.transyt_desks.specs.Stretches.{IsStretch}
use Rattle.transyt_desks.proofs.trying.first_made.Given as goal

-- they are one stretch
abbrev pub invariant-loop-number : goal.invariant-loop-number
invariant-loop-number l = record {
  stretch : IsStretch l.net.value l.batch.place l.batch.count l.number l.stretch;
  going : l.stretch.made ≡ None;
}
