-- One feed more.
use Rattle.std.proofs.Common.{ℕ, ◌+◌, ◌-◌, ◌*◌, ◌^◌, List, length, get_or, ap, sym, ◌∙◌, arith, rules}
use Rattle.std.proofs.lemmas.List.Sums.{fold_more}
use Rattle.transyt_profile.specs.Profile.{folded, added}
use Rattle.transyt_sweep.specs.Inflow.{no_feed, read_by}
use Rattle.transyt_sweep.specs.Cell.{brought}
use Rattle.transyt_parts.specs.declared.link.Feed.{Feed}
use Rattle.transyt_sweep.proofs.feeds.Feeds.add_each.Goals as goal

pub add-requires-clause-turns : goal.add-requires-clause-turns
add-requires-clause-turns c =
    let all : ℕ = length c.args.self.now.list.now in
    record {
      len = c.feeds.invariant.turns;
      small = λ j d h. omega (
        arith,
        c.args.self.now.few,
        c.feeds-test.true,
        c.feeds.invariant.grows ((16 - all) * 2 ^ 44) c.requires.turns.small j d h,
      );
    }

pub feeds-preserved : goal.feeds-preserved
feeds-preserved c =
    let feeds = c.args.self.now.list.now in
    let more : List ℕ → Feed → List ℕ = λ come f.
    added come (brought c.args.self.now.inputs.now.net.now (read_by c.args.self.now.inputs.now) f) in
    let n : ℕ = c.args.self.now.inputs.now.step_count in
    record {
      turns = search rules;
      value = c.add.ensures.value ∙ ap (λ come. more come (get_or feeds c.feeds.i no_feed)) c.feeds.invariant.value
          ∙ sym (fold_more more (folded n c.args.turns.now) feeds c.feeds.i no_feed c.feeds-test.true);
      grows = λ limit within j d h. omega (
        arith,
        c.add.ensures.grows (limit + c.feeds.i * 2 ^ 44) (c.feeds.invariant.grows limit within) j d h,
      );
    }

pub returns-clause-grows : goal.returns-clause-grows
returns-clause-grows c = λ limit within j d h. omega (arith, c.feeds.auto.i-end, c.feeds.invariant.grows limit within j d h)
