-- One desk more stands for the network, or it doesn't.
use Rattle.std.proofs.Common.{◌≡◌, true, false, sym, ◌∙◌, arith}
use Rattle.std.proofs.lemmas.Bool.{true≢false}
use borrow.Author.Count.{below_more}
use Rattle.transyt_desks.specs.Desks.{session_at, sessions_of}
use Rattle.transyt_desks.proofs.DeskLaws.{net_read}
use Rattle.transyt_desks.proofs.desk.all_stand.Goals as goal

pub returns-then-not-same_net : goal.returns-then-not-same_net
returns-then-not-same_net c =
    let desks = c.args.desks.now in
    let net_is = c.net.ensures ∙ net_read desks c.loop-i.i c.index-desks-i.result c.loop-i-test.true in
    let no : c.same_net.result ≡ false = grind (arith, c.if-not-same_net.true) in
    (λ yes. absurd (cc), λ all. absurd (true≢false (sym (c.same_net.ensures.1 (net_is ∙ all c.loop-i.i c.loop-i-test.true)) ∙ no)))

pub loop-i-preserved : goal.loop-i-preserved
loop-i-preserved c =
    let desks = c.args.desks.now in
    let net_is = c.net.ensures ∙ net_read desks c.loop-i.i c.index-desks-i.result c.loop-i-test.true in
    let yes : c.same_net.result ≡ true = grind (arith, c.if-not-same_net.false) in
    below_more (λ k. (session_at (sessions_of desks) k).net ≡ c.args.net.now) c.loop-i.i c.loop-i.invariant
    (sym net_is ∙ c.same_net.ensures.0 yes)
