-- Every desk stands for the network of desk 0 where the others of the crew do.
use Rattle.std.proofs.Common.{◌≡◌, ◌<◌, List, length, drop, ap, sym, ◌∙◌, subst}
use Rattle.transyt_desks.specs.declared.desk.Desk.{Desk}
use Rattle.transyt_desks.specs.Desks.{session_at, sessions_of, AreAligned}
use Rattle.transyt_desks.proofs.DeskLaws.{aligned_others, others_aligned}
use Rattle.transyt_desks.proofs.desks.Desks.aligned.Goals as goal

pub returns : goal.returns
returns c =
    let zero = c.self.inside.zero in
    let crew = c.self.inside.crew.items in
    let others_are : c.split_at.result.1.now ≡ drop 1 crew = c.split_at.ensures.back ∙ ap (drop 1) c.as_slice.ensures.value in
    let net_is = c.net.ensures in (
      (λ yes. subst AreAligned c.self.view_is (others_aligned zero crew (λ k less.
          subst (λ (ds : List Desk). (session_at (sessions_of ds) k).net ≡ zero.net) others_are
          (c.all_stand.ensures.0 yes k (subst (λ (ds : List Desk). k < length ds) (sym others_are) less) ∙ net_is)))),
      (λ aligned. c.all_stand.ensures.1 (λ k less.
          subst (λ (ds : List Desk). (session_at (sessions_of ds) k).net ≡ zero.net) (sym others_are)
          (aligned_others zero crew (subst AreAligned (sym c.self.view_is) aligned) k
          (subst (λ (ds : List Desk). k < length ds) others_are less)) ∙ sym net_is)),
    )
