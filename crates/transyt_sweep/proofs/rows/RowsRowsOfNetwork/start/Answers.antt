-- The value of each step is the link's total flow.
use Rattle.std.proofs.Common.{◌≡◌, ℕ, List, ap, ◌∙◌}
use Rattle.transyt_profile.specs.Profile.{uniform}
use Rattle.transyt_net.specs.Parts.{perstep}
use Rattle.transyt_kept.specs.Marked.{KeptValue}
use Rattle.transyt_kept.specs.Rows.{with_out}
use Rattle.transyt_sweep.specs.Sweeps.{start}
use Rattle.transyt_sweep.proofs.rows.RowsRowsOfNetwork.start.Goals as goal

pub returns-clause-value : goal.returns-clause-value
returns-clause-value c =
    let net = c.args.net.now in
    let kept : KeptValue = c.args.self.now in
    let flow = c.per_step.ensures.value ∙ ap (perstep net.frame) c.total_flow.ensures.value in
    let leaves : uniform kept.now.step_count c.per_step.result ≡ start net c.args.link =
    (λ j. uniform (c.requires.fits.step_count j) (flow j)) in
    c.fill_out.ensures.value ∙ ap (λ (x : List ℕ). record kept { now = with_out kept.now 0 c.args.link x }) leaves
