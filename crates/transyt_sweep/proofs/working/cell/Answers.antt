-- The rows that were filled are those of the link that is worked out.
use Rattle.std.proofs.Common.{◌≡◌, ◌*◌, ℕ, length, All, subst, sym, ap, ◌∙◌, arith, Vec, Global}
use Rattle.std.proofs.lemmas.List.{with_items_is}
use Rattle.transyt_parts.specs.declared.frame.Frame.{Frame}
use Rattle.transyt_sweep.specs.Cell.{CellValue}
use Rattle.transyt_sweep.specs.Inflow.{AreFactors}
use Rattle.transyt_sweep.specs.Reading.{read_in}
use Rattle.transyt_sweep.proofs.StepLaws.{length-inflow}
use Rattle.transyt_sweep.proofs.working.cell.Goals as goal

-- the rows have the network's steps, sweeps and links
pub invariant_of-inputs : goal.invariant_of-inputs
invariant_of-inputs g c =
    let steps = ap (λ (f : Frame). f.step_count) c.frame.ensures.value in
    let limits = c.frame.ensures.valid.sound.frame.step_count in
    grind (arith, c.requires.fits)

-- the room has values for the steps, and the factors are right for them
pub fill_inflow-requires-clause-kept : goal.fill_inflow-requires-clause-kept
fill_inflow-requires-clause-kept g c =
    subst (λ (n : ℕ). All (AreFactors n) c.deref_mut.result.now)
    (ap (λ (v : CellValue). length v.arrivals) c.scratch.view_is ∙ c.requires.step_count)
    (subst (All (AreFactors (length c.scratch.inside.rows.arrivals.items))) (sym c.deref_mut.ensures.value)
    c.scratch.invariant.right)

pub fill_inflow-requires-clause-steps : goal.fill_inflow-requires-clause-steps
fill_inflow-requires-clause-steps g c =
    ap (λ (v : CellValue). length v.arrivals) c.scratch.view_is
    ∙ c.requires.step_count
    ∙ ap (λ (f : Frame). f.step_count) (sym c.frame.ensures.value)

pub fill_inflow-requires-clause-room_len : goal.fill_inflow-requires-clause-room_len
fill_inflow-requires-clause-room_len g c =
    ap length c.deref_mut-2.ensures.value ∙ c.scratch.invariant.room_len
    ∙ ap (λ n. 8 * n) (fill_inflow-requires-clause-steps g c)

pub fill_go_under_rule-requires : goal.fill_go_under_rule-requires
fill_go_under_rule-requires g c =
    ap length c.fill_inflow.ensures.arrivals
    ∙ length-inflow c.args.net.now (read_in c.args.rows.now.now c.args.sweep c.args.link) c.args.link
    ∙ ap (λ (f : Frame). f.step_count) (sym c.frame.ensures.value)

-- the figures can be worked out of the rows that were filled
pub invariant_of-scratch : goal.invariant_of-scratch
invariant_of-scratch g c =
    let i = c.scratch.inside in
    let net = c.args.net.now in
    let filled = c.fill_inflow in
    let work = c.work_out_queue-totals.ensures in
    let was : length i.rows.arrivals.items ≡ net.frame.step_count =
    ap (λ (v : CellValue). length v.arrivals) c.scratch.view_is ∙ c.requires.step_count in
    let steps : length c.work_out_queue-totals.new.rows.arrivals.items ≡ net.frame.step_count =
    ap (λ (v : Vec ℕ Global). length v.items) (work.arrivals ∙ c.fill_go_under_rule.ensures.arrivals)
    ∙ ap length filled.ensures.arrivals
    ∙ length-inflow net (read_in c.args.rows.now.now c.args.sweep c.args.link) c.args.link in
    rw (
      with_items_is i.room filled.new.room (filled.auto.room ∙ c.deref_mut-2.ensures.len),
      with_items_is i.factors filled.new.kept (filled.auto.kept ∙ c.deref_mut.ensures.len),
    )
    (record {
      room_len = filled.auto.room
          ∙ ap length c.deref_mut-2.ensures.value
          ∙ c.scratch.invariant.room_len
          ∙ ap (λ n. 8 * n) (was ∙ sym steps);
      told = record { totals_are = work.totals; limits = c.weights_of.ensures.are };
      right = subst (λ (n : ℕ). All (AreFactors n) filled.new.kept) (sym steps) filled.ensures.kept;
    })
