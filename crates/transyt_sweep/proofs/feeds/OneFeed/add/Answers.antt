-- The arrivals of one feed are added.
use Rattle.std.proofs.Common.{◌≡◌, length, ap, ◌∙◌, arith}
use Rattle.transyt_profile.specs.Profile.{added, folded}
use Rattle.transyt_profile.specs.Platoon.{travel_steps, dispersed}
use Rattle.transyt_parts.specs.declared.frame.Frame.{Frame}
use Rattle.transyt_sweep.specs.Cell.{brought}
use Rattle.transyt_sweep.specs.Inflow.{read_by}
use Rattle.transyt_sweep.proofs.feeds.OneFeed.add.Goals as goal

-- it is the part that goes on, after its travel
pub returns-clause-value : goal.returns-clause-value
returns-clause-value c =
    let inputs = c.args.self.now.inputs.now in
    let feed = c.args.self.now.feed in
    let frame = c.frame-frame.ensures.value in
    let same : length c.disperse.new.out ≡ inputs.step_count = omega (arith, c.split_at_mut-shared.ensures.front_len) in
    let time = c.travel_steps-time.ensures.value ∙ ap (λ (f : Frame). travel_steps feed.cruise f.step_count f.cycle) frame in
    let is : c.disperse.new.out ≡ brought inputs.net.now (read_by inputs) feed =
    c.disperse.ensures.value ∙ (λ j. dispersed (c.share.ensures.value j) (time j) (frame j).dispersion) in
    (rw same at c.add_to_first.ensures.value) ∙ ap (added (folded inputs.step_count c.args.turns.now)) is

-- a limit goes up as that of a profile does
pub returns-clause-grows : goal.returns-clause-grows
returns-clause-grows c = λ limit within.
    let same : length c.disperse.new.out ≡ c.args.self.now.inputs.now.step_count = omega (arith, c.split_at_mut-shared.ensures.front_len) in
    rw (← same) (c.add_to_first.ensures.grows limit (rw same within))

pub add_to_first-requires-clause-turns_fit : goal.add_to_first-requires-clause-turns_fit
add_to_first-requires-clause-turns_fit c =
    rw (c.disperse.auto.out ∙ c.split_at_mut-brought.ensures.front_len) (λ j d h. omega (arith, c.requires.turns.small j d h))
