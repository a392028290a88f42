-- The mean stands before the first step, and is within the bound of the values that it is the mean of.
use Rattle.std.proofs.Common.{◌≡◌, ◌*◌, ◌/◌, length, sum, ap, sym, ◌∙◌, refl, arith}
use Rattle.transyt_profile.specs.Arriving.{sent}
use Rattle.transyt_profile.specs.Passing.{steps_of}
use Rattle.transyt_profile.proofs.Mixing.{mean_below, smoothed_none}
use Rattle.transyt_profile.proofs.Turns.{length-sent}
use Rattle.transyt_profile.proofs.passing.Passing.begin.Goals as goal

pub returns : goal.returns
returns c =
    let p = c.args.platoon.now in
    let same : length (sent p) ≡ steps_of p = length-sent p in
    let is_mean : c.args.total / steps_of p ≡ sum (sent p) / length (sent p) =
    ap (λ all. all / steps_of p) c.requires.total ∙ ap (λ n. sum (sent p) / n) (sym same) in
    let small = mean_below (sent p) p.travel.now.limit (omega (arith, p.some, same)) c.requires.fits in
    record {
      value = is_mean ∙ sym (smoothed_none (sent p) (p.travel.now.percent * p.travel.now.time));
      is = record { small = rw is_mean small; factor = refl; place = refl; fits = c.requires.fits };
    }
