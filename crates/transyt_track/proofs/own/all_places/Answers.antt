-- One link more.
use Rattle.std.proofs.Common.{◌≡◌, [], ◌∷◌, ◌++◌, sym, ◌∙◌, arith, rules}
use Rattle.std.proofs.lemmas.List.FromFn.{map-range_with_len_more}
use Rattle.transyt_track.specs.Own.{places_at}
use Rattle.transyt_track.proofs.own.all_places.Goals as goal

pub loop-link-preserved : goal.loop-link-preserved
loop-link-preserved c =
    let l = c.loop-link.link in
    let p = c.in_ok-places_of.field-0 in
    let pushed : c.push.new.self.items ≡ c.loop-link.places.items ++ p ∷ [] = search rules in
    let is : p ≡ places_at c.args.net.now l = search rules in
    pushed
    ∙ (λ j. c.loop-link.invariant j ++ is j ∷ [])
    ∙ sym (map-range_with_len_more (places_at c.args.net.now) 0 l l (omega arith))
