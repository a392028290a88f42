-- The lines of consecutive places, and the session after them.
use Rattle.std.proofs.Common.{◌≡◌, ℕ, zero, suc, ◌+◌, ◌-◌, ◌<◌, ◌≤◌, List, ◌∷◌, ◌++◌, Option, Result, Ok, Err, OnOk}
use Rattle.std.proofs.Common.{◌*◌, length, refl, sym, ◌∙◌, ap, arith, append_assoc, flat_map, subst}
use Rattle.std.proofs.lemmas.Grind.{flat_map-append}
use Rattle.std.specs.List.{range_with_len}
use Rattle.std.specs.Result.{IsErr}
use Rattle.transyt_io.specs.Streams.{Adds}
use Rattle.transyt_io.proofs.Told.{adds_both}
use Rattle.transyt_net.specs.Parts.{Network}
use Rattle.transyt_moves.specs.Moves.{move, move_count}
use Rattle.transyt_sweep.specs.Sweeps.{index}
use Rattle.transyt_track.specs.Due.{edit_work, cert_work}
use Rattle.transyt_session.specs.declared.answers.Tried.{Tried}
use Rattle.transyt_session.specs.Session.{SessionValue, credited}
use Rattle.transyt_io.specs.Prints.{Prints, Printed}
use Rattle.transyt_io.proofs.PrintLaws.{prints_both, prints_front, prints_same, adds_same}
use Rattle.transyt_audit.specs.Certificate.{place_text, last_text, cert_text}
use Rattle.transyt_audit.proofs.CertificateLaws.{text_by_place}
use Rattle.transyt_line_answers.specs.declared.answer.Answer.TheVariants as a
use Rattle.transyt_line_answers.specs.Commands.{after_answer}
use Rattle.transyt_line_answers.proofs.CertLaws.{cert_more}
use Rattle.std.specs.Prelude.{slice_index_or}
use Rattle.transyt_desks.specs.Stretches.{AreTriesOf, work_found}
use Rattle.transyt_desks.proofs.TriedLaws.{try_work}
use Rattle.transyt_reporter.specs.Conditions.{places_text, places_work, AreIdle, LeavesReady}
use Rattle.transyt_io.proofs.LoopLaws.{whole}
use Rattle.transyt_desks.specs.Desks.{desk_zero, AreAlike}
use Rattle.transyt_reporter.proofs.ReadyLaws.{ready_closed}

-- the work of a try is that of its move
pub try_is : (net : Network) (from count : ℕ) (tries : List Tried) (k : ℕ) (d : Tried) → AreTriesOf net from count tries
    → k < count → work_found (slice_index_or tries k d) ≡ edit_work net (move net (from + k))
try_is net from count tries k d found inside =
    ap work_found (found.each k d inside) ∙ try_work net (move net (from + k))

-- places from one on are some first of them and the rest
range_both : (from first second both next : ℕ) → both ≡ first + second → next ≡ from + first
    → range_with_len from both ≡ range_with_len from first ++ range_with_len next second
range_both from zero second both next both_is next_is =
    let same : both ≡ second = omega arith in
    let start : from ≡ next = omega arith in
    λ i. range_with_len (start i) (same i)
range_both from (suc first) second zero next both_is next_is = absurd (omega arith)
range_both from (suc first) second (suc both) next both_is next_is =
    ap (λ (l : List ℕ). from ∷ l) (range_both (from + 1) first second both next (omega arith) (omega arith))

-- and so are their lines
pub places_both : (net : Network) (from first second both next : ℕ) → both ≡ first + second → next ≡ from + first
    → places_text net from both ≡ places_text net from first ++ places_text net next second
places_both net from first second both next both_is next_is =
    ap (flat_map (place_text net)) (range_both from first second both next both_is next_is)
    ∙ flat_map-append (place_text net) (range_with_len from first) (range_with_len next second)

-- the work of more places
pub work_more : (net : Network) (from count : ℕ)
    → cert_work net from + places_work net from count ≡ cert_work net (from + count)
work_more net from count = let more = cert_more net from (from + count) (omega arith) in omega (arith, more)

-- the work of one place more
pub work_next : (net : Network) (from count : ℕ)
    → places_work net from (count + 1) ≡ places_work net from count + edit_work net (move net (from + count))
work_next net from count =
    let next : cert_work net (from + (count + 1)) ≡ cert_work net (from + count) + edit_work net (move net (from + count)) =
    ap (cert_work net) (let at : from + (count + 1) ≡ suc (from + count) = omega arith in at) in
    let more = cert_more net from (from + count) (omega arith) in
    omega (arith, next, more)

-- Desks of which desk 0 has certified the first of all places: their work was added, and with one desk as many steps were
-- made.
pub record AreCertified (desks now : List SessionValue) (places from begun spent : ℕ) : Type 0 where
  pub all : places ≡ move_count (desk_zero desks).net
  pub most : places ≤ 57600
  pub inside : from ≤ places
  pub state : desk_zero now ≡ credited (cert_work (desk_zero desks).net from) (desk_zero desks)
  pub small : cert_work (desk_zero desks).net from ≤ 8000 * from
  pub alike : AreAlike now
  pub len : length now ≡ length desks
  pub made : length desks ≡ 1 → spent ≡ begun + cert_work (desk_zero desks).net from

-- no place yet
pub certified_none : (desks : List SessionValue) {places : ℕ} (steps : ℕ) → AreAlike desks
    → places ≡ move_count (desk_zero desks).net → places ≤ 57600 → AreCertified desks desks places 0 steps steps
certified_none desks steps alike all most =
    let zero = desk_zero desks in
    let same : zero.work ≡ zero.work + 0 = omega arith in
    record {
      all = all;
      most = most;
      inside = omega arith;
      state = λ i. record { net = zero.net; before = zero.before; work = same i };
      small = omega arith;
      alike = alike;
      len = refl;
      made = λ one. omega arith;
    }

module _ {desks now : List SessionValue} {places from begun spent : ℕ}
    (so : AreCertified desks now places from begun spent) where
  -- the network is that of the start
  same_net : (desk_zero now).net ≡ (desk_zero desks).net
  same_net = ap (λ (s : SessionValue). s.net) so.state

  -- and then those of a batch
  pub certified_more : {after : List SessionValue} (count steps_new : ℕ) → from + count ≤ places
      → desk_zero after ≡ credited (places_work (desk_zero now).net from count) (desk_zero now)
      → places_work (desk_zero now).net from count ≤ 8000 * count → AreAlike after → length after ≡ length now
      → (length now ≡ 1
      → steps_new + cert_work (desk_zero now).net from ≡ spent + cert_work (desk_zero now).net (from + count))
      → AreCertified desks after places (from + count) begun steps_new
  certified_more count steps_new inside state few alike len made =
      let net = (desk_zero desks).net in
      let before_is = ap (λ (t : SessionValue). t.before) so.state in
      let had = ap (λ (t : SessionValue). t.work) so.state in
      let same : places_work (desk_zero now).net from count ≡ places_work net from count =
      ap (λ (n : Network). places_work n from count) same_net in
      let more = work_more net from count in
      let work : (desk_zero now).work + places_work (desk_zero now).net from count
      ≡ (desk_zero desks).work + cert_work net (from + count) = omega (arith, had, same, more) in
      record {
        all = so.all;
        most = so.most;
        inside = inside;
        state = state ∙ (λ i. record { net = same_net i; before = before_is i; work = work i });
        small = omega (arith, so.small, few, same, more);
        alike = alike;
        len = len ∙ so.len;
        made = λ one.
            let first = so.made one in
            let then = made (so.len ∙ one) in
            let here = ap (λ (n : Network). cert_work n from) same_net in
            let there = ap (λ (n : Network). cert_work n (from + count)) same_net in
            omega (arith, first, then, here, there);
      }

  -- the lines of the places of a batch
  same_lines : (count : ℕ) → places_text (desk_zero now).net from count ≡ places_text (desk_zero desks).net from count
  same_lines count = ap (λ (n : Network). places_text n from count) same_net

  -- they are written, and a remark after them changes nothing that is written
  pub batch_printed : {T E : Type 0} {v : T} (count : ℕ) {a b c d : Option (List ℕ)} {f g h k : ℕ}
      → Printed a b f g (places_text (desk_zero desks).net 0 from)
      → Prints {T = T} {E = E} b c g h (Ok v) (places_text (desk_zero now).net from count) → d ≡ c → k ≡ h
      → Printed a d f k (places_text (desk_zero desks).net 0 (from + count))
  batch_printed count {a} {b} {c} before batch written faults =
      let net = (desk_zero desks).net in
      let text : places_text net 0 from ++ places_text (desk_zero now).net from count ≡ places_text net 0 (from + count) =
      ap (λ (l : List ℕ). places_text net 0 from ++ l) (same_lines count)
      ∙ sym (places_both net 0 from count (from + count) from refl (omega arith)) in
      let adds = adds_same a c _ _ text (adds_both a b c _ _ before.adds batch.ok) in
      record {
        adds = subst (λ (held : Option (List ℕ)). Adds a held (places_text net 0 (from + count))) (sym written) adds;
        later = omega (arith, before.later, batch.cause.later, faults);
      }

  -- or they broke off
  pub batch_broken : {T U E : Type 0} {e : E} (r : Result T E) (v : T) (count : ℕ) {a b c : Option (List ℕ)} {f g h : ℕ}
      → IsErr r → from + count ≤ places → Printed a b f g (places_text (desk_zero desks).net 0 from)
      → Prints {T = U} {E = E} b c g h (Err e) (places_text (desk_zero now).net from count)
      → Prints {T = T} {E = E} a c f h r (cert_text (desk_zero desks).net)
  batch_broken {T} {U} {E} {e} r v count {a} {b} {c} {g = g} {h = h} failed inside before batch =
      let net = (desk_zero desks).net in
      let broken : Prints {T = T} {E = E} b c g h (Err e) (places_text (desk_zero now).net from count) =
      record { ok = tt; err = batch.err; cause = record { later = batch.cause.later; failed = batch.cause.failed } } in
      let left = move_count net - (from + count) in
      let done = places_text net 0 from in
      let lines = places_text net from count in
      let more = places_text net (from + count) left in
      let last = last_text (move_count net) (index net) in
      let text : places_text net 0 (move_count net) ≡ (done ++ lines) ++ more =
      places_both net 0 (from + count) left (move_count net) (from + count) (omega (arith, so.all)) (omega arith)
      ∙ ap (λ (l : List ℕ). l ++ more) (places_both net 0 from count (from + count) from refl (omega arith)) in
      prints_same a c r _ _
      (prints_front r (done ++ lines) (more ++ last) failed
      (prints_both (Err e) done lines (whole v done before) (prints_same b c (Err e) _ _ broken (same_lines count))))
      (sym (text_by_place net ∙ ap (λ (l : List ℕ). l ++ last) text ∙ append_assoc (done ++ lines) more last))

  -- all lines are written, and then the last
  pub lines_ended : {T E : Type 0} (r : Result T E) (v : T) {zero : SessionValue} {a b c : Option (List ℕ)} {f g h : ℕ}
      → zero ≡ desk_zero now → from ≡ places → Printed a b f g (places_text (desk_zero desks).net 0 from)
      → Prints {T = T} {E = E} b c g h r (last_text places (index zero.net))
      → Prints {T = T} {E = E} a c f h r (cert_text (desk_zero desks).net)
  lines_ended r v {zero} {a} {b} {c} is ended before last =
      let net = (desk_zero desks).net in
      let now_is : zero.net ≡ net = ap (λ (s : SessionValue). s.net) is ∙ same_net in
      prints_same a c r _ _
      (prints_both r (places_text net 0 from) _ (whole v (places_text net 0 from) before) last)
      ((λ i. places_text net 0 ((ended ∙ so.all) i) ++ last_text (so.all i) (index (now_is i))) ∙ sym (text_by_place net))

  -- desk 0 is the session after CERT then
  pub certified_state : {T E : Type 0} (r : Result T E) → from ≡ places
      → OnOk r (desk_zero now ≡ after_answer a.Cert (desk_zero desks))
  certified_state (Ok v) ended =
      so.state ∙ ap (λ (n : ℕ). credited (cert_work (desk_zero desks).net n) (desk_zero desks)) (ended ∙ so.all)
  certified_state (Err e) ended = tt

  -- the desks and the steps, also where the text broke off
  pub certified_leaves : AreIdle desks
      → LeavesReady 8000072000 (after_answer a.Cert (desk_zero desks)) desks now begun spent
  certified_leaves idle =
      let work = ap (λ (t : SessionValue). t.work) so.state in
      let all = cert_more (desk_zero desks).net from (move_count (desk_zero desks).net) (omega (arith, so.inside, so.all)) in
      record {
        ready = ready_closed desks now idle.ready so.alike so.len
            (ap (λ (t : SessionValue). t.before) so.state ∙ idle.closed);
        len = so.len;
        few = omega (arith, work, so.inside, so.most, so.small);
        work = omega (arith, work, all);
        made = λ one. let counted = so.made one in omega (arith, work, counted);
      }
