-- Desks between two lines: a session of one shape at desk 0 leaves all of one shape.
use Rattle.std.proofs.Common.{◌≡◌, ℕ, zero, suc, ◌-◌, ◌<◌, List, length, None, IfSome, refl, sym, ap, subst, arith, set}
use Rattle.std.proofs.lemmas.List.{length-set, length-replicate}
use Rattle.std.proofs.lemmas.Option.{MatchOption-from_none}
use Rattle.transyt_net.specs.Parts.{shape, Network, SameShape}
use Rattle.transyt_session.specs.Session.{SessionValue, opened}
use Rattle.transyt_desks.specs.Desks.{session_at, desk_zero, opened_desks, AreAlike}
use Rattle.transyt_desks.proofs.DeskLaws.{alike_lent, opened_at, zero_set}
use Rattle.transyt_commands.specs.Commands.{command_in}
use Rattle.transyt_line_answers.specs.Commands.{line_judged}
use Rattle.transyt_line_answers.proofs.ShapeLaws.{KeepsShape, keeps_said}
use Rattle.transyt_reporter.specs.Conditions.{AreIdle, AreReady}

-- desks with another session of one shape at desk 0
ready_set : (desks : List SessionValue) (s : SessionValue) → AreReady desks → KeepsShape (desk_zero desks) s
    → AreReady (set desks 0 s)
ready_set desks s ready keeps =
    let P : SessionValue → Type 0 = λ z. IfSome z.before (λ n. SameShape z.net n) in
    record {
      some = omega (arith, ready.some, length-set desks 0 s);
      alike = alike_lent desks s ready.some ready.alike (sym keeps.net);
      before = subst P (sym (zero_set desks s ready.some)) keeps.before;
    }

-- desks whose desk 0 judged a line
pub ready_judged : (desks : List SessionValue) (line : List ℕ) → AreReady desks
    → AreReady (set desks 0 (line_judged (desk_zero desks) line))
ready_judged desks line ready =
    ready_set desks (line_judged (desk_zero desks) line) ready (keeps_said (command_in line) (desk_zero desks) ready.before)

-- desks of one shape, as many as before, with no trial at desk 0
pub ready_closed : (desks after : List SessionValue) → AreReady desks → AreAlike after → length after ≡ length desks
    → (desk_zero after).before ≡ None → AreReady after
ready_closed desks after ready alike len closed = record {
  some = omega (arith, ready.some, len);
  alike = alike;
  before = MatchOption-from_none (desk_zero after).before _ closed;
}

-- desks that were opened
pub ready_opened : (s : SessionValue) (workers : ℕ) → s.before ≡ None → AreReady (opened_desks s workers)
ready_opened s workers closed = record {
  some = omega arith;
  alike = record { shape = shapes };
  before = MatchOption-from_none s.before _ closed;
}
  where
    shapes : (k : ℕ) → k < length (opened_desks s workers)
        → SameShape (session_at (opened_desks s workers) k).net (desk_zero (opened_desks s workers)).net
    shapes zero inside = refl
    shapes (suc k) inside =
        let count = length-replicate (workers - 1) (opened s.net) in
        ap (λ (z : SessionValue). shape z.net)
        (opened_at s workers (suc k) (omega arith) (omega (arith, inside, count)))

-- and idle, where they are of a new session
pub idle_opened : (net : Network) (workers : ℕ) → AreIdle (opened_desks (opened net) workers)
idle_opened net workers =
    record { ready = ready_opened (opened net) workers refl; closed = refl; room = omega arith }
