-- A complete deck is its network's: so are its session, its desks and its steps.
use Rattle.std.proofs.Common.{◌≡◌, ℕ, ◌-◌, ◌≤◌, None, Ok, arith}
use Rattle.std.proofs.lemmas.List.{length-replicate}
use Rattle.transyt_net.specs.Parts.{Network}
use Rattle.transyt_deck.specs.Deck.{Deck, Refused, Complete, Open, finished}
use Rattle.transyt_session.specs.Session.{SessionValue, opened}
use Rattle.transyt_desks.specs.Desks.{opened_desks}
use Rattle.transyt_reporter.specs.Reporter.{AreKept}
use Rattle.transyt_reporter.proofs.ReadyLaws.{ready_opened}

-- it is complete with this network
pub opened_is : (deck : Deck) (net : Network) → finished deck ≡ Ok net → (number : ℕ) × (deck ≡ Complete number net)
opened_is (Complete number n) net is = (number, cc)
opened_is (Open count state) net is = absurd (cc)
opened_is (Refused number code) net is = absurd (cc)

-- desks of a session that was opened
pub opened_kept : (s : SessionValue) (workers : ℕ) → 1 ≤ workers → s.before ≡ None → s.work ≡ 0
    → AreKept workers 0 (opened_desks s workers)
opened_kept s workers some closed fresh =
    let count = length-replicate (workers - 1) (opened s.net) in
    record {
      ready = ready_opened s workers closed;
      len = omega (arith, some, count);
      work = omega (arith, fresh);
    }
