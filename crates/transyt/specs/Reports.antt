-- When the deck at the front of an input is refused, and the climbs of a report.
use Rattle.std.specs.Prelude.{◌≡◌, ◌↔◌, ℕ, List, true, false, length}
use Rattle.transyt_io.specs.Lines.{lines}
use Rattle.transyt_deck.specs.Deck.{Deck, Refused, Complete, Open, deck}
use Rattle.transyt_outcome.specs.declared.status.Status.{Status}
use Rattle.transyt_outcome.specs.declared.status.Status.TheVariants.{DeckRefused}
use Rattle.transyt_line_answers.specs.Report.{RunState, InDeck, InSession}
use Rattle.transyt_net.specs.Parts.{Network}
use Rattle.transyt_sweep.specs.Climb.{Climb}
use Rattle.transyt_climb.specs.Way.{IsLocal}
use Rattle.transyt_line_answers.specs.Commands.{budget_of}
use Rattle.transyt_line_answers.specs.Steps.{LeadDown}

-- a line of the deck was refused, or its END didn't come
abbrev pub IsRefusedOrOpen : Deck → Type 0
IsRefusedOrOpen (Refused number code) = Unit {0}
IsRefusedOrOpen (Open count state) = Unit {0}
IsRefusedOrOpen (Complete number net) = ⊥

-- the status of the run of an input is a refusal exactly where the deck of the input's lines is refused or open
abbrev pub IsRefusedByDeck : Status → List ℕ → Type 0
IsRefusedByDeck status input = (status ≡ DeckRefused) ↔ IsRefusedOrOpen (deck (lines input))

-- A climb from a network: each step is a listed move that is allowed, and strictly lowers the index within every least
-- green and intergreen. At LOCAL no listed move is allowed and lowers the index; at BUDGET all looks were taken.
pub record Descends (net : Network) (budget : ℕ) (climb : Climb) : Type 0 where
  pub steps : LeadDown net climb.steps climb.net
  pub local : climb.local ≡ true → IsLocal climb.net
  pub spent : climb.local ≡ false → length climb.looks ≡ budget

-- the climb of the network that lines have come to, within the budget of its plan
abbrev pub ClimbDescends : (Network → Climb) → RunState → Type 0
ClimbDescends climb_of (InDeck deck) = Unit {0}
ClimbDescends climb_of (InSession s) = Descends s.net (budget_of s.net.plan) (climb_of s.net)
