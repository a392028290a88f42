-- The outcome of adding a card. Only private contracts cite these words.
use Rattle.std.specs.Prelude.{◌≡◌, ◌<◌, ◌≤◌, length, IsOk, None, Result, Ok, Err}
use Rattle.std.specs.Option.{option_map_or}
use Rattle.transyt_syntax.specs.declared.code.Code.{Code}
use Rattle.transyt_net.specs.declared.draft.DraftFault.{DraftFault}
use Rattle.transyt_net.specs.Parts.{Network}
use Rattle.transyt_parts.specs.Plan.{first_fault}
use Rattle.transyt_deck.specs.declared.card.Card.TheVariants as c
use Rattle.transyt_deck.specs.declared.state.Part.TheVariants as p
use Rattle.transyt_deck.specs.declared.state.State.TheVariants as s
use Rattle.transyt_deck.specs.declared.state.Stop.{Stop}
use Rattle.transyt_deck.specs.declared.state.Stop.TheVariants as stop
use Rattle.transyt_deck.specs.State.{Card, Part, State, fault_code}

-- an outcome with its fault as a stop: its code; a fault that has none is out of memory
abbrev pub stopped : {T : Type 0} → Result T DraftFault → Result T (Stop Code)
stopped (Ok x) = Ok x
stopped (Err fault) = Err (option_map_or stop.Code (fault_code fault) stop.Memory)

-- the new part is made; or it is refused with its code, or memory runs out where it has none, and all is as before
abbrev pub Adds : {A T : Type 0} → Result A Code → A → A → Result T (Stop Code) → Type 0
Adds made old new (Ok x) = made ≡ Ok new
Adds made old new (Err (stop.Code code)) = (made ≡ Err code) × (new ≡ old)
Adds made old new (Err stop.Memory) = IsOk made × (new ≡ old)

-- the stages of a LINK card are 1 to 8, the sizes of a STEPS card 1 to 16
abbrev pub CanAdd : Card → Type 0
CanAdd (c.Link link stages) = (1 ≤ length stages) × (length stages ≤ 8)
CanAdd (c.Steps budget sizes) = (1 ≤ length sizes) × (length sizes ≤ 16)
CanAdd _ = Unit {0}

-- the network by the part of a deck: a STAGE card finds a node, a STEPS card no plan, and END judged the plans
abbrev pub IsTied : Part → Network → Type 0
IsTied p.Nodes net = (0 < length net.nodes) × (net.plan ≡ None)
IsTied p.Plan net = Unit {0}
IsTied p.End net = first_fault net.frame.step_count net.nodes ≡ None
IsTied _ net = net.plan ≡ None

-- the same of a state
abbrev pub IsTiedState : State → Type 0
IsTiedState (s.Making form part net) = IsTied part net
IsTiedState _ = Unit {0}
