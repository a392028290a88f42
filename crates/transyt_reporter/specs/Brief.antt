-- BRIEF: one climb on a network, in one line.
use Rattle.std.specs.Prelude.{ℕ, ◌+◌, ◌*◌, Bool, List, [], ◌∷◌, length, codes, if◌then◌else◌}
use Rattle.transyt_net.specs.Parts.{Network}
use Rattle.transyt_sweep.specs.Sweeps.{index}
use Rattle.transyt_sweep.specs.Climb.{Climb}
use Rattle.transyt_track.specs.Due.{work_of}
use Rattle.transyt_io.specs.Forms.{form_line}
use Rattle.transyt_line_answers.specs.Commands.{climb_of}

-- the form of the line, by how the climb ended
abbrev pub brief_form : Bool → List ℕ
brief_form local =
    if local then codes "BRIEF # # FROM # TOOK # LOCAL # TO #" else codes "BRIEF # # FROM # TOOK # BUDGET # TO #"

-- the line of a climb: how many nodes and links, the index before, the steps, its end and its looks, the index after
abbrev pub climbed_line : Network → Climb → List ℕ
climbed_line net c =
    form_line (brief_form c.local)
    (length net.nodes ∷ length net.links ∷ index net ∷ length c.steps ∷ length c.looks ∷ index c.net ∷ [])

-- BRIEF on a network, by its climb plan
unfoldable pub brief_text : Network → List ℕ
brief_text net = climbed_line net (climb_of net)

-- its steps: the whole evaluation, and the work of the climb
abbrev pub brief_steps : Network → ℕ
brief_steps net = net.frame.sweeps * length net.links + work_of (climb_of net).looks
