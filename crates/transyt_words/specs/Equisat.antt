-- The answer of `equisat` to a network.
use Rattle.std.specs.Prelude.{ℕ, ◌+◌, ◌++◌, List, [], ◌∷◌, codes, length}
use Rattle.std.specs.List.{flat_map, range_with_len}
use Rattle.transyt_net.specs.Parts.{Network, node_of}
use Rattle.transyt_equisat.specs.declared.greens.Share.{Share}
use Rattle.transyt_equisat.specs.Balance.{GreensValue, balance}
use Rattle.transyt_words.specs.Answer.{AnswerValue, done, LineValue, line_of}
use Rattle.transyt_words.specs.Case.{CaseValue}

-- a stage: its number from 1, its change, its green, and the green that it needs, all in steps
abbrev pub stage_line : ℕ → Share → LineValue
stage_line k s = line_of (codes "STAGE # CHANGE # GREEN # NEED #") (k ∷ s.change ∷ s.green ∷ s.need ∷ [])

-- a line for each share, that of the first with this number
abbrev pub share_lines : ℕ → List Share → List LineValue
share_lines k [] = []
share_lines k (s ∷ more) = stage_line k s ∷ share_lines (k + 1) more

-- a node: its number, its peak as a fraction, and the link that reaches it, 0 for none
abbrev pub node_line : ℕ → GreensValue → LineValue
node_line number g = line_of (codes "NODE # PEAK # OF # LINK #") (number ∷ g.top ∷ g.base ∷ g.link ∷ [])

-- the lines of a node with this number
abbrev pub node_lines : ℕ → GreensValue → List LineValue
node_lines number g = node_line number g ∷ share_lines 1 g.stages

-- the lines of the node at a place
abbrev pub lines_at : Network → ℕ → List LineValue
lines_at net p = node_lines (node_of net p).number (balance net p)

-- the last line
abbrev pub end_line : LineValue
end_line = line_of (codes "END EQUISAT") []

-- the lines of each node, and then the last
abbrev pub equisat_lines : Network → List LineValue
equisat_lines net = flat_map (lines_at net) (range_with_len 0 (length net.nodes)) ++ end_line ∷ []

-- the answer to a case, whose table isn't looked at
abbrev pub equisat_answer : CaseValue → AnswerValue
equisat_answer case = done (equisat_lines case.net)
