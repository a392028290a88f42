-- What the word `version` writes.
use Rattle.std.specs.Prelude.{ℕ, List, [], ◌∷◌, ◌++◌}
use Rattle.transyt.specs.declared.version.TheConstants.{VERSION}

-- the version of the program, as a line
abbrev pub version_text : List ℕ
version_text = VERSION.now ++ 10 ∷ []
