-- An end of std tells the bytes that its reader or writer tells.
use Rattle.std.proofs.Common.{◌≡◌, ℕ, List, refl}
use Rattle.std.specs.Prelude.{◌||◌, Option, None, Some, IfSome, IsTrue, is_none, is_some}
use Rattle.std.specs.Option.{option_and}

-- at first, what is told is told
pub told_first : (t : Option (List ℕ)) → option_and t t ≡ t
told_first None = refl
told_first (Some bytes) = refl

-- and so it is still told
pub still_first : (t : Option (List ℕ)) → IsTrue (is_none t || is_some t)
still_first None = refl
still_first (Some bytes) = refl

-- the bytes told since are what is told now
pub told_now : (first now : Option (List ℕ)) → IfSome (option_and first now) (λ bytes. now ≡ Some bytes)
told_now None now = tt
told_now (Some bytes) None = tt
told_now (Some bytes) (Some rest) = refl
