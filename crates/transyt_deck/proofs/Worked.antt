-- The text of a worked network, computed from the definitions.
use Rattle.std.proofs.Common.{◌≡◌, refl}
use Rattle.transyt_deck.specs.WorkedTown.{town_net, town_text}
use Rattle.transyt_deck.specs.WorkedVillage.{bytes_of}
use Rattle.transyt_deck.specs.Cards.{deck_text}
use Rattle.transyt_io.specs.Forms.{values_text}
use Rattle.std.specs.Fmt.{digits}

pub text_is : deck_text town_net ≡ bytes_of town_text
unfolding values_text digits
text_is = refl
