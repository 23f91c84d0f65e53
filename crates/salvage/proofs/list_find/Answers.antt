-- `salvage::list_find` meets its contract: the header's answer tells the rides of the find (`ride_told`), none or the one that is noted.
use mathlib.Core.Path.{sym, ap, ◌∙◌}
use native.Mathlib.Nat.{add-zero}
use native.Mathlib.Omega.{arith}
use Rattle.words.proofs.Limits.{texts_fit}
use Rattle.rides.proofs.Listing.{ride_in, ride_told}
use Rattle.salvage.proofs.Adding.{adds_none, adds_one}
use Rattle.salvage.proofs.list_find.Goals as goal

pub read_header-requires : goal.read_header-requires
read_header-requires c =
    (c.requires.0, omega (arith, texts_fit, c.requires.1))

pub returns-in_default : goal.returns-in_default
returns-in_default c =
    let told = ride_told _ _ c.read_header.ensures ∙ ap ride_in c.in_default.is in
    rw told (sym (add-zero _), adds_none _ _ _)

pub returns : goal.returns
returns c =
    let told = ride_told _ _ c.read_header.ensures ∙ ap ride_in c.in-Some.is in
    rw told (c.note.ensures.0, adds_one c.from.ensures c.note.ensures.1)
