-- `crc_wide::sixteen_past` meets its contract: it is `sixteen_past`, word for word.
use mathlib.Core.Path.{refl}
use Rattle.crc_wide.specs.Wide.{sixteen_past, fold16}
use Rattle.crc_wide.proofs.sixteen_past.Goals as goal

pub returns : goal.returns
unfolding sixteen_past fold16
returns c = refl
