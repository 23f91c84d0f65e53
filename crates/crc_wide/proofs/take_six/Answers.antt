-- `crc_wide::take_six` meets its contract: it is `taken_six`, word for word.
use mathlib.Core.Path.{refl}
use Rattle.crc_wide.specs.Wide.{taken_six, fold48}
use Rattle.crc_wide.proofs.take_six.Goals as goal

pub returns : goal.returns
unfolding taken_six fold48
returns c = refl
