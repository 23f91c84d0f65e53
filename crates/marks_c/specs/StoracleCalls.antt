-- WHAT A CALL FROM C SAYS of the storacle: the number that it returns, and every lent buffer and answer as it is left, from the outcome of
-- the entry behind it.
--
--   storacle_build_call_says ..
--                              what a build returns and leaves, as that of the oracle does
use Rattle.std.specs.Prelude.{List, ℕ}
use Rattle.words.specs.Words.{Word}
use Rattle.storacle_entries.specs.StoracleBuild.{storacle_build_says}
use Rattle.marks_c.specs.Calls.{BuildCall, build_returns}

abbrev pub storacle_build_call_says : Word → List ℕ → ℕ → BuildCall
storacle_build_call_says word T m = build_returns m (storacle_build_says word T)
