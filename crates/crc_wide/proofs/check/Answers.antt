-- `crc_wide::check` meets its contract: a short string is left to the half bytes; else the sixes, then the bytes behind them.
use mathlib.Core.Path.{ap, ap₂, ◌∙◌}
use Prim.Native.Nat.{◌*◌, ◌/◌}
use lib.ListN.{length}
use Rattle.std.specs.List.{concat}
use Rattle.crc.specs.Check.{fed, bits_of, check}
use Rattle.crc_wide.proofs.Ahead.{concat-sixes, in_parts}
use Rattle.crc_wide.proofs.check.Goals as goal

pub returns : goal.returns
returns c =
    let l = c.args.bytes.now in
    let sixes = length l / 6 in
    let front = c.by_sixes.ensures ∙ ap check (ap concat c.as_chunks.ensures.front ∙ concat-sixes sixes l) in
    c.settled.ensures
    ∙ c.by_bytes.ensures
    ∙ ap₂ (λ r t. fed r (bits_of t)) front c.as_chunks.ensures.back
    ∙ in_parts l (sixes * 6)
