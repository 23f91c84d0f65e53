-- `checked_files::save_checked` meets its contract: what saving without a check says of the lent part is told in full by `Sealing`.
use mathlib.Core.Path.{sym}
use native.Mathlib.Omega.{arith}
use lib.Seq.{length-take-le}
use Rattle.std.proofs.lemmas.Result.{err_from_is_err_and}
use Rattle.checked_files.proofs.Sealing.{says-refused, says-written, seal_fits, seals}
use borrow.Author.Rules.{rules}
use Rattle.checked_files.proofs.save_checked.Goals as goal

pub slice_bounds-save-end-2 : goal.slice_bounds-save-end-2
slice_bounds-save-end-2 c = sym (length-take-le _ _ (omega (arith, c.saturating_sub-room.ensures)))

pub returns-in_err-size : goal.returns-in_err-size
returns-in_err-size c =
    let p = err_from_is_err_and c.from_residual.result c.from_residual.ensures.1 in
    rw (p.1, p.2) (says-refused _ _ _ _ c.saturating_sub-room.ensures _ c.in_err-size.ensures)

pub seal-requires : goal.seal-requires
seal-requires c =
    let short = c.saturating_sub-room.ensures in
    seal_fits _ _ _ _ short (says-written _ _ _ _ short c.in_ok-size.ensures)

pub overflow_add-result : goal.overflow_add-result
overflow_add-result c =
    let written = says-written _ _ _ _ c.saturating_sub-room.ensures c.in_ok-size.ensures in
    let inside = written.fits in
    search rules

pub returns : goal.returns
returns c =
    let short = c.saturating_sub-room.ensures in
    seals _ _ _ _ short (says-written _ _ _ _ short c.in_ok-size.ensures) c.seal.ensures
