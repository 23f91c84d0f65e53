-- 4 first, then what loading said decides: a refusal is handed on, and after a success the word and its table stand in the rooms
-- (`told-stands`), which are lent to the scan.
use mathlib.Core.Path.{sym}
use native.Mathlib.Omega.{arith}
use lib.Seq.{length-take-le}
use Rattle.std.proofs.lemmas.Result.{err_from_is_err_and}
use Rattle.words.proofs.Limits.{text_limit, words_fit}
use Rattle.mark_files.proofs.LoadSays.{told-stands}
use Rattle.mark_files.proofs.SearchFileSays.{says-long_text, says-refused, lent-sized, scan_counts}
use Rattle.mark_files.proofs.search_file.Goals as goal

pub returns-then-text-gt-TEXT_LIMIT : goal.returns-then-text-gt-TEXT_LIMIT
returns-then-text-gt-TEXT_LIMIT c = sym (says-long_text _ _ _ _ _ (omega (arith, text_limit, c.if-text-gt-TEXT_LIMIT.true)))

pub returns-in_err-m : goal.returns-in_err-m
returns-in_err-m c =
    let p = err_from_is_err_and c.from_residual.result c.from_residual.ensures.1 in
    rw (p.1, p.2) (says-refused _ _ _ _ _ (omega (arith, text_limit, c.if-text-gt-TEXT_LIMIT.false)) _ c.in_err-m.ensures)

pub overflow_add-need : goal.overflow_add-need
overflow_add-need c =
    let stands = told-stands _ _ _ c.in_ok-m.ensures in
    record { fits = omega (arith, stands.most, words_fit) }

pub overflow_mul-need : goal.overflow_mul-need
overflow_mul-need c =
    let stands = told-stands _ _ _ c.in_ok-m.ensures in
    record { fits = omega (arith, stands.most, words_fit) }

pub slice_bounds-scan_loaded-end : goal.slice_bounds-scan_loaded-end
slice_bounds-scan_loaded-end c = (told-stands _ _ _ c.in_ok-m.ensures).inside

pub slice_bounds-scan_loaded-end-2 : goal.slice_bounds-scan_loaded-end-2
slice_bounds-scan_loaded-end-2 c = sym (length-take-le _ _ (told-stands _ _ _ c.in_ok-m.ensures).inside)

pub slice_bounds-scan_loaded-end-3 : goal.slice_bounds-scan_loaded-end-3
slice_bounds-scan_loaded-end-3 c = (told-stands _ _ _ c.in_ok-m.ensures).enough

pub slice_bounds-scan_loaded-end-4 : goal.slice_bounds-scan_loaded-end-4
slice_bounds-scan_loaded-end-4 c = sym (length-take-le _ _ (told-stands _ _ _ c.in_ok-m.ensures).enough)

pub scan_loaded-requires : goal.scan_loaded-requires
scan_loaded-requires c =
    let text = c.args.text.now in
    let stands = told-stands _ _ _ c.in_ok-m.ensures in
    let asked = lent-sized text stands (omega (arith, text_limit, c.if-text-gt-TEXT_LIMIT.false)) in
    record { in_bounds = asked.0; formed = asked.1 }

pub returns : goal.returns
returns c =
    let short = c.if-text-gt-TEXT_LIMIT.false in
    let scanned = c.scan_loaded.ensures in
    scan_counts _ _ _ _ _ (omega (arith, text_limit, short)) c.in_ok-m.ensures scanned.0 scanned.1 scanned.2
