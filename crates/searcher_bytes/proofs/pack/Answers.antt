-- `searcher_bytes::pack` meets its contract: three parts, one behind the other, and each is copied.
use mathlib.Core.Path.{◌≡◌, sym, ap, ◌∙◌}
use mathlib.Core.List.{◌∷◌}
use native.Mathlib.Omega.{arith}
use lib.ListN.{length}
use lib.Seq.{length-take-le}
use borrow.Author.Rules.{rules}
use Rattle.searcher_bytes.proofs.Packing.{searcher_bytes_lem, low-digits, packed-parts}
use Rattle.searcher_bytes.proofs.pack.Goals as goal

pub slice_bounds-copy-end-2 : goal.slice_bounds-copy-end-2
slice_bounds-copy-end-2 c = omega (arith, searcher_bytes_lem, c.requires.out_len)

pub slice_bounds-copy-end-3 : goal.slice_bounds-copy-end-3
slice_bounds-copy-end-3 c =
    sym (length-take-le 64 c.args.out.now (omega (arith, searcher_bytes_lem, c.requires.out_len)))

pub copy-requires : goal.copy-requires
copy-requires c =
    let row : length c.args.s.now.word ≡ 64 = search rules in
    length-take-le 64 c.args.out.now (omega (arith, searcher_bytes_lem, c.requires.out_len)) ∙ sym row

pub slice_bounds-narrow-end-2 : goal.slice_bounds-narrow-end-2
slice_bounds-narrow-end-2 c =
    omega (arith, searcher_bytes_lem, c.requires.out_len, c.copy.auto.to)

pub slice_bounds-copy-end-5 : goal.slice_bounds-copy-end-5
slice_bounds-copy-end-5 c =
    omega (arith, searcher_bytes_lem, c.requires.out_len, c.copy.auto.to, c.narrow.auto.to)

pub returns : goal.returns
returns c =
    let s = c.args.s.now in
    let own : length s.word ≡ 64 = search rules in
    let its : length s.borders ≡ 64 = search rules in
    packed-parts s own its c.args.out.now c.requires.out_len c.copy.ensures c.narrow.ensures
    (c.copy-2.ensures ∙ ap (λ l. s.size ∷ s.keep ∷ l) (low-digits s.taken c.to_le_bytes.ensures))
