-- Each way out is a law of `Headers`: the tests on the way there are its premises.
use mathlib.Core.Path.{sym, ◌∙◌}
use Prim.Native.Nat.{◌-◌}
use native.Mathlib.Omega.{arith}
use Rattle.rides.proofs.Headers.{allowed-size, too_early, other_size, behind_the_end, listed-cut, listed-whole, data_size-fits}
use Rattle.rides.proofs.read_header.Goals as goal

pub returns-then-q-earliest : goal.returns-then-q-earliest
returns-then-q-earliest c = sym (too_early _ _ (omega (arith, c.if-q-earliest.true)))

pub returns-then-not-is_header_size : goal.returns-then-not-is_header_size
returns-then-not-is_header_size c =
    let late = c.if-q-earliest.false in
    sym (other_size _ _ late (sym c.is_header_size.ensures ∙ c.if-not-is_header_size.true))

pub overflow_cast-behind : goal.overflow_cast-behind
overflow_cast-behind c =
    let size = sym c.is_header_size.ensures ∙ c.if-not-is_header_size.false in
    omega (arith, allowed-size _ size)

pub overflow_add-behind : goal.overflow_add-behind
overflow_add-behind c =
    let size = sym c.is_header_size.ensures ∙ c.if-not-is_header_size.false in
    omega (arith, allowed-size _ size)

pub returns-then-text-least : goal.returns-then-text-least
returns-then-text-least c =
    let late = c.if-q-earliest.false in
    let size = sym c.is_header_size.ensures ∙ c.if-not-is_header_size.false in
    sym (behind_the_end _ _ late size (omega (arith, c.if-text-least.true)))

pub data_size-requires : goal.data_size-requires
data_size-requires c =
    let size = sym c.is_header_size.ensures ∙ c.if-not-is_header_size.false in
    omega (arith, allowed-size _ size, c.if-text-least.false)

pub overflow_add-end : goal.overflow_add-end
overflow_add-end c =
    let known = c.type_inv.text in
    let fits = data_size-fits c.args.text.now (c.args.q.0 - 8) (λ i. omega (arith, known i)) in
    let size = sym c.is_header_size.ensures ∙ c.if-not-is_header_size.false in
    omega (arith, c.if-text-least.false, allowed-size _ size, c.data_size.ensures, fits)

pub overflow_add-end-2 : goal.overflow_add-end-2
overflow_add-end-2 c =
    let known = c.type_inv.text in
    let fits = data_size-fits c.args.text.now (c.args.q.0 - 8) (λ i. omega (arith, known i)) in
    let size = sym c.is_header_size.ensures ∙ c.if-not-is_header_size.false in
    omega (arith, c.if-text-least.false, allowed-size _ size, c.data_size.ensures, fits)

pub returns-then-text-end : goal.returns-then-text-end
returns-then-text-end c =
    let late = c.if-q-earliest.false in
    let size = sym c.is_header_size.ensures ∙ c.if-not-is_header_size.false in
    sym (listed-cut _ _ late size c.if-text-least.false (omega (arith, c.data_size.ensures, c.if-text-end.true)))

pub returns : goal.returns
returns c =
    let late = c.if-q-earliest.false in
    let size = sym c.is_header_size.ensures ∙ c.if-not-is_header_size.false in
    sym (listed-whole _ _ late size c.if-text-least.false (omega (arith, c.data_size.ensures, c.if-text-end.false)))
