-- `compact_fill::Filling::start_state` meets its contract: before word i the targets of the words before it are counted.
use mathlib.Core.Path.{ap, ◌∙◌}
use mathlib.Core.List.{List}
use Prim.Native.Nat.{ℕ, ◌+◌, ◌*◌}
use native.Mathlib.Omega.{arith}
use borrow.Author.Rules.{rules}
use lib.Count.{ones, ones-le}
use Rattle.words.specs.Lists.{at}
use Rattle.compact.specs.Compact.{set_word}
use Rattle.compact.proofs.ReadBack.{word_small}
use Rattle.compact_fill.specs.Held.{word_of, arrows_of}
use Rattle.compact_fill.proofs.Starts.{starts-few, one-counted}
use Rattle.compact_fill.proofs.Held.{first_written}
use Rattle.compact_fill.proofs.Filling.start_state.Goals as goal

pub overflow_cast-self : goal.overflow_cast-self
overflow_cast-self c =
    let F = c.args.self.now.first_form in
    let C = c.loop-i.invariant.1 in
    let number = 64 * (4 * c.args.x.0 + c.loop-i.i) in
    let few = starts-few (word_of c.args.self.now) number F.long (omega (arith, C.inside, c.requires.0)) in
    omega (arith, C.counted, few, F.few)

pub invariant_of-self : goal.invariant_of-self
invariant_of-self c = record {
  first_form = first_written c.loop-i.self.first_form c.loop-i.so_far (omega arith);
  words = c.loop-i.self.words;
}

pub overflow_add-so_far : goal.overflow_add-so_far
overflow_add-so_far c =
    let F = c.args.self.now.first_form in
    let C = c.loop-i.invariant.1 in
    let own = 4 * c.args.x.0 + c.loop-i.i in
    let few = starts-few (word_of c.args.self.now) (64 * own) F.long (omega (arith, C.inside, c.requires.0)) in
    let word = ap (λ (Z : List ℕ). at Z own) c.loop-i.invariant.0.kept ∙ c.requires.1 c.loop-i.i c.loop-i-test.true in
    let most = ones-le 64 (set_word (arrows_of c.args.self.now) own) (word_small (arrows_of c.args.self.now) own) in
    omega (arith, C.counted, few, F.few, c.ones_of-so_far.ensures ∙ ap ones word, most)

pub loop-i-preserved : goal.loop-i-preserved
loop-i-preserved c =
    let F = c.args.self.now.first_form in
    let s = c.loop-i.invariant.0 in
    let own = 4 * c.args.x.0 + c.loop-i.i in
    let word = ap (λ (Z : List ℕ). at Z own) s.kept ∙ c.requires.1 c.loop-i.i c.loop-i-test.true in
    let counted = c.ones_of-so_far.ensures ∙ ap ones word in (
      search rules,
      rw s.rows.letters (one-counted c.loop-i.invariant.1 c.loop-i-test.true (omega (arith, F.size, c.requires.0)) counted),
    )
