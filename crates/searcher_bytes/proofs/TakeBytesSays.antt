-- THE THEOREMS on `take_bytes_says`: each refusal exactly where it is tabled, 16 exactly for bytes that no opening and taking could have
-- left, what a refusal leaves, and that the promise allows one outcome. Packing and unpacking undo each other, so the cases of the bytes
-- are those of the searcher that has them.
use mathlib.Core.Path.{◌≡◌, refl, sym, ap, ◌∙◌}
use mathlib.Core.Bool.{true, false}
use mathlib.Core.Logic.{◌↔◌}
use mathlib.Core.List.{List, [], ◌∷◌, ◌++◌}
use Prim.Native.Nat.{ℕ, ◌+◌, ◌≤◌, ◌<◌}
use native.Mathlib.Decide.{dec_lt}
use native.Mathlib.Omega.{arith}
use lib.ListN.{length, take, drop, length-take}
use lib.Seq.{length-take-le}
use borrow.Author.Tests.{lt-ltb, le-ltb}
use Rattle.std.specs.Prelude.{Result}
use Rattle.words.specs.Limits.{longest_text}
use Rattle.words.specs.Words.{Word, Place}
use Rattle.words.proofs.Lists.{true_not_false, test_cases}
use Rattle.number.specs.Number.{Bytes}
use Rattle.answers.specs.declared.Refusal.{Refusal}
use Rattle.answers.specs.Answers.{refused, size_answer, unmade, refuses_only, one_of}
use Rattle.answers.proofs.Answers.{done_not_refused, answer_of-one}
use Rattle.stream.specs.declared.Searcher.{Searcher}
use Rattle.stream.specs.declared.Taken.{Taken}
use Rattle.stream.specs.Searchers.{after, Made, makeable}
use Rattle.stream.specs.Taking
use Rattle.stream.specs.Taking.{take_says}
use Rattle.stream.specs.Cases as Stream
use Rattle.stream.proofs.Sound.{Sound, makeable_sound, sound_after}
use Rattle.stream.proofs.Reached.{bytes_take, made-took, took_sound}
use Rattle.stream.proofs.TakeSays.{says-unmade, says-long_text, says-taken, take_is}
use Rattle.searcher_bytes.specs.Packing.{searcher_bytes, packed, unpacked}
use Rattle.searcher_bytes.specs.TakeBytes.{Outcome, outcome, took, is_done, leaves, take_bytes_says}
use Rattle.searcher_bytes.specs.Cases.{LeftIn, TakeCase}
use Rattle.searcher_bytes.proofs.Packing.{searcher_bytes_lem, unpacked_back, unpacked-bytes}
use Rattle.searcher_bytes.proofs.Packable.{sound_length, sound_back}

module _ (B : List ℕ) (v : Word) (F : List Place) where
  abbrev s : Searcher
  s = unpacked (take searcher_bytes B)

  -- ── Its cases, in the order of the tests ─────────────────────────────────

  pub says-few : length B < searcher_bytes → take_bytes_says B v F ≡ outcome (refused unmade) B F
  unfolding take_bytes_says
  says-few h = rw (lt-ltb _ _ h)

  module _ (enough : searcher_bytes ≤ length B) where
    says-taking : take_bytes_says B v F ≡ leaves B (take_says s v F)
    unfolding take_bytes_says
    says-taking = rw (le-ltb _ _ enough)

    -- what code's own taking comes to, with the searcher that it unpacks
    module _ {r : Searcher} (its : r ≡ unpacked (take 134 B)) (t : Taken) {G : List Place}
        (took-says : Taking.took t G ≡ take_says r v F) where
      same-says : Taking.took t G ≡ take_says s v F
      same-says = took-says ∙ ap (λ (x : Searcher). take_says x v F) (its ∙ ap (λ (n : ℕ). unpacked (take n B)) (sym searcher_bytes_lem))

      pub says-refused : is_done (size_answer t.answer) ≡ false → outcome (size_answer t.answer) B G ≡ take_bytes_says B v F
      says-refused e = rw (says-taking, ← same-says, e)

      pub says-packed : is_done (size_answer t.answer) ≡ true → {P : List ℕ} → P ≡ packed t.next
          → outcome (size_answer t.answer) (P ++ drop 134 B) G ≡ take_bytes_says B v F
      says-packed e p = rw (p, says-taking, ← same-says, e, searcher_bytes_lem)

  -- ── When each is given ───────────────────────────────────────────────────

  -- a refusal changes nothing, and is 16 or 4
  record Refusing (o : Outcome) : Type 0 where
    left : {n : ℕ} → o.answer ≡ refused n → (o.bytes ≡ B) × (o.list ≡ F)
    numbers : refuses_only (16 ∷ 4 ∷ []) o.answer ≡ true

  refusing : Refusing (take_bytes_says B v F)
  unfolding one_of
  refusing = by (dec_lt (length B) searcher_bytes)
    where
      long : searcher_bytes ≤ length B → makeable s ≡ true → Dec (longest_text < s.taken + length v) → Refusing (take_bytes_says B v F)
      long h e (yes l) =
          rw (says-taking h, says-long_text s v F (makeable_sound s e) l) (record { left = λ q. (refl, refl); numbers = refl })
      long h e (no l) =
          rw (says-taking h, says-taken s v F (makeable_sound s e) (omega arith))
          (record { left = λ q. done_not_refused q; numbers = refl })

      by : Dec (length B < searcher_bytes) → Refusing (take_bytes_says B v F)
      by (yes h) = rw (says-few h) (record { left = λ q. (refl, refl); numbers = refl })
      by (no h) = test_cases (makeable s)
          (λ e. long (omega arith) e (dec_lt longest_text (s.taken + length v)))
          (λ e. rw (says-taking (omega arith), says-unmade s v F e) (record { left = λ q. (refl, refl); numbers = refl }))

  pub refusal_leaves : {n : ℕ} → (take_bytes_says B v F).answer ≡ refused n
      → ((take_bytes_says B v F).bytes ≡ B) × ((take_bytes_says B v F).list ≡ F)
  refusal_leaves e = refusing.left e

  pub take-numbers : refuses_only (16 ∷ 4 ∷ []) (take_bytes_says B v F).answer ≡ true
  take-numbers = refusing.numbers

  -- ── Bytes that were left ─────────────────────────────────────────────────

  -- there are enough of them
  left-enough : {r : Searcher} → LeftIn B r → searcher_bytes ≤ length B
  left-enough {r} L =
      let size = ap length L.first ∙ sound_length (took_sound (made-took L.made)) in
      omega (arith, size, length-take searcher_bytes B)

  -- and they are those of one searcher
  left_is : {r : Searcher} → LeftIn B r → s ≡ r
  left_is {r} L = ap unpacked L.first ∙ sound_back (took_sound (made-took L.made))

  module _ (bytes : Bytes B) where
    module _ (enough : searcher_bytes ≤ length B) where
      its_bytes : Bytes s.word
      its_bytes = unpacked-bytes (take searcher_bytes B) (bytes_take searcher_bytes B bytes)

      made-left : Made s → LeftIn B s
      made-left made = record {
        made = made;
        first = sym (unpacked_back (take searcher_bytes B) (bytes_take searcher_bytes B bytes) (length-take-le searcher_bytes B enough));
      }

      -- the cases of taking with the searcher are the cases of the bytes
      by_searcher : {o : Taking.Outcome} → Stream.TakeCase s v F o → TakeCase B v F (leaves B o)
      by_searcher (Stream.TakeCase.not_made f) = TakeCase.not_left (λ r L. f (rw (left_is L) L.made))
      by_searcher (Stream.TakeCase.on_long_text made l) = TakeCase.on_long_text (made-left made) l
      by_searcher (Stream.TakeCase.accepted made l) = TakeCase.accepted (made-left made) l

    -- every input is of one case
    case : TakeCase B v F (take_bytes_says B v F)
    case = by (dec_lt (length B) searcher_bytes)
      where
        by : Dec (length B < searcher_bytes) → TakeCase B v F (take_bytes_says B v F)
        by (yes h) = rw (says-few h) (TakeCase.not_left (λ r L. omega (arith, left-enough L)))
        by (no h) =
            let enough : searcher_bytes ≤ length B = omega arith in
            rw (says-taking enough) (by_searcher enough ((take_is s v F (its_bytes enough) _).0 refl))

    -- and a case that applies has its outcome
    given : {o : Outcome} → TakeCase B v F o → take_bytes_says B v F ≡ o
    given (TakeCase.not_left f) = by (dec_lt (length B) searcher_bytes)
      where
        by : Dec (length B < searcher_bytes) → take_bytes_says B v F ≡ outcome (refused unmade) B F
        by (yes h) = says-few h
        by (no h) =
            let enough : searcher_bytes ≤ length B = omega arith in
            let unmade-says = (take_is s v F (its_bytes enough) _).1 (Stream.TakeCase.not_made (λ made. f s (made-left enough made))) in
            says-taking enough ∙ ap (leaves B) unmade-says
    given (TakeCase.on_long_text L l) =
        let S = took_sound (made-took L.made) in
        says-taking (left-enough L)
        ∙ ap (leaves B) (ap (λ (r : Searcher). take_says r v F) (left_is L) ∙ says-long_text _ v F S l)
    given (TakeCase.accepted L l) =
        let S = took_sound (made-took L.made) in
        says-taking (left-enough L)
        ∙ ap (leaves B) (ap (λ (r : Searcher). take_says r v F) (left_is L) ∙ says-taken _ v F S l)

    pub take_bytes_is : (o : Outcome) → (take_bytes_says B v F ≡ o) ↔ TakeCase B v F o
    take_bytes_is o = (λ e. rw e at case, given)

-- ── What is packed ─────────────────────────────────────────────────────────

-- a searcher that taking hands back with an answer is sound
pub done_sound : (s : Searcher) (v : Word) (F : List Place) (t : Taken) {G : List Place} → Taking.took t G ≡ take_says s v F
    → is_done (size_answer t.answer) ≡ true → Sound t.next
done_sound s v F t says e = test_cases (makeable s)
    (λ m. by m (dec_lt longest_text (s.taken + length v)))
    (λ m. refused_never (says ∙ says-unmade s v F m))
  where
    refused_never : {X : Type 0} {n : ℕ} {r : Searcher} {G H : List Place} → Taking.took t G ≡ Taking.outcome (refused n) r H → X
    refused_never q = true_not_false (sym e ∙ ap (λ (o : Taking.Outcome). is_done o.answer) q)

    by : makeable s ≡ true → Dec (longest_text < s.taken + length v) → Sound t.next
    by m (yes l) = refused_never (says ∙ says-long_text s v F (makeable_sound s m) l)
    by m (no l) =
        let S = makeable_sound s m in
        let fits : s.taken + length v ≤ longest_text = omega arith in
        let next : t.next ≡ after s v = ap (λ (o : Taking.Outcome). o.next) (says ∙ says-taken s v F S fits) in
        rw next (sound_after S v fits)

-- ── One outcome ────────────────────────────────────────────────────────────

-- two outcomes that the promise of take allows are equal
pub take-one : (B : List ℕ) (v : Word) (F : List Place) (q r : Result ℕ Refusal) (P Q : List ℕ) (G H : List Place)
    → took q P G ≡ take_bytes_says B v F → took r Q H ≡ take_bytes_says B v F → (q ≡ r) × (P ≡ Q) × (G ≡ H)
take-one B v F q r P Q G H e f =
    let g : took q P G ≡ took r Q H = e ∙ sym f in
    (answer_of-one q r (ap (λ o. o.answer) g), ap (λ o. o.bytes) g, ap (λ o. o.list) g)
