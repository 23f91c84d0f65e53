-- THE THEOREMS on `take_says`: each refusal exactly where it is tabled, what a refusal leaves, and that the promise allows one outcome.
use mathlib.Core.Path.{◌≡◌, refl, sym, ap, ◌∙◌}
use mathlib.Core.Bool.{true, false}
use mathlib.Core.Logic.{◌↔◌}
use mathlib.Core.List.{List, [], ◌∷◌, map}
use Prim.Native.Nat.{ℕ, ◌+◌, ◌-◌, ◌≤◌, ◌<◌}
use native.Mathlib.Decide.{dec_lt}
use native.Mathlib.Omega.{arith}
use lib.ListN.{length, length-map}
use borrow.Author.Tests.{lt-ltb, le-ltb}
use Rattle.words.specs.Limits.{longest_text}
use Rattle.words.specs.Words.{Word, Place, occurrences}
use Rattle.words.proofs.Lists.{true_not_false, test_cases}
use Rattle.finds.specs.Finds.{filled}
use Rattle.pieces.specs.Kept.{kept}
use Rattle.number.specs.Number.{Bytes}
use Rattle.answers.specs.Answers.{done, refused, long_text, unmade, refuses_only, one_of}
use Rattle.answers.proofs.Answers.{done_not_refused, answer_of-one}
use Rattle.stream.specs.declared.Searcher.{Searcher}
use Rattle.stream.specs.declared.Taken.{Taken}
use Rattle.stream.specs.Searchers.{word_of, heard_by, after, finds, Made, makeable}
use Rattle.stream.specs.Taking.{Outcome, outcome, took, take_says}
use Rattle.stream.specs.Cases.{TakeCase}
use Rattle.stream.proofs.Sound.{Sound, makeable_sound, sound_makeable, unsound}
use Rattle.stream.proofs.Reached.{made-took, took-made, took_sound, sound_took}

-- the test is true of exactly those that can be made; that its word is of bytes is told by its type
pub makeable-exactly : (s : Searcher) → Bytes s.word → (makeable s ≡ true) ↔ Made s
makeable-exactly s bytes =
    (λ e. took-made (sound_took s bytes (makeable_sound s e)), λ made. sound_makeable s (took_sound (made-took made)))

module _ (s : Searcher) (v : Word) (F : List Place) where
  -- what taking a piece says that is not refused
  abbrev pub counted : Outcome
  counted = outcome (done (length (finds s v))) (after s v) (filled (finds s v) F)

  -- ── Its cases, in the order of the tests ─────────────────────────────────

  pub says-unmade : makeable s ≡ false → take_says s v F ≡ outcome (refused unmade) s F
  unfolding take_says
  says-unmade e = rw e

  pub says-long_text : Sound s → longest_text < s.taken + length v → take_says s v F ≡ outcome (refused long_text) s F
  unfolding take_says
  says-long_text S l = rw (sound_makeable s S, lt-ltb _ _ l)

  pub says-taken : Sound s → s.taken + length v ≤ longest_text → take_says s v F ≡ counted
  unfolding take_says
  says-taken S l = rw (sound_makeable s S, le-ltb _ _ l)

  -- what the run over the piece comes to
  pub says_run : Sound s → s.taken + length v ≤ longest_text → {keep count : ℕ} {G : List Place}
      → (keep ≡ kept (word_of s) (heard_by s v)) × (count ≡ length (occurrences (word_of s) (heard_by s v)))
      × (G ≡ filled (map (λ q. s.taken - s.keep + q) (occurrences (word_of s) (heard_by s v))) F)
      → outcome (done count) (record { word = s.word; borders = s.borders; size = s.size; keep = keep; taken = s.taken + length v }) G
      ≡ take_says s v F
  unfolding after finds
  says_run S l r =
      rw (r.0, r.1, r.2, ← length-map (occurrences (word_of s) (heard_by s v)) (λ q. s.taken - s.keep + q))
      (sym (says-taken S l))

  -- ── When each is given ───────────────────────────────────────────────────

  -- a refusal changes nothing, and is 16 or 4
  record Refusing (o : Outcome) : Type 0 where
    left : {n : ℕ} → o.answer ≡ refused n → (o.next ≡ s) × (o.list ≡ F)
    numbers : refuses_only (16 ∷ 4 ∷ []) o.answer ≡ true

  refusing : Refusing (take_says s v F)
  unfolding one_of
  refusing = test_cases (makeable s)
      (λ e. by e (dec_lt longest_text (s.taken + length v)))
      (λ e. rw (says-unmade e) (record { left = λ q. (refl, refl); numbers = refl }))
    where
      by : makeable s ≡ true → Dec (longest_text < s.taken + length v) → Refusing (take_says s v F)
      by e (yes l) = rw (says-long_text (makeable_sound s e) l) (record { left = λ q. (refl, refl); numbers = refl })
      by e (no l) = rw (says-taken (makeable_sound s e) (omega arith)) (record { left = λ q. done_not_refused q; numbers = refl })

  pub refusal_leaves : {n : ℕ} → (take_says s v F).answer ≡ refused n → ((take_says s v F).next ≡ s) × ((take_says s v F).list ≡ F)
  refusal_leaves e = refusing.left e

  pub take-numbers : refuses_only (16 ∷ 4 ∷ []) (take_says s v F).answer ≡ true
  take-numbers = refusing.numbers

  module _ (bytes : Bytes s.word) where
    -- every input is of one case
    case : TakeCase s v F (take_says s v F)
    case = test_cases (makeable s)
        (λ e. by e (dec_lt longest_text (s.taken + length v)))
        (λ e. rw (says-unmade e) (TakeCase.not_made (never e)))
      where
        never : makeable s ≡ false → Made s → ⊥
        never e made = true_not_false (sym ((makeable-exactly s bytes).1 made) ∙ e)

        by : makeable s ≡ true → Dec (longest_text < s.taken + length v) → TakeCase s v F (take_says s v F)
        by e (yes l) = rw (says-long_text (makeable_sound s e) l) (TakeCase.on_long_text ((makeable-exactly s bytes).0 e) l)
        by e (no l) =
            rw (says-taken (makeable_sound s e) (omega arith)) (TakeCase.accepted ((makeable-exactly s bytes).0 e) (omega arith))

    -- and a case that applies has its outcome
    given : {o : Outcome} → TakeCase s v F o → take_says s v F ≡ o
    given (TakeCase.not_made f) = says-unmade (unsound s (λ S. f (took-made (sound_took s bytes S))))
    given (TakeCase.on_long_text made l) = says-long_text (took_sound (made-took made)) l
    given (TakeCase.accepted made l) = says-taken (took_sound (made-took made)) l

    pub take_is : (o : Outcome) → (take_says s v F ≡ o) ↔ TakeCase s v F o
    take_is o = (λ e. rw e at case, given)

-- ── One outcome ────────────────────────────────────────────────────────────

-- two outcomes that the promise of take allows are equal
pub take-one : (s : Searcher) (v : Word) (F : List Place) (q r : Taken) (G H : List Place) → took q G ≡ take_says s v F
    → took r H ≡ take_says s v F → (q ≡ r) × (G ≡ H)
take-one s v F q r G H e f =
    let g : took q G ≡ took r H = e ∙ sym f in
    let a = answer_of-one q.answer r.answer (ap (λ o. o.answer) g) in
    let b = ap (λ (o : Outcome). o.next) g in
    (λ i. record { answer = a i; next = b i }, ap (λ (o : Outcome). o.list) g)
