-- SAVING WITH A CHECK, from saving without: the output short of two bytes is lent, so that 12 is given exactly where two bytes more would
-- not fit; a refusal leaves it as it was; and the file of edition 1, sealed, is that of edition 2.
use mathlib.Core.Path.{◌≡◌, refl, sym, ap, ◌∙◌}
use mathlib.Core.List.{List, ◌++◌, append_assoc}
use Prim.Native.Nat.{ℕ, ◌+◌, ◌-◌, ◌≤◌}
use native.Mathlib.Omega.{arith}
use lib.ListN.{length, take, drop, set, length-append, length-drop, take-append-drop}
use lib.Seq.{take_at, drop_at, drop-drop, drop-append-le, length-take-le}
use Rattle.words.specs.Words.{Word}
use Rattle.words.specs.Limits.{least_saved, longest_word}
use Rattle.table.specs.Table.{room, table_of}
use Rattle.saved.specs.File.{spell}
use Rattle.crc.specs.Check.{sealed}
use Rattle.editions.specs.Editions.{plain, checked, spell_in}
use Rattle.editions.proofs.Files.{unsealed, unsealed_is, spell_is}
use Rattle.editions.proofs.Theorems.{checked-length}
use Rattle.std.specs.Prelude.{Ok, Err}
use Rattle.answers.specs.declared.Refusal.{Refusal}
use Rattle.answers.specs.declared.Refusal.TheVariants.{EmptyWord, LongWord, ShortRoom, LongText, ShortOutput, Unmade, ShortWord, InFile}
use Rattle.answers.specs.Answers.{done, refused_as}
use Rattle.answers.proofs.Answers.{done_not_refused, done_not_placed}
use Rattle.mark_files.specs.Save.{Outcome, outcome, saved_as, save_in}
use Rattle.mark_files.specs.Cases.{SaveCase}
use Rattle.mark_files.proofs.SaveSays.{says-empty, says-long, says-one_letter, says-short, says_full, says-done, save_is}

-- so many entries of the output are lent
module _ (word : Word) (T O : List ℕ) (lent : ℕ) (short : lent ≡ length O - 2) where
  abbrev part-lent : List ℕ
  part-lent = take lent O

  lent_length : length part-lent ≡ lent
  lent_length = length-take-le lent O (omega arith)

  rejoined : part-lent ++ drop lent O ≡ O
  rejoined = take-append-drop lent O

  -- an outcome in the lent part, with what stands behind it
  abbrev put : Outcome → Outcome
  put o = outcome o.answer o.tables (o.output ++ drop lent O)

  -- ── Refusals ─────────────────────────────────────────────────────────────

  refused_too : {o : Outcome} → SaveCase plain word T part-lent o → ((n : ℕ) → o.answer ≡ done n → ⊥) → put o ≡ save_in checked word T O
  refused_too (SaveCase.on_empty_word h) d = rw rejoined (sym (says-empty checked word T O h))
  refused_too (SaveCase.on_long_word h l) d = rw rejoined (sym (says-long checked word T O h l))
  refused_too (SaveCase.on_short_word h l b) d = rw rejoined (sym (says-one_letter checked word T O h l b))
  refused_too (SaveCase.on_short_room h l s) d = rw rejoined (sym (says-short checked word T O h l s))
  refused_too (SaveCase.on_short_output h l s o) d =
      rw rejoined (sym (says_full checked word T O h l s (omega (arith, o, lent_length, checked-length word))))
  refused_too (SaveCase.accepted h l s o) d = absurd (d _ refl)

  pub says-refused : (r : Refusal) {T' P' : List ℕ} → saved_as (Err r) T' P' ≡ save_in plain word T part-lent
      → outcome (refused_as r) T' (P' ++ drop lent O) ≡ save_in checked word T O
  says-refused r told =
      ap put told ∙ refused_too ((save_is plain word T part-lent _).0 refl) (λ n a. not_done r (ap (λ o. o.answer) told ∙ a))
    where
      not_done : (r : Refusal) {n : ℕ} → refused_as r ≡ done n → ⊥
      not_done EmptyWord q = done_not_refused (sym q)
      not_done LongWord q = done_not_refused (sym q)
      not_done ShortRoom q = done_not_refused (sym q)
      not_done LongText q = done_not_refused (sym q)
      not_done ShortOutput q = done_not_refused (sym q)
      not_done Unmade q = done_not_refused (sym q)
      not_done ShortWord q = done_not_refused (sym q)
      not_done (InFile f) q = done_not_placed (sym q)

  some : 1 ≤ length (spell word)
  some = omega (arith, ap {B = ℕ} length (spell_is word))

  -- ── Success ──────────────────────────────────────────────────────────────

  -- what saving leaves in the lent part, and so in the output
  pub record Written (n : ℕ) (T' P' : List ℕ) : Type 0 where
    pub least : least_saved ≤ length word
    pub most : length word ≤ longest_word
    pub enough : room (length word) ≤ length T
    pub size : n ≡ length (spell word)
    pub fits : n + 2 ≤ length O
    pub tables : T' ≡ table_of word ++ drop (room (length word)) T
    pub output : P' ++ drop lent O ≡ spell word ++ drop n O

  pub says-written : {n : ℕ} {T' P' : List ℕ} → saved_as (Ok n) T' P' ≡ save_in plain word T part-lent → Written n T' P'
  says-written {n} {T'} {P'} told = by ((save_is plain word T part-lent _).0 (sym told)) refl
    where
      by : {o : Outcome} → SaveCase plain word T part-lent o → o ≡ outcome (done n) T' P' → Written n T' P'
      by (SaveCase.on_empty_word h) q = done_not_refused (sym (ap (λ o. o.answer) q))
      by (SaveCase.on_long_word h l) q = done_not_refused (sym (ap (λ o. o.answer) q))
      by (SaveCase.on_short_word h l b) q = done_not_refused (sym (ap (λ o. o.answer) q))
      by (SaveCase.on_short_room h l s) q = done_not_refused (sym (ap (λ o. o.answer) q))
      by (SaveCase.on_short_output h l s o) q = done_not_refused (sym (ap (λ o. o.answer) q))
      by (SaveCase.accepted h l s o) q =
          let told : done (length (spell word)) ≡ done n = ap (λ o. o.answer) q in
          let size : n ≡ length (spell word) = cc in
          let left : P' ≡ spell word ++ drop n part-lent =
          sym (ap (λ o. o.output) q) ∙ ap (λ k. spell word ++ drop k part-lent) (sym size) in
          let rest : drop n part-lent ++ drop lent O ≡ drop n O =
          sym (drop-append-le n part-lent (drop lent O) (omega (arith, o, lent_length, size))) ∙ ap (drop n) rejoined in
          record {
            least = h;
            most = l;
            enough = s;
            size = size;
            fits = omega (arith, o, some, lent_length, size);
            tables = sym (ap (λ o. o.tables) q);
            output = ap (λ l. l ++ drop lent O) left
                ∙ append_assoc (spell word) (drop n part-lent) (drop lent O)
                ∙ ap (λ l. spell word ++ l) rest;
          }

  -- it can be sealed
  pub seal_fits : {n : ℕ} {T' P' : List ℕ} → Written n T' P' → (1 ≤ n) × (n + 2 ≤ length (P' ++ drop lent O))
  seal_fits {n} W =
      let sum = ap {B = ℕ} length W.output ∙ length-append (spell word) (drop n O) in
      (omega (arith, some, W.size), omega (arith, sum, W.size, W.fits, length-drop n O))

  pub seals : {n : ℕ} {T' P' Q : List ℕ} → Written n T' P'
      → Q ≡ sealed (set (take n (P' ++ drop lent O)) 0 2) ++ drop (n + 2) (P' ++ drop lent O)
      → outcome (done (n + 2)) T' Q ≡ save_in checked word T O
  seals {n} W q =
      let f = spell word in
      let front : set (take n (f ++ drop n O)) 0 2 ≡ unsealed word =
      ap (λ l. set l 0 2) (take_at f (drop n O) n (sym W.size) ∙ spell_is word) ∙ sym (unsealed_is word) in
      let back : drop (n + 2) (f ++ drop n O) ≡ drop (n + 2) O =
      sym (drop-drop 2 n (f ++ drop n O)) ∙ ap (drop 2) (drop_at f (drop n O) n (sym W.size)) ∙ drop-drop 2 n O in
      let size : n + 2 ≡ length (spell_in checked word) = omega (arith, W.size, checked-length word) in
      rw (q, W.output, front, back, W.tables, size)
      (sym (says-done checked word T O W.least W.most W.enough (omega (arith, W.fits, size))))
