-- UPLOADS IN PIECES, the third request of 02, sentence by sentence: each is quoted, and under it stands what says just that.
--
-- Of the code, crates/stream/src/lib.rt and crates/searcher_bytes/src/lib.rt: an entry has no `requires`, and its one `ensures` says that
-- its answer, the searcher that it hands back and every lent buffer as it is left are `open_says`, `take_says`, `open_bytes_says` or
-- `take_bytes_says` of what is handed over.
use mathlib.Core.Path.{◌≡◌, refl, sym, ap, ◌∙◌}
use mathlib.Core.Bool.{true}
use mathlib.Core.Logic.{◌↔◌}
use mathlib.Core.List.{List, [], ◌∷◌, ◌++◌}
use Prim.Native.Nat.{ℕ, ◌+◌, ◌-◌, ◌≤◌, ◌<◌}
use native.Mathlib.Omega.{arith}
use lib.ListN.{length}
use lib.Seq.{take_at}
use Rattle.words.specs.Limits.{longest_streamed, longest_text}
use Rattle.words.specs.Words.{Word, Place, part, occurrences}
use Rattle.words.proofs.Limits.{streamed_limit, text_limit}
use Rattle.words.proofs.Words.{same_true, same_refl}
use Rattle.border.specs.Borders.{closes, longest_border, borders}
use Rattle.finds.specs.Finds.{filled}
use Rattle.number.specs.Number.{Bytes}
use Rattle.std.specs.Prelude.{Result}
use Rattle.answers.specs.declared.Refusal.{Refusal}
use Rattle.answers.specs.Answers.{done, refused, refuses_only}
use Rattle.pieces.specs.Kept.{kept}
use Rattle.pieces.proofs.Kept.{kept-closes, kept-longest, kept_shorter, kept-nothing, find-keeps}
use Rattle.border.proofs.Closing.{closes_closing}
use Rattle.stream.specs.declared.Searcher.{Searcher}
use Rattle.stream.specs.declared.Opened.{Opened}
use Rattle.stream.specs.declared.Taken.{Taken}
use Rattle.stream.specs.Searchers.{row_of, searcher_of, after, finds, Made, makeable}
use Rattle.stream.specs.Opening
use Rattle.stream.specs.Opening.{blank, open_says}
use Rattle.stream.specs.Taking
use Rattle.stream.specs.Taking.{take_says}
use Rattle.stream.specs.Pieces.{joined, InTurn}
use Rattle.stream.specs.Cases as Stream
use Rattle.stream.proofs.History.{holds-word, holds-borders, holds-size, holds_kept, holds-taken}
use Rattle.stream.proofs.OpenSays as Open
use Rattle.stream.proofs.TakeSays as Take
use Rattle.stream.proofs.Sound.{finds-few}
use Rattle.stream.proofs.Reached.{made-took, took-made, took_sound}
use Rattle.stream.proofs.Theorems as Streams
use Rattle.searcher_bytes.specs.Packing.{searcher_bytes, packed, unpacked}
use Rattle.searcher_bytes.specs.OpenBytes
use Rattle.searcher_bytes.specs.OpenBytes.{open_bytes_says}
use Rattle.searcher_bytes.specs.TakeBytes
use Rattle.searcher_bytes.specs.TakeBytes.{take_bytes_says}
use Rattle.searcher_bytes.specs.Cases as InBytes
use Rattle.searcher_bytes.specs.Cases.{LeftIn}
use Rattle.searcher_bytes.proofs.Packable.{sound_length, sound_back}
use Rattle.searcher_bytes.proofs.OpenBytesSays as OpenBytesTheorems
use Rattle.searcher_bytes.proofs.TakeBytesSays as TakeBytesTheorems

-- ── 'Add a streaming search for words of 1 to 64 bytes (else 1 or 2).' ─────

pub sixty_four : longest_streamed ≡ 64
sixty_four = streamed_limit

-- the outcome of opening is o exactly when a case of the table with the outcome o applies: 1, 2, or opened
pub open_exactly : (w : Word) (o : Opening.Outcome) → (open_says w ≡ o) ↔ Stream.OpenCase w o
open_exactly w o = Open.open_is w o

pub open_numbers : (w : Word) → refuses_only (1 ∷ 2 ∷ []) (open_says w).answer ≡ true
open_numbers w = Open.open_numbers w

pub one_opening : (w : Word) (r s : Opened) → Opening.opened r ≡ open_says w → Opening.opened s ≡ open_says w → r ≡ s
one_opening = Open.open_one

-- a refused opening hands out no searcher that could be used: with it, every piece is refused with 16
pub nothing-opened : (w : Word) {n : ℕ} → (open_says w).answer ≡ refused n → (v : Word) (F : List Place)
    → take_says (open_says w).searcher v F ≡ Taking.outcome (refused 16) (open_says w).searcher F
nothing-opened w e v F = rw (Open.refusal_blank w e) (Take.says-unmade blank v F Streams.blank-unmade)

-- ── 'Opening gives a searcher that owns its word and borders;' ─────────────

module _ (w t : Word) where
  -- what the searcher of w that has taken t holds; opening gives the one that has taken nothing
  pub holds : ((searcher_of w t).word ≡ row_of w) × ((searcher_of w t).borders ≡ row_of (borders w)) × ((searcher_of w t).size ≡ length w)
      × ((searcher_of w t).keep ≡ kept w t) × ((searcher_of w t).taken ≡ length t)
  holds = (holds-word w t, holds-borders w t, holds-size w t, holds_kept w t, holds-taken w t)

  -- it keeps the longest beginning of the word, short of all of it, that the text ends with
  module _ (some-letter : 1 ≤ length w) where
    pub keeps-longest : (kept w t < length w) × (part w 0 (kept w t) ≡ part t (length t - kept w t) (kept w t))
        × ((k : ℕ) → k < length w → part w 0 k ≡ part t (length t - k) k → k ≤ kept w t)
    unfolding closes
    keeps-longest = (
      kept_shorter w t some-letter,
      same_true _ _ (kept-closes w t),
      λ k h e. kept-longest w t h (closes_closing w t k (omega arith) (rw e (same_refl (part t (length t - k) k)))),
    )

    -- after a find, the longest border
    pub keeps_border : (u : Word) → t ≡ u ++ w → kept w t ≡ longest_border w
    keeps_border u e = rw e (find-keeps w u some-letter)

pub opens_empty : (w : Word) → 1 ≤ length w → (searcher_of w []).keep ≡ 0
opens_empty w h = holds_kept w [] ∙ kept-nothing w h

-- every searcher that can be made is that of a word that has taken a text, and each of these can be made
pub made_has : {s : Searcher} → Made s → (w : Word) × (t : Word) × (1 ≤ length w) × (length w ≤ longest_streamed)
    × (length t ≤ longest_text)
    × (s ≡ searcher_of w t)
made_has made = let K = made-took made in (K.word, K.text, K.some-letter, K.few, K.inside, K.is)

pub has_made : (w t : Word) → Bytes w → Bytes t → 1 ≤ length w → length w ≤ longest_streamed → length t ≤ longest_text
    → Made (searcher_of w t)
has_made w t word_bytes text-bytes some few inside = took-made (record {
  word = w;
  text = t;
  word_bytes = word_bytes;
  text-bytes = text-bytes;
  some-letter = some;
  few = few;
  inside = inside;
  is = refl;
})

-- ── 'taking a piece hands the searcher back by value with the number of finds, and their starts, counted from the stream's first byte, as
--    many as fit.' ──

-- with the searcher of w that has taken t: the finds that end in the piece v are those of demand 2 that t lacked; they are counted, the
-- first of them are listed, and the searcher of w that has taken both is handed back
pub piece_taken : (w t : Word) → 1 ≤ length w → length w ≤ longest_streamed → (v : Word) (F : List Place) → length (t ++ v) ≤ longest_text
    → (f : List Place) → occurrences w (t ++ v) ≡ occurrences w t ++ f
    → take_says (searcher_of w t) v F ≡ Taking.outcome (done (length f)) (searcher_of w (t ++ v)) (filled f F)
piece_taken = Streams.piece_taken

-- a list as long as the piece has room for all of them: each byte ends one find at most
pub finds_at_most : {s : Searcher} → Made s → (v : Word) → length (finds s v) ≤ length v
finds_at_most made v = finds-few (took_sound (made-took made)) v

-- ── 'Cut anywhere, empty pieces included, the finds together are those of demand 2 on the whole.' ──

-- the pieces l are any, of any length, and any number of them
pub cut_anywhere : (w : Word) → 1 ≤ length w → length w ≤ longest_streamed → (l : List Word) → length (joined l) ≤ longest_text
    → InTurn (open_says w).searcher l (occurrences w (joined l)) (searcher_of w (joined l))
cut_anywhere w some few l fits =
    rw (ap (λ (o : Opening.Outcome). o.searcher) (Open.says-opened w some few)) (Streams.cut_anywhere w some few l fits)

-- a piece, then another, is both at once: whatever lists are lent, they find the same and leave the same searcher
pub both_at_once : {s : Searcher} (a b : Word) → Made s → s.taken + length (a ++ b) ≤ longest_text
    → InTurn s (a ∷ b ∷ []) (finds s (a ++ b)) (after s (a ++ b)) × InTurn s ((a ++ b) ∷ []) (finds s (a ++ b)) (after s (a ++ b))
both_at_once a b made fits = (Streams.both_in_turn a b made fits, Streams.both_at_once a b made fits)

-- ── 'A piece that would pass 16,777,216 bytes in all is refused with 4, searcher and list unchanged.' ──

pub sixteen_mebibytes : longest_text ≡ 16777216
sixteen_mebibytes = text_limit

module _ {s : Searcher} (made : Made s) (v : Word) (F : List Place) where
  pub past_the_limit : longest_text < s.taken + length v → take_says s v F ≡ Taking.outcome (refused 4) s F
  past_the_limit l = Take.says-long_text s v F (took_sound (made-took made)) l

  -- up to the limit every piece is taken
  pub up_to_the_limit : s.taken + length v ≤ longest_text
      → take_says s v F ≡ Taking.outcome (done (length (finds s v))) (after s v) (filled (finds s v) F)
  up_to_the_limit l = Take.says-taken s v F (took_sound (made-took made)) l

-- at the limit an empty piece is taken
pub empty_on_top : {s : Searcher} → Made s → (F : List Place) → s.taken ≡ longest_text
    → take_says s [] F ≡ Taking.outcome (done (length (finds s []))) (after s []) (filled (finds s []) F)
empty_on_top made F e = up_to_the_limit made [] F (omega arith)

-- ── 'A searcher that opening and taking bytes could never have made is refused with a new 16, checked before 4 and with the same
--    effect.' ──

-- `Made` says of a searcher that it was opened, and then fed one byte after another. The test is true of exactly these
pub makeable-exactly : (s : Searcher) → Bytes s.word → (makeable s ≡ true) ↔ Made s
makeable-exactly = Take.makeable-exactly

-- whatever the piece, one that passes the limit too
pub unmade-refused : (s : Searcher) → Bytes s.word → (Made s → ⊥) → (v : Word) (F : List Place)
    → take_says s v F ≡ Taking.outcome (refused 16) s F
unmade-refused s bytes never v F = (Take.take_is s v F bytes _).1 (Stream.TakeCase.not_made never)

-- never one that was handed out: what taking makes can be taken again
pub made_again : {s : Searcher} (v : Word) → Made s → Bytes v → s.taken + length v ≤ longest_text → Made (after s v)
made_again = Streams.made_again

-- the outcome is o exactly when a case of the table with the outcome o applies: 16, 4, or taken
pub take-exactly : (s : Searcher) → Bytes s.word → (v : Word) (F : List Place) (o : Taking.Outcome)
    → (take_says s v F ≡ o) ↔ Stream.TakeCase s v F o
take-exactly s bytes v F o = Take.take_is s v F bytes o

pub take-numbers : (s : Searcher) (v : Word) (F : List Place) → refuses_only (16 ∷ 4 ∷ []) (take_says s v F).answer ≡ true
take-numbers = Take.take-numbers

pub refusal_leaves : (s : Searcher) (v : Word) (F : List Place) {n : ℕ} → (take_says s v F).answer ≡ refused n
    → ((take_says s v F).next ≡ s) × ((take_says s v F).list ≡ F)
refusal_leaves s v F e = Take.refusal_leaves s v F e

pub one-taking : (s : Searcher) (v : Word) (F : List Place) (q r : Taken) (G H : List Place) → Taking.took q G ≡ take_says s v F
    → Taking.took r H ≡ take_says s v F → (q ≡ r) × (G ≡ H)
one-taking = Take.take-one

-- ── The same over lent bytes, as C has it ──────────────────────────────────

-- opening: 1, 2, and 3 for fewer bytes than a searcher has
pub open_bytes_exactly : (w : Word) (B : List ℕ) (o : OpenBytes.Outcome) → (open_bytes_says w B ≡ o) ↔ InBytes.OpenCase w B o
open_bytes_exactly w B o = OpenBytesTheorems.open_is w B o

pub one_opening_in_bytes : (w : Word) (B : List ℕ) (r s : Result ℕ Refusal) (P Q : List ℕ) → OpenBytes.opened r P ≡ open_bytes_says w B
    → OpenBytes.opened s Q ≡ open_bytes_says w B → (r ≡ s) × (P ≡ Q)
one_opening_in_bytes = OpenBytesTheorems.open_one

-- taking: 16 exactly where no searcher that can be made has the first of the bytes, or they are too few; then 4
pub take-bytes-exactly : (B : List ℕ) → Bytes B → (v : Word) (F : List Place) (o : TakeBytes.Outcome)
    → (take_bytes_says B v F ≡ o) ↔ InBytes.TakeCase B v F o
take-bytes-exactly B bytes v F o = TakeBytesTheorems.take_bytes_is B v F bytes o

pub one_taking_in_bytes : (B : List ℕ) (v : Word) (F : List Place) (q r : Result ℕ Refusal) (P Q : List ℕ) (G H : List Place)
    → TakeBytes.took q P G ≡ take_bytes_says B v F → TakeBytes.took r Q H ≡ take_bytes_says B v F → (q ≡ r) × (P ≡ Q) × (G ≡ H)
one_taking_in_bytes = TakeBytesTheorems.take-one

-- no two searchers that can be made share their bytes
pub bytes_tell : (s r : Searcher) → Made s → Made r → packed s ≡ packed r → s ≡ r
bytes_tell s r m n e = sym (sound_back (took_sound (made-took m))) ∙ ap unpacked e ∙ sound_back (took_sound (made-took n))

-- what opening and taking leave can be taken again, whatever stands behind it
pub left_behind : {s : Searcher} → Made s → (R : List ℕ) → LeftIn (packed s ++ R) s
left_behind {s} made R =
    record { made = made; first = take_at (packed s) R searcher_bytes (sound_length (took_sound (made-took made))) }

-- 'Letters read aren't reported here.': an answer is a number of finds, and nothing else
