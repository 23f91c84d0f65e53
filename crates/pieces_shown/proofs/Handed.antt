-- A SEARCHER HANDED ON from piece to piece: it is the one that has taken the text so far, and the finds so far are those in it.
use mathlib.Core.Path.{◌≡◌, refl, sym, ap, ◌∙◌}
use mathlib.Core.List.{List, [], ◌++◌}
use Prim.Native.Nat.{ℕ, ◌+◌, ◌≤◌, ◌<◌}
use native.Mathlib.Omega.{arith}
use lib.ListN.{length, take, drop, length-append, length-drop}
use lib.Seq.{take-add, take_at, drop_at, drop-drop, length-take-le}
use Rattle.words.specs.Limits.{longest_streamed, longest_text}
use Rattle.words.specs.Words.{Word, Place, occurrences}
use Rattle.words.proofs.Occurrences.{occurrences-few, since-start, since-past}
use Rattle.std.specs.Prelude.{Result, Ok}
use Rattle.std.specs.Result.{result_unwrap_or}
use Rattle.answers.specs.declared.Refusal.{Refusal}
use Rattle.answers.specs.Answers.{done}
use Rattle.answers.proofs.Answers.{answer_of-one}
use Rattle.finds.specs.Finds.{filled}
use Rattle.stream.specs.declared.Searcher.{Searcher}
use Rattle.stream.specs.declared.Opened.{Opened}
use Rattle.stream.specs.declared.Taken.{Taken}
use Rattle.stream.specs.Searchers.{searcher_of, finds}
use Rattle.stream.specs.Opening
use Rattle.stream.specs.Opening.{open_says}
use Rattle.stream.specs.Taking
use Rattle.stream.specs.Taking.{take_says}
use Rattle.stream.proofs.History.{finds_are}
use Rattle.stream.proofs.OpenSays.{says-opened}
use Rattle.stream.proofs.Theorems.{piece_taken}

-- ── The loop ───────────────────────────────────────────────────────────────

pub record Handed (w T : Word) (s : Searcher) (at count : ℕ) : Type 0 where
  pub inside : at ≤ length T
  pub is : s ≡ searcher_of w (take at T)
  pub number : count ≡ length (occurrences w (take at T))

pub handed-start : (w T : Word) → 1 ≤ length w → length w ≤ longest_streamed → (o : Opened) → Opening.opened o ≡ open_says w
    → Handed w T o.searcher 0 0
handed-start w T some few o e = record {
  inside = omega arith;
  is = ap (λ (x : Opening.Outcome). x.searcher) (e ∙ says-opened w some few);
  number = ap length (sym (since-past w [] 0 (omega arith)) ∙ since-start w []);
}

-- where the rest of the text is still to be cut into pieces of so many bytes
pub record HandedOn (w T : Word) (s : Searcher) (rest : Word) (size at count : ℕ) : Type 0 where
  pub handed : Handed w T s at count
  pub left : rest ≡ drop at T
  pub some : 0 < size

-- the next piece, v, is taken
module _ {w T : Word} {s : Searcher} {rest : Word} {size at count : ℕ} (on : HandedOn w T s rest size at count)
    (some : 1 ≤ length w) (few : length w ≤ longest_streamed) (fits : length T ≤ longest_text) (v rest' : Word) (cut : rest ≡ v ++ rest')
    (F : List Place) (t : Taken) {G : List Place} (says : Taking.took t G ≡ take_says s v F) where
  abbrev end : ℕ
  end = at + length v

  abbrev f : List Place
  f = finds (searcher_of w (take at T)) v

  split : drop at T ≡ v ++ rest'
  split = sym on.left ∙ cut

  pub within : end ≤ length T
  within = omega (arith, ap length split, length-append v rest', length-drop at T, on.handed.inside)

  joined : take at T ++ v ≡ take end T
  joined =
      ap (λ (l : Word). take at T ++ l) (sym (take_at v rest' (length v) refl) ∙ ap (take (length v)) (sym split))
      ∙ sym (take-add at (length v) T)

  left' : rest' ≡ drop end T
  left' = sym (drop_at v rest' (length v) refl) ∙ ap (drop (length v)) (sym split) ∙ drop-drop (length v) at T

  found : occurrences w (take at T ++ v) ≡ occurrences w (take at T) ++ f
  found = finds_are w (take at T) v some

  is_taken : Taking.took t G ≡ Taking.outcome (done (length f)) (searcher_of w (take at T ++ v)) (filled f F)
  is_taken =
      says
      ∙ ap (λ (x : Searcher). take_says x v F) on.handed.is
      ∙ piece_taken w (take at T) some few v F (rw joined (omega (arith, length-take-le end T within, within))) f found

  module _ {k : ℕ} (told : k ≡ result_unwrap_or t.answer 0) where
    added : k ≡ length f
    added =
        let e = answer_of-one t.answer (Ok (length f)) (ap (λ (o : Taking.Outcome). o.answer) is_taken) in
        told ∙ ap (λ (r : Result ℕ Refusal). result_unwrap_or r 0) e

    counted : count + k ≡ length (occurrences w (take end T))
    counted =
        let sum = length-append (occurrences w (take at T)) f in
        omega (arith, added, on.handed.number, sum, ap length found, ap (λ (x : Word). length (occurrences w x)) joined)

    pub handed-few : count + k ≤ longest_text
    handed-few = omega (arith, counted, occurrences-few w (take end T), some, length-take-le end T within, within)

    pub handed-next : {size' : ℕ} → size' ≡ size → HandedOn w T t.next rest' size' end (count + k)
    handed-next same = record {
      handed = record {
        inside = within;
        is = ap (λ (o : Taking.Outcome). o.next) is_taken ∙ ap (searcher_of w) joined;
        number = counted;
      };
      left = left';
      some = omega (arith, same, on.some);
    }
