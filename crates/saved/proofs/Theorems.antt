-- THE THEOREMS on the file of a word, each a sentence about the definitions alone: how many bytes it has at most and at least.
use mathlib.Core.Path.{◌≡◌, refl}
use Prim.Native.Nat.{ℕ, zero, suc, ◌+◌, ◌*◌, ◌≤◌, ◌<◌}
use native.Mathlib.Omega.{arith}
use mathlib.Core.List.{List}
use lib.ListN.{length, replicate}
use Rattle.words.specs.Lists.{from, only, first}
use Rattle.words.specs.Words.{Word}
use Rattle.words.specs.Limits.{least_saved, longest_word, greatest_file}
use Rattle.words.proofs.Limits.{words_fit, file-room, least_below_longest}
use Rattle.oracle.specs.Arrows.{target, walk, spine}
use Rattle.oracle.specs.SuffixRule.{far, mend, missing, extras_after, extra_arrows, suffix_rule}
use Rattle.oracle.specs.FileOrder.{leads_to, extra_targets, extras_before, file_arrows}
use Rattle.number.specs.Number.{Bytes, groups, spell_number}
use Rattle.number.proofs.Theorems.{spelling-length, spelling-short}
use Rattle.saved.specs.File.{edition, steps_from, spell_steps, own_steps, body, spell, Saved}
use Rattle.saved.proofs.Spelled.{file-length, file_most}

-- ── At most ────────────────────────────────────────────────────────────────

module _ (p : Word) (some : 1 ≤ length p) where
  -- five bytes a letter and one more are always room enough, where numbers take two
  pub size_linear : length p < 16384 → length (spell p) ≤ 5 * length p + 1
  size_linear h = omega (arith, file_most {w = 2} (λ v b. spelling-short v (omega arith)) p refl some)

  -- so for every word within the limit
  pub size_most : length p ≤ longest_word → length (spell p) ≤ greatest_file
  size_most h = omega (arith, file-room, size_linear (omega (arith, words_fit)))

-- ── At least ───────────────────────────────────────────────────────────────

-- three numbers beside the letters
pub size_least : (f : List ℕ) → Saved f → least_saved + 3 ≤ length f
size_least f S =
    let p = S.word in
    let numbers = (spelling-length (length p)).0 in
    let more = (spelling-length (length (own_steps p))).0 in
    rw S.file (omega (arith, S.savable.least, file-length p))

-- and one has no more: that of the letter a, repeated as often as the least word asks
pub least_reached : (f : List ℕ) × Saved f × (length f ≡ least_saved + 3)
unfolding least_saved from only first target walk spine far mend missing extras_after extra_arrows suffix_rule
    leads_to extra_targets extras_before file_arrows groups spell_number edition steps_from spell_steps own_steps body spell
least_reached = (
  spell shortest,
  record {
    word = shortest;
    savable = record { bytes = bytes least_saved; least = omega arith; most = omega (arith, least_below_longest) };
    file = refl;
  },
  refl,
)
  where
    shortest : Word
    shortest = replicate least_saved 97

    bytes : (n : ℕ) → Bytes (replicate n 97)
    bytes zero i = omega arith
    bytes (suc n) zero = omega arith
    bytes (suc n) (suc i) = bytes n i
