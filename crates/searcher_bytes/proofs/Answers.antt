-- Code's test whether it is done is that of what it answers.
use mathlib.Core.Path.{◌≡◌, refl}
use Prim.Native.Nat.{ℕ}
use Rattle.std.specs.Prelude.{Result, Ok, Err}
use Rattle.std.specs.Result.{is_ok}
use Rattle.answers.specs.declared.Refusal.{Refusal}
use Rattle.answers.specs.declared.Refusal.TheVariants.{EmptyWord, LongWord, ShortRoom, LongText, ShortOutput, Unmade, ShortWord, InFile}
use Rattle.answers.specs.Answers.{size_answer}
use Rattle.searcher_bytes.specs.TakeBytes.{is_done}

pub done-is_ok : (r : Result ℕ Refusal) → is_ok r ≡ is_done (size_answer r)
done-is_ok (Ok n) = refl
done-is_ok (Err EmptyWord) = refl
done-is_ok (Err LongWord) = refl
done-is_ok (Err ShortRoom) = refl
done-is_ok (Err LongText) = refl
done-is_ok (Err ShortOutput) = refl
done-is_ok (Err Unmade) = refl
done-is_ok (Err ShortWord) = refl
done-is_ok (Err (InFile f)) = refl
