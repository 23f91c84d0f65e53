-- What the code's answer about a header means.
--
--   kind_named k   the kind with the number k
--   kind_number k  the number of a kind
--   header_of t q  the header that `.FIT` at q is in, if it is listed
use Rattle.std.specs.Prelude.{cond, eqb, ℕ, ◌-◌, Option, Some, None}
use Rattle.words.specs.Words.{Word, Place}
use Rattle.rides.specs.declared.Kind.{Kind}
use Rattle.rides.specs.declared.Kind.TheVariants.{Cut, Whole}
use Rattle.rides.specs.declared.Header.{Header}
use Rattle.rides.specs.Rides.{in_header, cut, whole, kind_of}

abbrev pub kind_named : ℕ → Kind
kind_named k = cond (eqb k whole) Whole Cut

abbrev pub kind_number : Kind → ℕ
kind_number Cut = cut
kind_number Whole = whole

abbrev pub header_of : Word → Place → Option Header
header_of t q = cond (in_header t q) (Some (record { start = record { 0 = q - 8 }; kind = kind_named (kind_of t (q - 8)) })) None
