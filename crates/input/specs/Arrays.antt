-- A text that is an array of numbers: the symbols are the numbers, and the places the indices.
use Rattle.std.specs.Prelude.{◌≡◌, ℕ, zero, suc, ◌+◌, ◌<◌, ◌≤◌, ◌⊎◌, List, [], ◌∷◌, length, slice_index, slice_index_or, refl}
use Rattle.std.proofs.Common.{ap, arith}
use Rattle.input.specs.Faults.{notice}
use Rattle.input.specs.Text.{Text, Good, TooLong}
use Rattle.input.specs.declared.fault.Notice.{Notice}
use Rattle.input.specs.declared.fault.Part.TheVariants.{Text as TextPart}

-- numbers that are a text: at most 1048576, and none above 1114111
abbrev pub Readable : List ℕ → Type 0
Readable xs = (length xs ≤ 1048576) × ((k : ℕ) → k < length xs → slice_index xs k ≤ 1114111)

-- refusal 7: the first number that is no symbol stands at a place
pub record NoSymbol (xs : List ℕ) (told : Notice) : Type 0 where
  pub few : length xs ≤ 1048576
  pub inside : told.place < length xs
  pub large : 1114111 < slice_index xs told.place
  pub first : (k : ℕ) → k < told.place → slice_index xs k ≤ 1114111
  pub tells : told ≡ notice 7 told.place TextPart

-- why numbers are no text
abbrev pub Refused : List ℕ → Notice → Type 0
Refused xs told = TooLong (length xs) told ⊎ NoSymbol xs told

-- the n numbers from a on
abbrev pub upward : ℕ → ℕ → List ℕ
upward a zero = []
upward a (suc n) = a ∷ upward (suc a) n

-- the text of an array, with n symbols read
abbrev pub of_numbers : List ℕ → ℕ → Text
of_numbers xs n = record { symbols = xs; places = upward 0 (length xs); end = length xs; read = n }

-- ---- such a text is good

pub length-upward : (a n : ℕ) → length (upward a n) ≡ n
length-upward a zero = refl
length-upward a (suc n) = ap suc (length-upward (suc a) n)

pub get_or-upward : (a n k d : ℕ) → k < n → slice_index_or (upward a n) k d ≡ a + k
get_or-upward a zero k d h = absurd (omega arith)
get_or-upward a (suc n) zero d h = omega arith
get_or-upward a (suc n) (suc k) d h = omega (arith, get_or-upward (suc a) n k d (omega arith))

pub good_array : (xs : List ℕ) (n : ℕ) → Readable xs → n ≤ length xs → Good (of_numbers xs n)
good_array xs n readable inside = record {
  level = length-upward 0 (length xs);
  inside = inside;
  few = readable.0;
  fit = readable.1;
  rising = λ j k below h. omega (arith, get_or-upward 0 (length xs) j 0 (omega arith), get_or-upward 0 (length xs) k 0 h);
  below = λ k h. omega (arith, get_or-upward 0 (length xs) k 0 h);
}
