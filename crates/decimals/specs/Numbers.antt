-- What a word says as a decimal number, and what a text says. Assumes nothing.
use Rattle.std.specs.Prelude.{◌≡◌, ℕ, ◌+◌, ◌-◌, ◌*◌, Bool, cond, ◌&&◌, List, [], ◌∷◌, length, drop, ℤ, pos, negsuc, neg_ℤ, Ok, Err, vec_items, fold, Result, Vec, ◌==◌, int_le, nat_lt, slice_index}
use Rattle.std.specs.declared.alloc.Global.{Global}
use Rattle.std.specs.Str.{all_ascii_digits}
use Rattle.decimals.specs.Words.{Found, words_of}
use Rattle.decimals.specs.declared.error.NumbersError.{NumbersError}
use Rattle.decimals.specs.declared.error.NumbersError.TheVariants.{NoNumber, NotANumber, OutOfRange, NoMemory}

-- does a word begin with `-`?
abbrev pub is_negative : List ℕ → Bool
is_negative word = slice_index word 0 == 45

-- a word without that sign
abbrev pub unsigned : List ℕ → List ℕ
unsigned word = drop (cond (is_negative word) 1 0) word

-- one digit or more, and nothing else
abbrev pub is_digits : List ℕ → Bool
is_digits ds = nat_lt 0 (length ds) && all_ascii_digits ds

-- the number that digits write
abbrev pub size_of : List ℕ → ℕ
size_of ds = fold (λ n d. n * 10 + (d - 48)) 0 ds

-- a number with its sign
abbrev pub with_sign : Bool → ℕ → ℤ
with_sign negative n = cond negative (neg_ℤ (pos n)) (pos n)

-- the value of a decimal number
abbrev pub value_of : List ℕ → ℤ
value_of word = with_sign (is_negative word) (size_of (unsigned word))

-- from -2147483648 to 2147483647
abbrev pub fits : ℤ → Bool
fits z = int_le (negsuc 2147483647) z && int_le z (pos 2147483647)

-- what one word says: its value, or what is wrong with it
abbrev pub number_of : Found → Result ℤ NumbersError
number_of word =
    cond (is_digits (unsigned word.bytes)) (cond (fits (value_of word.bytes)) (Ok (value_of word.bytes)) (Err (OutOfRange word.line)))
    (Err (NotANumber word.line))

-- a word's number before those of the words after it; the first fault counts
abbrev pub before : Result ℤ NumbersError → Result (List ℤ) NumbersError → Result (List ℤ) NumbersError
before (Ok z) (Ok zs) = Ok (z ∷ zs)
before (Ok z) (Err e) = Err e
before (Err e) r = Err e

-- what words say: all their values in order, or what is wrong with the first bad one
abbrev pub numbers_in : List Found → Result (List ℤ) NumbersError
numbers_in [] = Ok []
numbers_in (w ∷ ws) = before (number_of w) (numbers_in ws)

-- there is to be a number
abbrev pub at_least_one : Result (List ℤ) NumbersError → Result (List ℤ) NumbersError
at_least_one (Ok []) = Err NoNumber
at_least_one (Ok (z ∷ zs)) = Ok (z ∷ zs)
at_least_one (Err e) = Err e

-- what a text says
abbrev pub numbers_of : List ℕ → Result (List ℤ) NumbersError
numbers_of text = at_least_one (numbers_in (words_of text))

-- what reading a text may answer: just what it says, unless memory is wanting
abbrev pub Reads : List ℕ → Result (Vec ℤ Global) NumbersError → Type 0
Reads text (Ok numbers) = numbers_of text ≡ Ok (vec_items numbers)
Reads text (Err NoNumber) = numbers_of text ≡ Err NoNumber
Reads text (Err (NotANumber line)) = numbers_of text ≡ Err (NotANumber line)
Reads text (Err (OutOfRange line)) = numbers_of text ≡ Err (OutOfRange line)
Reads text (Err NoMemory) = Unit {0}
