-- Numbers of an image, and tests of them.
use Rattle.std.specs.Prelude.{ℕ, zero, suc, Bool, true, false, ◌&&◌, ℤ, pos, negsuc, ◌==◌, int_le, nat_lt}

-- the number itself, or 0 where it is below 0
abbrev pub natural : ℤ → ℕ
natural (pos n) = n
natural (negsuc n) = 0

abbrev pub is : ℤ → ℕ → Bool
is (pos m) n = m == n
is (negsuc m) n = false

-- 0 or above, and below n
abbrev pub below : ℤ → ℕ → Bool
below (pos m) n = nat_lt m n
below (negsuc m) n = false

abbrev pub same_number : ℤ → ℤ → Bool
same_number (pos m) (pos n) = m == n
same_number (pos m) (negsuc n) = false
same_number (negsuc m) (pos n) = false
same_number (negsuc m) (negsuc n) = m == n

abbrev pub end_of_text : ℤ
end_of_text = negsuc 0

abbrev pub between : ℤ → ℤ → ℤ → Bool
between low high x = int_le low x && int_le x high

-- a symbol or the end of the text
abbrev pub is_label : ℤ → Bool
is_label = between end_of_text (pos 1114111)

-- f is true of a, a + 1, .., n of them
unfoldable pub all_of : (ℕ → Bool) → ℕ → ℕ → Bool
all_of f a zero = true
all_of f a (suc n) = f a && all_of f (suc a) n
