-- UTF-8, from the Unicode Standard's table of well-formed byte sequences.
use Rattle.std.specs.Prelude.{◌≡◌, ℕ, zero, suc, ◌+◌, ◌-◌, ◌*◌, ◌<◌, ◌≤◌, Bool, cond, ◌&&◌, ◌⊎◌, List, [], ◌∷◌, map, length, Some, None, Option, ◌==◌, nat_le, nat_lt, slice_index, slice_index_or}
use Rattle.input.specs.Faults.{notice}
use Rattle.input.specs.Text.{Text, read_to, TooLong}
use Rattle.input.specs.declared.fault.Notice.{Notice}
use Rattle.input.specs.declared.fault.Part.TheVariants.{Text as TextPart}

-- does b lie from lo to hi?
unfoldable pub within : ℕ → ℕ → ℕ → Bool
within lo hi b = nat_le lo b && nat_le b hi

-- a byte that goes on with a sequence
abbrev pub tail : ℕ → Bool
tail b = within 0x80 0xbf b

-- How many of the bytes a, b, c and d are the well-formed sequence that begins with a; 0 where none does.
-- A line for each row of the table: the first byte, and those that may follow it.
abbrev pub size_of : ℕ → ℕ → ℕ → ℕ → ℕ
size_of a b c d =
    cond (within 0x00 0x7f a) 1
    (cond (within 0xc2 0xdf a && tail b) 2
    (cond (within 0xe0 0xe0 a && (within 0xa0 0xbf b && tail c)) 3
    (cond (within 0xe1 0xec a && (within 0x80 0xbf b && tail c)) 3
    (cond (within 0xed 0xed a && (within 0x80 0x9f b && tail c)) 3
    (cond (within 0xee 0xef a && (within 0x80 0xbf b && tail c)) 3
    (cond (within 0xf0 0xf0 a && (within 0x90 0xbf b && (tail c && tail d))) 4
    (cond (within 0xf1 0xf3 a && (within 0x80 0xbf b && (tail c && tail d))) 4
    (cond (within 0xf4 0xf4 a && (within 0x80 0x8f b && (tail c && tail d))) 4
    0))))))))

-- the symbol of a sequence of n bytes
abbrev pub symbol_of : ℕ → ℕ → ℕ → ℕ → ℕ → ℕ
symbol_of n a b c d =
    cond (n == 1) a
    (cond (n == 2) ((a - 0xc0) * 64 + (b - 0x80))
    (cond (n == 3) ((a - 0xe0) * 4096 + (b - 0x80) * 64 + (c - 0x80))
    ((a - 0xf0) * 262144 + (b - 0x80) * 4096 + (c - 0x80) * 64 + (d - 0x80))))

-- the size and the symbol of the sequence that begins at place p; past the end a byte counts as 0, which goes on with no sequence
unfoldable pub size_at : List ℕ → ℕ → ℕ
size_at bs p = size_of (slice_index bs p) (slice_index bs (p + 1)) (slice_index bs (p + 2)) (slice_index bs (p + 3))

unfoldable pub symbol_at : List ℕ → ℕ → ℕ
symbol_at bs p = symbol_of (size_at bs p) (slice_index bs p) (slice_index bs (p + 1)) (slice_index bs (p + 2)) (slice_index bs (p + 3))

-- The places where sequences begin, from place p on, where n bytes are left and the first s of them belong to a sequence that began before.
-- The list ends at the first place where a sequence should begin and none does.
abbrev pub places_from : List ℕ → ℕ → ℕ → ℕ → List ℕ
places_from bs zero s p = []
places_from bs (suc n) (suc s) p = places_from bs n s (suc p)
places_from bs (suc n) zero p = cond (size_at bs p == 0) [] (p ∷ places_from bs n (size_at bs p - 1) (suc p))

-- that first place, or the end
abbrev pub stop_from : List ℕ → ℕ → ℕ → ℕ → ℕ
stop_from bs zero s p = p
stop_from bs (suc n) (suc s) p = stop_from bs n s (suc p)
stop_from bs (suc n) zero p = cond (size_at bs p == 0) p (stop_from bs n (size_at bs p - 1) (suc p))

unfoldable pub places_of : List ℕ → List ℕ
places_of bs = places_from bs (length bs) 0 0

unfoldable pub stop_of : List ℕ → ℕ
stop_of bs = stop_from bs (length bs) 0 0

-- well-formed sequences up to the end
abbrev pub WellFormed : List ℕ → Type 0
WellFormed bs = stop_of bs ≡ length bs

-- bytes that are a text: at most 1048576, and well-formed
abbrev pub Readable : List ℕ → Type 0
Readable bs = (length bs ≤ 1048576) × WellFormed bs

-- refusal 7: the first place where a sequence should begin and none does
pub record IllFormed (bs : List ℕ) (told : Notice) : Type 0 where
  pub few : length bs ≤ 1048576
  pub inside : stop_of bs < length bs
  pub tells : told ≡ notice 7 (stop_of bs) TextPart

-- why bytes are no text
abbrev pub Refused : List ℕ → Notice → Type 0
Refused bs told = TooLong (length bs) told ⊎ IllFormed bs told

-- how many, at the front of a rising list, are below p
abbrev pub before : ℕ → List ℕ → ℕ
before p [] = 0
before p (x ∷ xs) = cond (nat_lt x p) (suc (before p xs)) 0

-- the text that bytes are, with nothing read, and read up to the place at
abbrev pub text_of : List ℕ → Text
text_of bs = record { symbols = map (symbol_at bs) (places_of bs); places = places_of bs; end = length bs; read = 0 }

abbrev pub of_bytes : List ℕ → ℕ → Text
of_bytes bs at = read_to (text_of bs) (before at (places_of bs))

-- at is the place of a symbol or of the end
abbrev pub Stands : List ℕ → ℕ → Type 0
Stands bs at = slice_index_or (places_of bs) (before at (places_of bs)) (length bs) ≡ at

-- what a reading step answers at place p: the symbol there with its size, or nothing at the end
unfoldable pub read_at : List ℕ → ℕ → Option (ℕ × ℕ)
read_at bs p = cond (nat_lt p (length bs)) (Some (symbol_at bs p, size_at bs p)) None
