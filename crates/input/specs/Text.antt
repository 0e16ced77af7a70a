-- What a source of symbols means: the symbols of the whole text, the place of each, the place of the end, and how many symbols are read.
use Rattle.std.specs.Prelude.{◌≡◌, ℕ, ◌+◌, ◌<◌, ◌≤◌, Bool, true, false, cond, List, [], length, drop, ℤ, pos, negsuc, ◌≢◌, nat_lt, slice_index, slice_index_or}
use Rattle.input.specs.Faults.{notice}
use Rattle.input.specs.declared.fault.Notice.{Notice}
use Rattle.input.specs.declared.fault.Part.TheVariants.{Text as TextPart}

pub record Text : Type 0 where
  pub symbols : List ℕ
  pub places : List ℕ
  pub end : ℕ
  pub read : ℕ

-- the same text with n symbols read
abbrev pub read_to : Text → ℕ → Text
read_to t n = record { symbols = t.symbols; places = t.places; end = t.end; read = n }

-- what holds of every text: a place for each symbol, at most 1048576 symbols from 0 to 1114111, and places that rise strictly up to the end place
pub record Good (t : Text) : Type 0 where
  pub level : length t.places ≡ length t.symbols
  pub inside : t.read ≤ length t.symbols
  pub few : length t.symbols ≤ 1048576
  pub fit : (k : ℕ) → k < length t.symbols → slice_index t.symbols k ≤ 1114111
  pub rising : (j k : ℕ) → j < k → k < length t.symbols → slice_index t.places j < slice_index t.places k
  pub below : (k : ℕ) → k < length t.symbols → slice_index t.places k < t.end

-- is there a symbol to read?
abbrev pub more : Text → Bool
more t = nat_lt t.read (length t.symbols)

-- the next symbol, or -1 at the end
abbrev pub coming : Text → ℤ
coming t = cond (more t) (pos (slice_index t.symbols t.read)) (negsuc 0)

-- the place of symbol k, or that of the end
abbrev pub place_of : Text → ℕ → ℕ
place_of t k = slice_index_or t.places k t.end

-- one symbol further, unless at the end
abbrev pub stepped : Text → Text
stepped t = read_to t (cond (more t) (t.read + 1) t.read)

-- a search for a place: where a symbol or the end has it, as many symbols are read after as stand before it; where none has it nothing changes
abbrev pub Sought : Text → ℕ → Bool → Text → Type 0
Sought t place true u = (k : ℕ) × ((k ≤ length t.symbols) × (place_of t k ≡ place) × (u ≡ read_to t k))
Sought t place false u = ((k : ℕ) → k ≤ length t.symbols → place_of t k ≢ place) × (u ≡ t)

-- what is not read yet
abbrev pub rest : Text → List ℕ
rest t = drop t.read t.symbols

-- a text with nothing in it
abbrev pub empty_text : Text
empty_text = record { symbols = []; places = []; end = 0; read = 0 }

-- refusal 8: n numbers or bytes are too many
pub record TooLong (n : ℕ) (told : Notice) : Type 0 where
  pub long : 1048576 < n
  pub tells : told ≡ notice 8 1048576 TextPart
