-- The words of a text, a list of bytes, each with the line that it stands in. Assumes nothing.
use Rattle.std.specs.Prelude.{ℕ, ◌+◌, Bool, true, false, cond, not, ◌&&◌, ◌||◌, List, [], ◌∷◌, ◌==◌, nat_le}
use Rattle.decimals.specs.declared.words.Word.{Word}
use Rattle.decimals.specs.declared.words.Words.{Words}

-- white space: the bytes 9 to 13 and 32
abbrev pub is_white : ℕ → Bool
is_white b = b == 32 || (nat_le 9 b && nat_le b 13)

-- outside comments, a word is made of bytes that are neither white space nor `#`
abbrev pub is_ink : ℕ → Bool
is_ink b = not (is_white b) && not (b == 35)

-- a word, and the line that it stands in, counted from 1
pub record Found : Type 0 where
  pub line : ℕ
  pub bytes : List ℕ

abbrev pub found : ℕ → List ℕ → Found
found n bs = record { line = n; bytes = bs }

-- a text cut into words: its front, which goes up to the first byte that is in no word, and the words after it
pub record Cut : Type 0 where
  pub front : List ℕ
  pub after : List Found

-- the words of a cut, whose front is a word of line n unless it is empty
abbrev pub both : ℕ → List ℕ → List Found → List Found
both n [] ws = ws
both n (b ∷ bs) ws = found n (b ∷ bs) ∷ ws

abbrev pub words_in : ℕ → Cut → List Found
words_in n c = both n c.front c.after

-- a cut whose first byte is in no word, with the words after that byte
abbrev pub apart : List Found → Cut
apart ws = record { front = []; after = ws }

-- a cut whose first byte, b, is in a word
abbrev pub onto : ℕ → Cut → Cut
onto b c = record { front = b ∷ c.front; after = c.after }

-- a text that begins in line n, in a comment or not
abbrev pub cut_of : Bool → ℕ → List ℕ → Cut
cut_of comment n [] = apart []
cut_of comment n (b ∷ bs) =
    cond (b == 10) (apart (words_in (n + 1) (cut_of false (n + 1) bs)))
    (cond (comment || b == 35) (apart (words_in n (cut_of true n bs)))
    (cond (is_white b) (apart (words_in n (cut_of false n bs))) (onto b (cut_of false n bs))))

abbrev pub words_from : Bool → ℕ → List ℕ → List Found
words_from comment n bs = words_in n (cut_of comment n bs)

-- the words of a whole text
abbrev pub words_of : List ℕ → List Found
words_of bs = words_from false 1 bs

-- a word as it was read
abbrev pub told : Word → Found
told w = found w.line w.bytes.now

-- the words that are still to come
abbrev pub left : Words → List Found
left s = words_from false s.line s.rest.now
