-- The lines of a recording, a list of bytes. A line feed is the byte 10. Assumes nothing.
use Rattle.std.specs.Prelude.{◌≡◌, ℕ, ◌-◌, cond, List, [], ◌∷◌, ◌++◌, length, drop, ◌==◌, ◌≢◌, slice_index_or}
use Rattle.std.specs.List.{flat_map, AllByRecursion}
use Rattle.audit.specs.declared.lines.Lines.{Lines}

-- a byte in front of the first line
abbrev pub onto : ℕ → List (List ℕ) → List (List ℕ)
onto b [] = (b ∷ []) ∷ []
onto b (l ∷ ls) = (b ∷ l) ∷ ls

-- the lines of a recording, without their line feeds
abbrev pub lines_of : List ℕ → List (List ℕ)
lines_of [] = []
lines_of (b ∷ bs) = cond (b == 10) ([] ∷ lines_of bs) (onto b (lines_of bs))

-- a line holds no line feed
abbrev pub NoFeed : List ℕ → Type 0
NoFeed = AllByRecursion (λ b. b ≢ 10)

-- a line with a line feed after it
abbrev pub with_feed : List ℕ → List ℕ
with_feed l = l ++ (10 ∷ [])

-- the recording, with a line feed added at its end where it is not empty and has none there
abbrev pub ended : List ℕ → List ℕ
ended bs = cond (slice_index_or bs (length bs - 1) 10 == 10) bs (with_feed bs)

-- what it is to be the lines of a recording: none holds a line feed, and with one after each they are the recording, ended
pub record Cut (bs : List ℕ) (ls : List (List ℕ)) : Type 0 where
  pub feedless : AllByRecursion NoFeed ls
  pub whole : flat_map with_feed ls ≡ ended bs

-- the lines that are still to come
abbrev pub left : Lines → List (List ℕ)
left s = lines_of (drop s.at s.recording.now)

-- how many bytes are still to come
abbrev pub bytes_left : Lines → ℕ
bytes_left s = length s.recording.now - s.at
