-- The search for what a state reaches: marks of the states met, and a list of them in the order of meeting.
use Rattle.std.specs.Prelude.{◌≡◌, ℕ, ◌+◌, ◌<◌, ◌≤◌, Bool, not, List, count_by, ◌==◌, slice_index}
use Rattle.rounds.specs.Rounds.{Graph, Cycle}
use Rattle.rounds.specs.Rank.{some_of}

-- The search from s has met k.
abbrev pub Met : ℕ → List ℕ → ℕ → Type 0
Met s marks k = slice_index marks k ≡ s + 1

-- No mark is that of the search from s, or of a later one.
abbrev pub Fresh : ℕ → List ℕ → Type 0
Fresh s marks = (k : ℕ) → slice_index marks k ≤ s

-- How many the search from s has not met.
abbrev pub unmet : ℕ → List ℕ → ℕ
unmet s marks = count_by (λ x. not (x == s + 1)) marks

-- k is one of the first `end` of the list.
abbrev pub is_listed : List ℕ → ℕ → ℕ → Bool
is_listed list end k = some_of (λ j. slice_index list j == k) 0 end

-- No state below s reaches itself.
abbrev pub NoneBelow : Graph → ℕ → Type 0
NoneBelow g s = (k : ℕ) → k < s → Cycle g k → ⊥
