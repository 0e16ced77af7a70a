-- What std's own UTF-8 says of bytes that a source took up or refused.
use Rattle.std.specs.Prelude.{◌≡◌, ℕ, ◌≤◌, List, length, Ok, Err, IsUtf8, Result}
use Rattle.std.specs.Str.{chars}
use Rattle.input.specs.Utf8.{text_of}
use Rattle.input.specs.declared.fault.Fault.{Fault}

-- bytes that are taken up are UTF-8 with the same characters, and bytes that are refused though not too many are not UTF-8
abbrev pub Agrees : {T : Type 0} → List ℕ → Result T Fault → Type 0
Agrees bs (Ok _) = IsUtf8 bs × ((text_of bs).symbols ≡ chars bs)
Agrees bs (Err f) = length bs ≤ 1048576 → IsUtf8 bs → ⊥
