-- What a reader of any source uses. Assumes nothing.
use Rattle.std.proofs.Common.{◌≡◌, ◌+◌, ◌<◌, ◌≤◌, true, false, length, get_or, ℤ, pos, negsuc, ap, ◌∙◌, ⊎_elim, arith}
use lib.Signed.{lt_z}
use Rattle.std.proofs.lemmas.Bool.{cases_lt, cond-true, cond-false, lt-ltb, le-ltb}
use Rattle.input.specs.Text.{Text, read_to, more, coming, stepped}

pub coming_end : (t : Text) → length t.symbols ≤ t.read → coming t ≡ negsuc 0
coming_end t h = cond-false (more t) _ _ (le-ltb t.read (length t.symbols) h)

pub coming_symbol : (t : Text) → t.read < length t.symbols → coming t ≡ pos (get_or t.symbols t.read 0)
coming_symbol t h = cond-true (more t) _ _ (lt-ltb t.read (length t.symbols) h)

pub stepped-more : (t : Text) → t.read < length t.symbols → stepped t ≡ read_to t (t.read + 1)
stepped-more t h = ap (read_to t) (cond-true (more t) _ _ (lt-ltb t.read (length t.symbols) h))

pub stepped_end : (t : Text) → length t.symbols ≤ t.read → stepped t ≡ t
stepped_end t h = ap (read_to t) (cond-false (more t) _ _ (le-ltb t.read (length t.symbols) h))

-- the sign of what comes says whether a symbol is left
pub comes : (t : Text) (c : ℤ) → c ≡ coming t → lt_z c (pos 0) ≡ false → t.read < length t.symbols
comes t c e h = ⊎_elim (λ l. l) (λ l. let z : c ≡ negsuc 0 = e ∙ coming_end t l in grind arith) (cases_lt t.read (length t.symbols))

pub ends : (t : Text) (c : ℤ) → c ≡ coming t → lt_z c (pos 0) ≡ true → length t.symbols ≤ t.read
ends t c e h =
    ⊎_elim (λ l. let z : c ≡ pos (get_or t.symbols t.read 0) = e ∙ coming_symbol t l in grind arith) (λ l. l)
    (cases_lt t.read (length t.symbols))
