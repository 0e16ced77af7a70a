-- How the report of a line counts in the totals, and that the totals of a recording fit. Assumes nothing.
use Rattle.std.proofs.Common.{◌≡◌, ℕ, suc, ◌+◌, ◌^◌, ◌<◌, ◌≤◌, eqb, List, [], ◌∷◌, length, Result, sym, ap, ◌∙◌, arith, rules}
use Rattle.std.proofs.lemmas.List.{length-map}
use Rattle.std.proofs.lemmas.Bool.{cond_both}
use Rattle.input.specs.Places.{up_length, up_places}
use Rattle.input.specs.Utf8.{symbol_at, places_of, text_of}
use Rattle.audit.specs.Lines.{lines_of, onto}
use Rattle.audit.specs.Reports.{Audited, symbols_in, refused_in}
use Rattle.audit.specs.Totals.{both, counted, total_in, total_of, Fit}
use Rattle.audit.specs.declared.report.Read.{Read}
use Rattle.input.specs.declared.fault.Fault.{Fault}
use Rattle.audit.specs.declared.totals.Totals.{Totals}

-- a line that is counted is no longer to come
count_more : (t : Totals) (line : List ℕ) (ls : List (List ℕ)) (report : Result Read Fault) → Audited line report
    → both (counted t report) (total_in ls) ≡ both t (total_in (line ∷ ls))
count_more t line ls report audited = search rules

-- ---- the totals of a recording are at most its bytes

symbols_few : (line : List ℕ) → length (text_of line).symbols ≤ length line
symbols_few line = omega (arith, length-map (places_of line) (symbol_at line), up_length 0 (length line) (places_of line) (up_places line) (omega arith))

-- the bytes of lines
abbrev bytes_in : List (List ℕ) → ℕ
bytes_in [] = 0
bytes_in (l ∷ ls) = length l + bytes_in ls

symbols_bytes : (ls : List (List ℕ)) → symbols_in ls ≤ bytes_in ls
symbols_bytes [] = omega arith
symbols_bytes (l ∷ ls) = search (rules, symbols_few l, symbols_bytes ls)

refused_lines : (ls : List (List ℕ)) → refused_in ls ≤ length ls
refused_lines [] = omega arith
refused_lines (l ∷ ls) = search (rules, refused_lines ls)

-- at most n lines, with at most n bytes
abbrev Within : ℕ → List (List ℕ) → Type 0
Within n ls = (length ls ≤ n) × (bytes_in ls ≤ n)

onto-within : (b n : ℕ) (ls : List (List ℕ)) → Within n ls → Within (suc n) (onto b ls)
onto-within b n [] h = (omega arith, omega arith)
onto-within b n (l ∷ ls) h = (omega arith, omega arith)

lines_within : (bs : List ℕ) → Within (length bs) (lines_of bs)
lines_within [] = (omega arith, omega arith)
lines_within (b ∷ bs) =
    let h = lines_within bs in
    cond_both (eqb b 10) ([] ∷ lines_of bs) (onto b (lines_of bs)) (Within (suc (length bs))) (λ _. (omega arith, omega arith)) (λ _. onto-within b (length bs) (lines_of bs) h)

-- so the totals with one more line fit
pub count_fits : (bs : List ℕ) (t : Totals) (line : List ℕ) (coming ls : List (List ℕ)) (report : Result Read Fault) → length bs < 2 ^ 64 → Audited line report
    → coming ≡ line ∷ ls → both t (total_in coming) ≡ total_of bs → Fit (counted t report)
count_fits bs t line coming ls report small audited first whole =
    let e = count_more t line ls report audited ∙ (ap (λ ms. both t (total_in ms)) (sym first) ∙ whole) in
    let w = lines_within bs in (
      omega (arith, ap (λ (u : Totals). u.lines) e),
      omega (arith, ap (λ (u : Totals). u.symbols) e, symbols_bytes (lines_of bs)),
      omega (arith, ap (λ (u : Totals). u.refused) e, refused_lines (lines_of bs)),
    )
