-- What is told of an image's layout, and which image is laid out, exclude each other. Assumes nothing.
use Rattle.std.proofs.Common.{◌≡◌, ℕ, ◌<◌, ◌≤◌, ◌⊎◌, List, [], ◌∷◌, length, ℤ, pos, sym, ap, ◌∙◌, subst, inl, inr, arith}
use Rattle.input.specs.declared.fault.Notice.{Notice}
use Rattle.table.specs.declared.sections.Form.{Form}
use Rattle.table.specs.Layout.{Holds, Early, Outside, Unheld, Laid, Broken, number, past}
use Rattle.table.specs.Spans.{forms}

module _ (image : List ℤ) where
  holds_one : (at : ℕ) (f : Form) (n m : ℕ) → Holds image at f n → Holds image at f m → n ≡ m
  holds_one at f n m h k = cc

  holds_unheld : (at : ℕ) (f : Form) (n : ℕ) (t : Notice) → Holds image at f n → Unheld image at f t → ⊥
  holds_unheld at f n t h (inl e) = go e.cut
    where
      go : (length image ≤ at) ⊎ ((m : ℕ) × (number image at ≡ pos m) × (f.least ≤ m) × (m ≤ f.most) × (length image < past at f m)) → ⊥
      go (inl l) = omega (arith, l, h.there)
      go (inr (m, c, a, b, short)) = let s : pos n ≡ pos m = sym h.count ∙ c in let e : n ≡ m = cc in omega (arith, short, h.whole, ap (past at f) e)
  holds_unheld at f n t h (inr o) = o.outside n h.count h.least h.most

  early_outside : (at : ℕ) (f : Form) (t u : Notice) → Early image at f t → Outside image at f u → ⊥
  early_outside at f t u e o = go e.cut
    where
      go : (length image ≤ at) ⊎ ((m : ℕ) × (number image at ≡ pos m) × (f.least ≤ m) × (m ≤ f.most) × (length image < past at f m)) → ⊥
      go (inl l) = omega (arith, l, o.there)
      go (inr (m, c, a, b, short)) = o.outside m c a b

  unheld_one : (at : ℕ) (f : Form) (t u : Notice) → Unheld image at f t → Unheld image at f u → t ≡ u
  unheld_one at f t u (inl a) (inl b) = a.tells ∙ sym b.tells
  unheld_one at f t u (inr a) (inr b) = a.tells ∙ sym b.tells
  unheld_one at f t u (inl a) (inr b) = absurd (early_outside at f t u a b)
  unheld_one at f t u (inr a) (inl b) = absurd (early_outside at f u t b a)

  broken_laid : (fs : List Form) (at : ℕ) (ns : List ℕ) (t : Notice) → Broken fs image at t → Laid fs image at ns → ⊥
  broken_laid [] at [] t b l = omega (arith, b.0, l)
  broken_laid [] at (n ∷ ns) t b l = l
  broken_laid (f ∷ fs) at [] t b l = l
  broken_laid (f ∷ fs) at (n ∷ ns) t (inl u) l = holds_unheld at f n t l.0 u
  broken_laid (f ∷ fs) at (n ∷ ns) t (inr (m, h, b)) l =
      broken_laid fs (past at f n) ns t (subst (λ (k : ℕ). Broken fs image (past at f k) t) (holds_one at f m n h l.0) b) l.1

  broken_one : (fs : List Form) (at : ℕ) (t u : Notice) → Broken fs image at t → Broken fs image at u → t ≡ u
  broken_one [] at t u a b = a.1 ∙ sym b.1
  broken_one (f ∷ fs) at t u (inl a) (inl b) = unheld_one at f t u a b
  broken_one (f ∷ fs) at t u (inl a) (inr (m, h, b)) = absurd (holds_unheld at f m t h a)
  broken_one (f ∷ fs) at t u (inr (m, h, a)) (inl b) = absurd (holds_unheld at f m u h b)
  broken_one (f ∷ fs) at t u (inr (m, h, a)) (inr (n, k, b)) =
      broken_one fs (past at f n) t u (subst (λ (i : ℕ). Broken fs image (past at f i) t) (holds_one at f m n h k) a) b

  pub layout_laid : (ns : List ℕ) (t : Notice) → Broken forms image 0 t → Laid forms image 0 ns → ⊥
  layout_laid ns t b l = broken_laid forms 0 ns t b l

  pub layout_one : (t u : Notice) → Broken forms image 0 t → Broken forms image 0 u → t ≡ u
  layout_one t u a b = broken_one forms 0 t u a b
