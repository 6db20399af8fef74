-- What is shown of each byte, computed once, and of texts by their bytes. A shown text is read back from its front.
use Prim.Native.Nat.{ℕ, ◌+◌, ◌-◌, ◌*◌, ◌<◌}
use mathlib.Core.Bool.{Bool, true, false, So, and-eq-true_iff}
use mathlib.Core.List.Memᴰ
use mathlib.Core.List.{List, [], ◌∷◌, ◌++◌}
use mathlib.Core.Path.{◌≡◌, refl, sym, ap, ap₂, ◌∙◌}
use native.Mathlib.Omega.{arith}
use borrow.Author.Tests.{eqb-true, ltb-true}
use lib.Dec.{eqb, ltb}
use lib.ListN.{length, get_or, drop, length-append}
use lib.Seq.{drop-append_seam}
use Rattle.laws.specs.Bytes.{every}
use Rattle.laws.specs.Listed.{listed}
use Rattle.laws.proofs.Lists.{every_in}
use Rattle.laws.proofs.Listed.{in_listed}
use Rattle.listing.specs.Escapes.{backslash, hex_digit, shown_byte, shown_text}
use Rattle.listing.specs.Theorems.{is_printable, ShownPrintable, ShownApart}

each_byte : (p : ℕ → Bool) → So (every p (listed (λ (i : ℕ). i) 0 256)) → (byte : ℕ) → byte < 256 → So (p byte)
each_byte p h byte small = (every_in p (listed (λ (i : ℕ). i) 0 256)).0 h byte ((in_listed (λ (i : ℕ). i) 256 0).1 (byte, omega arith, omega arith, refl))

bytes_printable : So (every (λ (b : ℕ). every is_printable (shown_byte b)) (listed (λ (i : ℕ). i) 0 256))
unfolding every listed hex_digit shown_byte
bytes_printable = refl

every_both : (p : ℕ → Bool) (s t : List ℕ) → So (every p s) → So (every p t) → So (every p (s ++ t))
unfolding every
every_both p [] t h k = k
every_both p (b ∷ s) t h k =
    let both = (and-eq-true_iff (p b) (every p s)).0 h in
    (and-eq-true_iff (p b) (every p (s ++ t))).1 (both.0, every_both p s t both.1 k)

pub shown_printable : ShownPrintable
unfolding shown_text every
shown_printable [] h = refl
shown_printable (b ∷ text) h =
    every_both is_printable (shown_byte b) (shown_text text)
    (each_byte (λ (b : ℕ). every is_printable (shown_byte b)) bytes_printable b (h b (Memᴰ.head refl)))
    (shown_printable text (λ c m. h c (Memᴰ.tail m)))

-- the value of a digit, and the byte at the front of a shown text
abbrev digit_value : ℕ → ℕ
digit_value d = elim (ltb d 0x61) [ true ↦ d - 0x30 | false ↦ d - 0x61 + 10 ]

abbrev front_byte : List ℕ → ℕ
front_byte s = elim (eqb (get_or s 0 0) backslash) [ true ↦ digit_value (get_or s 2 0) * 16 + digit_value (get_or s 3 0) | false ↦ get_or s 0 0 ]

module _ (rest : List ℕ) where
  fronts : So (every (λ (b : ℕ). eqb (front_byte (shown_byte b ++ rest)) b) (listed (λ (i : ℕ). i) 0 256))
  unfolding every listed hex_digit shown_byte
  fronts = refl

  front : (b : ℕ) → b < 256 → front_byte (shown_byte b ++ rest) ≡ b
  front b small = eqb-true _ _ (each_byte (λ (b : ℕ). eqb (front_byte (shown_byte b ++ rest)) b) fronts b small)

some_shown : So (every (λ (b : ℕ). ltb 0 (length (shown_byte b))) (listed (λ (i : ℕ). i) 0 256))
unfolding every listed hex_digit shown_byte
some_shown = refl

not_nothing : (b : ℕ) (text : List ℕ) → b < 256 → [] ≡ shown_byte b ++ shown_text text → ⊥
not_nothing b text small e =
    omega (arith, ap length e, length-append (shown_byte b) (shown_text text), ltb-true 0 (length (shown_byte b)) (each_byte (λ (b : ℕ). ltb 0 (length (shown_byte b))) some_shown b small))

pub shown_apart : ShownApart
unfolding shown_text
shown_apart [] [] h k e = refl
shown_apart [] (c ∷ t) h k e = absurd (not_nothing c t (k c (Memᴰ.head refl)) e)
shown_apart (b ∷ s) [] h k e = absurd (not_nothing b s (h b (Memᴰ.head refl)) (sym e))
shown_apart (b ∷ s) (c ∷ t) h k e =
    let same : b ≡ c = sym (front (shown_text s) b (h b (Memᴰ.head refl))) ∙ ap front_byte e ∙ front (shown_text t) c (k c (Memᴰ.head refl)) in
    let rests : shown_text s ≡ shown_text t =
    sym (drop-append_seam (shown_byte b) (shown_text s))
    ∙ ap (drop (length (shown_byte b))) (e ∙ ap (λ (x : ℕ). shown_byte x ++ shown_text t) (sym same))
    ∙ drop-append_seam (shown_byte b) (shown_text t) in
    ap₂ ◌∷◌ same (shown_apart s t (λ x m. h x (Memᴰ.tail m)) (λ x m. k x (Memᴰ.tail m)) rests)
