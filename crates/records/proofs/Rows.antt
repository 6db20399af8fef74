-- A store as rows of so many words, and a row written into it.
use Prim.Native.Nat.{ℕ, zero, suc, ◌+◌, ◌*◌, ◌<◌}
use mathlib.Core.List.{List}
use mathlib.Core.Path.{◌≡◌, refl, ap, ◌∙◌}
use native.Mathlib.Omega.{arith}
use lib.ListN.{length, get_or, drop}
use Rattle.std.proofs.lemmas.List.{get_or-take, get_or-drop}
use Rattle.std.specs.Simd.{first_chunks}

pub length_rows : (n k : ℕ) (words : List ℕ) → length (first_chunks n k words) ≡ k
length_rows n zero words = refl
length_rows n (suc k) words = ap suc (length_rows n k (drop n words))

-- word j of row i
pub word_of_row : (n k : ℕ) (words : List ℕ) (i j : ℕ) (d : List ℕ) → i < k → j < n → get_or (get_or (first_chunks n k words) i d) j 0 ≡ get_or words (i * n + j) 0
word_of_row n zero words i j d h l = absurd (omega arith)
word_of_row n (suc k) words zero j d h l =
    let same : 0 * n + j ≡ j = omega arith in
    rw same (get_or-take n words j 0 l)
word_of_row n (suc k) words (suc i) j d h l =
    let same : n + (i * n + j) ≡ suc i * n + j = omega arith in
    word_of_row n k (drop n words) i j d (omega arith) l ∙ get_or-drop n words (i * n + j) 0 ∙ ap (λ m. get_or words m 0) same
