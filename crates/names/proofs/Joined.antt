-- A text is names with a / between each two in one way.
use Prim.Native.Nat.{ℕ}
use mathlib.Core.HLevel.{⊥_prop, Π_prop, hedberg}
use mathlib.Core.List.Memᴰ
use mathlib.Core.List.{List, [], ◌∷◌, ◌++◌, List-discrete, head-eq_of_cons-eq, tail-eq_of_cons-eq}
use mathlib.Core.Path.{◌≡◌, refl, sym, ap, ap₂, ◌∙◌, path_j}
use native.Mathlib.Bridge.{le_prop}
use native.Mathlib.Decide.{ℕ_discrete}
use Rattle.laws.specs.Bytes.{byte, In}
use Rattle.names.specs.Rules.{Name, Joined}

pub text_set : IsSet (List ℕ)
text_set = hedberg (List-discrete ℕ_discrete)

pub name_prop : (barred s : List ℕ) → IsProp (Name barred s)
name_prop barred s n m = λ i. record { some = le_prop n.some m.some i; none = Π_prop (λ b. Π_prop (λ x. Π_prop (λ y. ⊥_prop))) n.none m.none i }

-- a byte that stands in neither of two beginnings parts both alike
pub split_once : (c : ℕ) (w v : List ℕ) {t u : List ℕ} → (In c w → ⊥) → (In c v → ⊥) → w ++ c ∷ t ≡ v ++ c ∷ u → (w ≡ v) × (t ≡ u)
split_once c [] [] p q e = (refl, tail-eq_of_cons-eq e)
split_once c [] (d ∷ v) p q e = absurd (q (Memᴰ.head (head-eq_of_cons-eq e)))
split_once c (b ∷ w) [] p q e = absurd (p (Memᴰ.head (sym (head-eq_of_cons-eq e))))
split_once c (b ∷ w) (d ∷ v) p q e =
    let rest = split_once c w v (λ m. p (Memᴰ.tail m)) (λ m. q (Memᴰ.tail m)) (tail-eq_of_cons-eq e) in
    (ap₂ ◌∷◌ (head-eq_of_cons-eq e) rest.0, rest.1)

module _ (barred : List ℕ) (slash : In (byte "/") barred) where
  no_slash : {s : List ℕ} → Name barred s → In (byte "/") s → ⊥
  no_slash n m = n.none (byte "/") m slash

  in_split : {s : List ℕ} (w t : List ℕ) → s ≡ w ++ byte "/" ∷ t → In (byte "/") s
  in_split w t e = rw e (Memᴰ.append_right w (Memᴰ.head refl))

  same_more :
      {s w v t u : List ℕ} → w ≡ v → t ≡ u → (n : Name barred w) (m : Name barred v) (c : Joined barred t) (d : Joined barred u)
      (e : s ≡ w ++ byte "/" ∷ t) (f : s ≡ v ++ byte "/" ∷ u) → ((x : Joined barred t) → c ≡ x) → Joined.more n c e ≡ Joined.more m d f
  same_more {s} {w} {v} {t} {u} p q n m c d e f same =
      path_j (λ v p. (m : Name barred v) (f : s ≡ v ++ byte "/" ∷ u) → Joined.more n c e ≡ Joined.more m d f)
      (λ m f. path_j (λ u q. (d : Joined barred u) (f : s ≡ w ++ byte "/" ∷ u) → Joined.more n c e ≡ Joined.more m d f) (λ d f. at m d f) q d f)
      p m f
    where
      at : (m : Name barred w) (d : Joined barred t) (f : s ≡ w ++ byte "/" ∷ t) → Joined.more n c e ≡ Joined.more m d f
      at m d f = λ i. Joined.more (name_prop barred w n m i) (same d i) (text_set s (w ++ byte "/" ∷ t) e f i)

  pub joined_prop : {s : List ℕ} (c d : Joined barred s) → c ≡ d
  joined_prop (Joined.last n) (Joined.last m) = ap Joined.last (name_prop barred _ n m)
  joined_prop (Joined.last n) (Joined.more {w = w} {t = t} m d e) = absurd (no_slash n (in_split w t e))
  joined_prop (Joined.more {w = w} {t = t} n c e) (Joined.last m) = absurd (no_slash m (in_split w t e))
  joined_prop (Joined.more {w = w} n c e) (Joined.more {w = v} m d f) =
      let same = split_once (byte "/") w v (no_slash n) (no_slash m) (sym e ∙ f) in
      same_more same.0 same.1 n m c d e f (joined_prop c)
