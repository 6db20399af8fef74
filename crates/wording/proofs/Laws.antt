-- A text, or another where it is empty.
use Prim.Native.Nat.{ℕ, ◌<◌}
use mathlib.Core.List.{List, [], ◌∷◌, ◌++◌}
use mathlib.Core.Path.{◌≡◌, refl}
use native.Mathlib.Omega.{arith}
use lib.ListN.{length}
use Rattle.phrases.specs.declared.Line.{Line}
use Rattle.phrases.specs.Wrote.{Wrote}
use Rattle.phrases.proofs.Wrote.{pieces}
use Rattle.wording.specs.Names.{or_else}

pub no_text : (text other : List ℕ) → length text ≡ 0 → or_else text other ≡ text ++ other
unfolding or_else
no_text [] other h = refl
no_text (b ∷ text) other h = absurd (omega arith)

pub some_text : (text other : List ℕ) → 0 < length text → or_else text other ≡ text
unfolding or_else
some_text [] other h = absurd (omega arith)
some_text (b ∷ text) other h = refl

-- another text written where one left the line as long as it was
pub wrote_other :
    {m n : ℕ} {text other : List ℕ} {old mid new : Line} → Wrote m old text mid → mid.length ≡ old.length → Wrote n mid other new
    → Wrote n old (or_else text other) new
wrote_other {text = text} {other = other} {old = old} {mid = mid} h e k =
    let none : length text ≡ 0 = omega (arith, h.ends) in
    let is : or_else text other ≡ text ++ other = no_text text other none in
    record { ends = grind pieces; writes = grind pieces; short = grind pieces; same_room = grind pieces; same_output = grind pieces }
