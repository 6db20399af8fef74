-- Pieces written one after the other.
use Prim.Native.Nat.{ℕ, ◌+◌, ◌≤◌}
use mathlib.Core.List.{List, [], ◌++◌}
use mathlib.Core.Path.{◌≡◌, refl, ap, ◌∙◌}
use native.Mathlib.Omega.{arith}
use lib.ListN.{length, length-append, length-replicate}
use lib.Seq.{sets}
use Rattle.output.proofs.Writing.{sets_append}
use Rattle.phrases.specs.declared.Line.{Line}
use Rattle.phrases.specs.Wrote.{with_bytes, Wrote}

pub bytes_then : (out : List ℕ) (at next : ℕ) (a b : List ℕ) → next ≡ at + length a → with_bytes (with_bytes out at a) next b ≡ with_bytes out at (a ++ b)
unfolding with_bytes
bytes_then out at next a b e = ap (λ (i : ℕ). sets (sets out at a) i b) e ∙ sets_append out at a b

pub no_bytes : (out : List ℕ) (at : ℕ) → with_bytes out at [] ≡ out
unfolding with_bytes
no_bytes out at = refl

-- what proves that pieces written one after the other are their bytes together
pub ruleset pieces = (arith, bytes_then, no_bytes, length-append, length-replicate)

-- the same, one piece after another
pub wrote_then : {m n : ℕ} {a b : List ℕ} {old mid new : Line} → Wrote m old a mid → Wrote n mid b new → Wrote (m + n) old (a ++ b) new
wrote_then h k = record { ends = grind pieces; writes = grind pieces; short = grind pieces; same_room = grind pieces; same_output = grind pieces }

-- the line afterwards, as a whole
pub wrote_is : {m : ℕ} {a : List ℕ} {old new : Line} → Wrote m old a new → new ≡ record { out = record old.out { now = with_bytes old.out.now old.length a }; length = old.length + length a }
wrote_is {old = old} h =
    let out = h.same_output ∙ ap (λ (bytes : List ℕ). record old.out { now = bytes }) h.writes in
    λ i. record { out = out i; length = h.ends i }

-- the same bytes by another name, or within another bound
pub wrote_as : {m n : ℕ} {a b : List ℕ} {old new : Line} → a ≡ b → m ≤ n → Wrote m old a new → Wrote n old b new
wrote_as {a = a} {b = b} {old = old} e l h = record {
  ends = h.ends ∙ ap (λ (s : List ℕ). old.length + length s) e;
  writes = h.writes ∙ ap (with_bytes old.out.now old.length) e;
  short = omega (arith, h.short, ap length e);
  same_room = h.same_room;
  same_output = h.same_output;
}
