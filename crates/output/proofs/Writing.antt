-- Runs of bytes written one after the other, and what a writing answers and leaves.
use Prim.Native.Nat.{ℕ, suc, ◌+◌, ◌-◌, ◌≤◌, ◌<◌}
use mathlib.Core.List.{List, [], ◌∷◌, ◌++◌}
use mathlib.Core.Path.{◌≡◌, sym, ap, ◌∙◌}
use native.Mathlib.Nat.{add-zero, add-suc, suc-add, zero-add}
use native.Mathlib.Numerals.{add-one}
use native.Mathlib.Omega.{arith}
use borrow.Author.Tests.{le-leb, lt-leb}
use lib.ListN.{length-take, length-drop, length, get_or, take, drop, set}
use borrow.Rule.Slice.PartMut.{put_mid}
use lib.Seq.{drop-drop, sets, sets-eq, take-suc, length-take-le}
use Rattle.std.specs.Prelude.{Ok, Err, IsErrAnd}
use Rattle.std.proofs.lemmas.Result.{err_from_is_err_and}
use Rattle.std.proofs.Common.{append_assoc}
use Rattle.refusals.specs.declared.Reason.TheVariants as reason
use Rattle.refusals.specs.declared.Refusal.{Refusal}
use Rattle.refusals.specs.Numbers.{refused}
use Rattle.output.specs.Output.{Output, writing, output_after}

-- two runs, the second where the first ends, are one
pub sets_append : (l : List ℕ) (i : ℕ) (a b : List ℕ) → sets (sets l i a) (i + length a) b ≡ sets l i (a ++ b)
sets_append l i [] b = ap (λ (k : ℕ). sets l k b) (add-zero i)
sets_append l i (x ∷ a) b =
    ap (λ (k : ℕ). sets (sets (set l i x) (suc i) a) k b) (add-suc i (length a) ∙ sym (suc-add i (length a))) ∙ sets_append (set l i x) (suc i) a b

pub sets_more : (l : List ℕ) (at n b : ℕ) (a : List ℕ) → length a ≡ n → set (sets l at a) (at + n) b ≡ sets l at (a ++ b ∷ [])
sets_more l at n b a e = rw (← e) (sets_append l at a (b ∷ []))

-- a byte more, in an output that has the bytes before it
pub copy_more : (l out : List ℕ) (at i : ℕ) (s : List ℕ) → i < length s → out ≡ sets l at (take i s) → set out (at + i) (get_or s i 0) ≡ sets l at (take (i + 1) s)
copy_more l out at i s h e = rw (e, add-one) (sets_more l at i (get_or s i 0) (take i s) (length-take-le i s (omega arith)) ∙ ap (sets l at) (sym (take-suc s i 0 h)))

-- a run written at the front, and what stands past it
pub sets_front : (l a : List ℕ) → length a ≤ length l → sets l 0 a ≡ a ++ drop (length a) l
sets_front l a h = sets-eq a l 0 (omega arith) ∙ ap (λ (i : ℕ). a ++ drop i l) (zero-add (length a))

module _ (bytes : List ℕ) (room : ℕ) where
  pub writing_fits : length bytes ≤ room → writing bytes room ≡ Ok (length bytes)
  unfolding writing
  writing_fits h = rw (le-leb _ _ h, writing)

  pub writing_too_short : room < length bytes → writing bytes room ≡ Err (refused reason.TooShort 0)
  unfolding writing
  writing_too_short h = rw (lt-leb _ _ h, writing)

module _ (answer : Output) (bytes out : List ℕ) where
  -- the ends of an entry: its answer and its output, where the answer is known
  pub refused_after : (r : Refusal ℕ) → answer ≡ Err r → (Err r ≡ answer) × (out ≡ output_after answer bytes out)
  unfolding output_after
  refused_after r e = (sym e, sym (ap (λ (a : Output). output_after a bytes out) e))

  -- the same where a `?` ends it
  pub passed_on : (returned : Output) (r : Refusal ℕ) → IsErrAnd returned (λ (e : Refusal ℕ). e ≡ r) → answer ≡ Err r → (returned ≡ answer) × (out ≡ output_after answer bytes out)
  passed_on returned r is e =
      let after = refused_after r e in
      let was = err_from_is_err_and returned is in
      (was.1 ∙ ap Err was.2 ∙ after.0, after.1)

  pub written_after : (last : List ℕ) (n : ℕ) → answer ≡ Ok n → n ≡ length bytes → n ≤ length out → last ≡ sets out 0 bytes → (Ok n ≡ answer) × (last ≡ output_after answer bytes out)
  unfolding output_after
  written_after last n e long fits q =
      (sym e, q ∙ sets_front out bytes (omega arith) ∙ ap (λ (i : ℕ). bytes ++ drop i out) (sym long) ∙ sym (ap (λ (a : Output). output_after a bytes out) e))

-- a part of the output replaced as a whole
pub part_replaced : (at k : ℕ) (out part bytes : List ℕ) → at + k ≤ length out → k ≡ length bytes → part ≡ bytes → put_mid at k out part ≡ sets out at bytes
part_replaced at k out part bytes fits long same =
    ap (λ (l : List ℕ). take at out ++ (l ++ drop k (drop at out))) same
    ∙ ap (λ (l : List ℕ). take at out ++ (bytes ++ l)) (drop-drop k at out ∙ ap (λ (m : ℕ). drop (at + m) out) long)
    ∙ sym (append_assoc (take at out) bytes (drop (at + length bytes) out))
    ∙ sym (sets-eq bytes out at (omega arith))

pub length_part : (at n : ℕ) (out : List ℕ) → at + n ≤ length out → length (take (at + n - at) (drop at out)) ≡ n
length_part at n out fits = omega (arith, length-take (at + n - at) (drop at out), length-drop at out)
