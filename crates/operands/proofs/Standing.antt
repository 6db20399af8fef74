-- Bytes that stand one after the other.
use Prim.Native.Nat.{ℕ, ◌+◌, ◌≤◌}
use mathlib.Core.List.{List, ◌++◌}
use mathlib.Core.Path.{◌≡◌, refl, sym, ap, ap₂, ◌∙◌}
use native.Mathlib.Omega.{arith}
use lib.ListN.{length, take, drop, length-append, length-drop}
use lib.Seq.{take_at, drop_at, take-add, drop-drop, length-take-le}
use Rattle.read.specs.declared.CodeOffset.{CodeOffset}
use Rattle.read.specs.Reads.{bytes_at, after}
use Rattle.operands.specs.Pictures.{Stand}

-- the bytes that are there stand
pub stand_here : (code : List ℕ) (n : ℕ) (at : CodeOffset) → at.0 + n ≤ length code → (length (bytes_at n code at.0) ≡ n) × Stand code at (bytes_at n code at.0)
stand_here code n at h =
    let all : length (bytes_at n code at.0) ≡ n = length-take-le n (drop at.0 code) (rw length-drop (omega arith)) in
    (all, record { within = rw all h; there = ap (λ (k : ℕ). bytes_at k code at.0) all })

module _ (code : List ℕ) (at : CodeOffset) (first rest : List ℕ) where
  joined_bytes : bytes_at (length first + length rest) code at.0 ≡ bytes_at (length first) code at.0 ++ bytes_at (length rest) code (at.0 + length first)
  joined_bytes = take-add (length first) (length rest) (drop at.0 code) ∙ ap (λ (l : List ℕ). bytes_at (length first) code at.0 ++ take (length rest) l) (drop-drop (length first) at.0 code)

  pub stand_join : Stand code at first → Stand code (after (length first) at) rest → Stand code at (first ++ rest)
  stand_join f r =
      let w = r.within in
      record {
        within = rw (length-append first rest) (omega arith);
        there = rw (length-append first rest) (joined_bytes ∙ ap₂ ◌++◌ f.there r.there);
      }

  pub stand_part : Stand code at (first ++ rest) → Stand code at first × Stand code (after (length first) at) rest
  stand_part s = (record { within = omega (arith, fits); there = sym front }, record { within = omega (arith, fits); there = sym back })
    where
      fits : at.0 + (length first + length rest) ≤ length code
      fits = rw (sym (length-append first rest)) s.within

      whole : first ++ rest ≡ bytes_at (length first) code at.0 ++ bytes_at (length rest) code (at.0 + length first)
      whole = sym (ap (λ (n : ℕ). bytes_at n code at.0) (sym (length-append first rest)) ∙ s.there) ∙ joined_bytes

      long : length (bytes_at (length first) code at.0) ≡ length first
      long = length-take-le (length first) (drop at.0 code) (rw length-drop (omega (arith, fits)))

      front : first ≡ bytes_at (length first) code at.0
      front = sym (take_at first _ _ refl) ∙ ap (take (length first)) whole ∙ take_at (bytes_at (length first) code at.0) _ _ long

      back : rest ≡ bytes_at (length rest) code (at.0 + length first)
      back = sym (drop_at first _ _ refl) ∙ ap (drop (length first)) whole ∙ drop_at (bytes_at (length first) code at.0) _ _ long
