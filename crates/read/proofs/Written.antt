-- A number's bytes and the number that bytes stand for undo each other.
use Prim.Native.Nat.{ℕ, zero, suc, ◌+◌, ◌%◌, ◌^◌, ◌≤◌, ◌<◌}
use mathlib.Core.Bool.{Bool, true, false}
use mathlib.Core.List.Memᴰ
use mathlib.Core.List.{List, [], ◌∷◌}
use mathlib.Core.Path.{◌≡◌, refl, sym, ap, ◌∙◌}
use native.Mathlib.Nat.{div-add-mod', mod-lt, pow-succ'}
use native.Mathlib.Omega.{arith}
use borrow.Author.Tests.{leb-true, leb-false}
use lib.Arith.{digits_div, digits_mod, digits_lt}
use lib.Dec.{leb}
use lib.ListN.{length, drop, length-take, length-drop}
use lib.Seq.{length-take-le}
use Rattle.laws.specs.Bytes.{AreBytes}
use Rattle.laws.proofs.Lists.{in_take, in_drop}
use Rattle.read.proofs.Laws.{read_past, read_found}
use Rattle.read.specs.Reads.{big_endian, bytes_of, bytes_at, after, Read, read_of}
use Rattle.std.specs.Prelude.{Ok, Err}
use Rattle.read.specs.Theorems.{NumberReadExactly}

pub length_bytes : (n v : ℕ) → length (bytes_of n v) ≡ n
unfolding bytes_of
length_bytes zero v = refl
length_bytes (suc n) v = ap suc (length_bytes n (v % 256 ^ n))

power_pos : (n : ℕ) → 0 < 256 ^ n
power_pos zero = omega arith
power_pos (suc n) =
    let ih = power_pos n in
    rw (pow-succ' 256 n) (omega arith)

number_of_bytes : (n v : ℕ) → v < 256 ^ n → big_endian (bytes_of n v) ≡ v
unfolding bytes_of big_endian
number_of_bytes zero v h = omega arith
number_of_bytes (suc n) v h =
    rw (length_bytes n (v % 256 ^ n), number_of_bytes n (v % 256 ^ n) (mod-lt v (power_pos n))) (div-add-mod' v (256 ^ n))

below : (s : List ℕ) → AreBytes s → big_endian s < 256 ^ length s
unfolding big_endian
below [] h = omega arith
below (b ∷ s) h = rw (pow-succ' 256 (length s)) (digits_lt (h b (Memᴰ.head refl)) (below s (λ x m. h x (Memᴰ.tail m))))

bytes_of_number : (s : List ℕ) → AreBytes s → bytes_of (length s) (big_endian s) ≡ s
unfolding bytes_of big_endian
bytes_of_number [] h = refl
bytes_of_number (b ∷ s) h =
    let rest = below s (λ x m. h x (Memᴰ.tail m)) in
    rw (digits_div b rest, digits_mod b rest, bytes_of_number s (λ x m. h x (Memᴰ.tail m)))

abbrev value_of : Read → ℕ
value_of (Ok r) = r.0
value_of (Err r) = 0

pub number_read_exactly : NumberReadExactly
number_read_exactly n code at v p bytes = (λ h. go h (leb (at.0 + n) (length code)) refl, from)
  where
    there : List ℕ
    there = bytes_at n code at.0

    there_bytes : AreBytes there
    there_bytes b m = bytes b (in_drop at.0 code (in_take n (drop at.0 code) m))

    go : read_of n code at ≡ Ok (v, after n at) → (fits : Bool) → leb (at.0 + n) (length code) ≡ fits → (v < 256 ^ n) × (there ≡ bytes_of n v)
    go h true e =
        let fits : at.0 + n ≤ length code = leb-true _ _ e in
        let all : length there ≡ n = length-take-le n (drop at.0 code) (rw length-drop (omega arith)) in
        let is : v ≡ big_endian there = ap value_of (sym h ∙ read_found n code at fits) in
        rw is (rw all at (below there there_bytes), sym (rw all at (bytes_of_number there there_bytes)))
    go h false e =
        let short : length code < at.0 + n = leb-false _ _ e in
        let z : ◌≡◌ {A = ℕ} 0 1 = cc (read_past n code at short) in
        absurd (omega arith)

    from : (v < 256 ^ n) × (there ≡ bytes_of n v) → read_of n code at ≡ Ok (v, after n at)
    from h =
        let all : length there ≡ n = ap length h.1 ∙ length_bytes n v in
        let fits : at.0 + n ≤ length code = omega (arith, simp (length-take, length-drop) at all) in
        read_found n code at fits ∙ ap (λ (x : ℕ). Ok (x, after n at)) (ap big_endian h.1 ∙ number_of_bytes n v h.0)
