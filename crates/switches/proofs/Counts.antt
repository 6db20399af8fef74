-- The number of a table's entries, as signed numbers and as the code counts them.
use Prim.Native.Nat.{ℕ, zero, suc, ◌+◌, ◌-◌, ◌%◌, ◌^◌, ◌≤◌, ◌<◌}
use mathlib.Core.Bool.{Bool, true, false}
use mathlib.Core.Path.{◌≡◌, refl, sym, ap, ap₂, ◌∙◌}
use native.Mathlib.Omega.{arith}
use borrow.Author.Tests.{lt-ltb, le-ltb, le-leb, lt-leb, ltb-true, ltb-false, leb-true, leb-false}
use lib.Dec.{ltb, leb}
use lib.IntN.{ℤ, pos, negsuc, neg_ℤ, ◌+ℤ◌, ◌-ℤ◌, neg_ℤ-+ℤ, neg_ℤ-neg_ℤ, +ℤ_assoc, +ℤ_comm, +ℤ_invl, +ℤ_idl, pos-+ℤ-pos}
use Rattle.std.specs.Prelude.{Some, None}
use Rattle.operands.specs.Signed.{signed_in, signed_of, word_of}
use Rattle.operands.proofs.Signed.{below_zero, signed_low, signed_high}
use Rattle.switches.specs.Switches.{most_entries, count_of, entry_count}

-- a difference of two naturals that is not below zero
above_zero : (a b : ℕ) → b ≤ a → pos a -ℤ pos b ≡ pos (a - b)
above_zero a zero h = ap pos (omega arith)
above_zero a (suc b) h = rw (le-ltb _ _ h)

cancel : (a b h : ℤ) → (a -ℤ h) -ℤ (b -ℤ h) ≡ a -ℤ b
cancel a b h = ap (λ (x : ℤ). (a -ℤ h) +ℤ x) (neg_ℤ-+ℤ b (neg_ℤ h) ∙ ap (λ (x : ℤ). neg_ℤ b +ℤ x) (neg_ℤ-neg_ℤ h) ∙ +ℤ_comm (neg_ℤ b) h) ∙ +ℤ_assoc a (neg_ℤ h) (h +ℤ neg_ℤ b) ∙ ap (λ (x : ℤ). a +ℤ x) (sym (+ℤ_assoc (neg_ℤ h) h (neg_ℤ b)) ∙ ap (λ (x : ℤ). x +ℤ neg_ℤ b) (+ℤ_invl h) ∙ +ℤ_idl (neg_ℤ b))

-- a word, moved up by half its range
signed_lifted : (w : ℕ) → w < 2 ^ 32 → signed_of w ≡ pos ((w + 2 ^ 31) % 2 ^ 32) -ℤ pos (2 ^ 31)
signed_lifted w h = go (ltb w (2 ^ 31)) refl
  where
    go : (t : Bool) → ltb w (2 ^ 31) ≡ t → signed_of w ≡ pos ((w + 2 ^ 31) % 2 ^ 32) -ℤ pos (2 ^ 31)
    go true e =
        let low : w < 2 ^ 31 = ltb-true _ _ e in
        signed_low 4 w low ∙ ap pos (omega arith) ∙ sym (above_zero ((w + 2 ^ 31) % 2 ^ 32) (2 ^ 31) (omega arith))
    go false e =
        let high : 2 ^ 31 ≤ w = ltb-false _ _ e in
        signed_high 4 w high h ∙ ap negsuc (omega arith) ∙ sym (below_zero ((w + 2 ^ 31) % 2 ^ 32) (2 ^ 31) (omega arith))

pub count_within : (above : ℕ) → above + 1 ≤ most_entries → count_of (pos above) ≡ Some (above + 1)
unfolding count_of
count_within above h = rw (le-leb _ _ h, count_of)

pub count_over : (above : ℕ) → most_entries < above + 1 → count_of (pos above) ≡ None
unfolding count_of
count_over above h = rw (lt-leb _ _ h, count_of)

pub count_below : (below : ℕ) → count_of (negsuc below) ≡ None
unfolding count_of
count_below below = refl

-- one more than a number below zero is at most 0
none_below : (below n : ℕ) → negsuc below +ℤ pos 1 ≡ pos n → n ≡ 0
none_below zero n e = cc
none_below (suc below) n e =
    let less : 1 < suc (suc below) = omega arith in
    absurd (let z = rw (lt-ltb _ _ less) at e in cc)

one_more : (above n : ℕ) → pos above +ℤ pos 1 ≡ pos n → above + 1 ≡ n
one_more above n e = let same : pos (above + 1) ≡ pos n = sym (pos-+ℤ-pos above 1) ∙ e in cc

-- the code's count, from the lifted words
module _ (low high bottom top : ℕ) (l : low < 2 ^ 32) (h : high < 2 ^ 32) (b : bottom ≡ (low + 2 ^ 31) % 2 ^ 32) (t : top ≡ (high + 2 ^ 31) % 2 ^ 32) where
  difference : signed_of high -ℤ signed_of low ≡ pos top -ℤ pos bottom
  difference =
      ap₂ ◌-ℤ◌ (signed_lifted high h) (signed_lifted low l)
      ∙ cancel (pos ((high + 2 ^ 31) % 2 ^ 32)) (pos ((low + 2 ^ 31) % 2 ^ 32)) (pos (2 ^ 31))
      ∙ sym (ap₂ (λ (x y : ℕ). pos x -ℤ pos y) t b)

  pub bounds_crossed : top < bottom → None ≡ entry_count low high
  bounds_crossed c = sym (ap count_of (difference ∙ below_zero top bottom c) ∙ count_below (bottom - suc top))

  as_plain : bottom ≤ top → entry_count low high ≡ count_of (pos (top - bottom))
  as_plain c = ap count_of (difference ∙ above_zero top bottom c)

  pub too_many : bottom ≤ top → most_entries ≤ top - bottom → None ≡ entry_count low high
  too_many c m = sym (as_plain c ∙ count_over (top - bottom) (omega arith))

  pub counted : bottom ≤ top → top - bottom < most_entries → Some (top - bottom + 1) ≡ entry_count low high
  counted c m = sym (as_plain c ∙ count_within (top - bottom) (omega arith))

-- a number of entries, and what it counts
same_count : {n m : ℕ} → Some n ≡ Some m → n ≡ m
same_count e = cc

pub counts : (z : ℤ) (n : ℕ) → count_of z ≡ Some n → (z +ℤ pos 1 ≡ pos n) × (1 ≤ n) × (n ≤ most_entries)
counts (negsuc below) n e = absurd (let z : None ≡ Some n = sym (count_below below) ∙ e in cc)
counts (pos above) n e = go (leb (above + 1) most_entries) refl
  where
    go : (t : Bool) → leb (above + 1) most_entries ≡ t → (pos above +ℤ pos 1 ≡ pos n) × (1 ≤ n) × (n ≤ most_entries)
    go true q =
        let few : above + 1 ≤ most_entries = leb-true _ _ q in
        let same : above + 1 ≡ n = same_count (sym (count_within above few) ∙ e) in
        (pos-+ℤ-pos above 1 ∙ ap pos same, omega arith, omega arith)
    go false q = absurd (let z : None ≡ Some n = sym (count_over above (leb-false _ _ q)) ∙ e in cc)

pub counts_as : (z : ℤ) (n : ℕ) → z +ℤ pos 1 ≡ pos n → 1 ≤ n → n ≤ most_entries → count_of z ≡ Some n
counts_as (pos above) n e some few =
    let same : above + 1 ≡ n = one_more above n e in
    count_within above (omega arith) ∙ ap (λ (k : ℕ). Some k) same
counts_as (negsuc below) n e some few = absurd (let none : n ≡ 0 = none_below below n e in omega arith)

-- and one that is too many
pub counts_over : (z : ℤ) (n : ℕ) → z +ℤ pos 1 ≡ pos n → most_entries < n → count_of z ≡ None
counts_over (pos above) n e over = let same : above + 1 ≡ n = one_more above n e in count_over above (omega arith)
counts_over (negsuc below) n e over = count_below below

-- the word that stores a signed number and so many more
high_word : (word : ℕ) → 2 ^ 31 ≤ word → signed_of word ≡ pos word -ℤ pos (2 ^ 32)
unfolding signed_in
high_word word h = rw (le-ltb _ _ h, signed_in)

pub word_further : (word i : ℕ) → (word + i) % 2 ^ 32 ≡ word_of (signed_of word +ℤ pos i)
word_further word i = go (ltb word (2 ^ 31)) refl
  where
    moved : (pos word -ℤ pos (2 ^ 32)) +ℤ pos i ≡ pos (word + i) -ℤ pos (2 ^ 32)
    moved =
        +ℤ_assoc (pos word) (neg_ℤ (pos (2 ^ 32))) (pos i)
        ∙ ap (λ (z : ℤ). pos word +ℤ z) (+ℤ_comm (neg_ℤ (pos (2 ^ 32))) (pos i))
        ∙ sym (+ℤ_assoc (pos word) (pos i) (neg_ℤ (pos (2 ^ 32))))
        ∙ ap (λ (z : ℤ). z -ℤ pos (2 ^ 32)) (pos-+ℤ-pos word i)

    high : (t : Bool) → ltb (word + i) (2 ^ 32) ≡ t → (word + i) % 2 ^ 32 ≡ word_of (pos (word + i) -ℤ pos (2 ^ 32))
    high true e =
        let below : word + i < 2 ^ 32 = ltb-true _ _ e in
        sym (ap word_of (below_zero (word + i) (2 ^ 32) below) ∙ omega arith)
    high false e =
        let above : 2 ^ 32 ≤ word + i = ltb-false _ _ e in
        sym (ap word_of (above_zero (word + i) (2 ^ 32) above) ∙ omega arith)

    go : (t : Bool) → ltb word (2 ^ 31) ≡ t → (word + i) % 2 ^ 32 ≡ word_of (signed_of word +ℤ pos i)
    go true e = sym (ap (λ (z : ℤ). word_of (z +ℤ pos i)) (signed_low 4 word (ltb-true _ _ e)) ∙ ap word_of (pos-+ℤ-pos word i))
    go false e =
        let top : 2 ^ 31 ≤ word = ltb-false _ _ e in
        high (ltb (word + i) (2 ^ 32)) refl ∙ sym (ap word_of (ap (λ (z : ℤ). z +ℤ pos i) (high_word word top) ∙ moved))
