-- The ways in which each check ends, as the code needs them.
use Prim.Native.Nat.{ℕ, suc, ◌+◌, ◌-◌, ◌^◌, ◌≤◌, ◌<◌}
use mathlib.Core.Bool.{true, false}
use mathlib.Core.List.{List, [], ◌∷◌}
use mathlib.Core.Path.{◌≡◌, refl, sym, ap, ap₂, subst, ◌∙◌}
use native.Mathlib.Nat.{zero-add, sub-zero}
use native.Mathlib.Omega.{arith}
use lib.IntN.{ℤ, pos, negsuc, ◌+ℤ◌}
use Rattle.laws.specs.Bytes.{one_of}
use Rattle.laws.specs.Listed.{listed}
use Rattle.laws.proofs.Listed.{map_listed, listed_next, listed_done}
use Rattle.read.specs.declared.CodeOffset.{CodeOffset}
use Rattle.records.specs.declared.Record.{Record}
use Rattle.records.specs.declared.RecordIndex.{RecordIndex}
use Rattle.records.specs.declared.SwitchEntry.{SwitchEntry}
use Rattle.records.specs.Records.{index, record_at, entry_at}
use Rattle.operands.proofs.Signed.{signed_low, signed_high}
use Rattle.lookup.specs.Lookup.{offsets_of}
use Rattle.refusals.specs.declared.Reason.TheVariants as reason
use Rattle.jumps.specs.declared.Failure.{Failure}
use Rattle.operands.specs.Signed.{signed_of}
use Rattle.std.proofs.Math.Facts.{sfits_to_z, to_z-neg}
use Rattle.std.proofs.lemmas.Bool.{cases_lt}
use Rattle.std.proofs.lemmas.Int.{ints, to_z_pos, to_z-of_z}
use Rattle.std.specs.Int.{w32, w64, cast_signed, cast_unsigned, FitsUnsigned}
use Rattle.std.specs.Int.Signed.{◌≤ℤ◌, ◌<ℤ◌}
use Rattle.std.specs.Prelude.{Some, None, Err, unsigned_abs, FitsSigned}
use mathlib.Core.Logic.{inl, inr}
use Rattle.jumps.specs.Jumps.{Jumps, placed, target_of, failure, Checked, good, and_then, jump_check, words_check, jumps_check, all_check, starts_of}
use Rattle.jumps.specs.Stored.{has_jump, stored_entries, entry_jump, stored_words, stored_jumps, jumps_in}

-- a word as the library's signed number, made as wide as an offset, and as the one on paper
module _ (jump : ℕ) (word : jump < 2 ^ 32) where
  as_signed : cast_signed w32 jump ≡ signed_of jump
  as_signed = elim (cases_lt jump (2 ^ 31)) [
    | inl low ↦ to_z_pos w32 jump low ∙ sym (signed_low 4 jump low)
    | inr high ↦
        let k : ℕ = 2 ^ 32 - suc jump in
        let same : jump ≡ 2 ^ 32 - suc k = omega arith in
        ap (cast_signed w32) same ∙ to_z-neg w32 k (omega arith) ∙ sym (signed_high 4 jump high word)
  ]

abbrev widened : ℤ → ℤ
widened z = cast_signed w64 (cast_unsigned w64 (cast_signed w32 (cast_unsigned w32 z)))

-- where a jump leads, by the library's sum
module _ (at : CodeOffset) {jump : ℕ} {distance : ℤ} (is : distance ≡ cast_signed w32 jump) (word : jump < 2 ^ 32) where
  same_distance : widened distance ≡ distance
  same_distance =
      let short : FitsSigned w32 distance = subst (FitsSigned w32) (sym is) (sfits_to_z (record { fits = word })) in
      ap (λ z. cast_signed w64 (cast_unsigned w64 z)) (to_z-of_z w32 distance short) ∙ to_z-of_z w64 distance (omega (arith, ints, short))

  sum_is : pos at.0 +ℤ widened distance ≡ target_of at jump
  sum_is = ap (λ z. pos at.0 +ℤ z) (same_distance ∙ is ∙ as_signed jump word)

  pub after_start : {to : ℕ} → FitsUnsigned w64 (pos at.0 +ℤ widened distance) → to ≡ unsigned_abs (pos at.0 +ℤ widened distance) → Some (record { 0 = to }) ≡ placed (target_of at jump)
  after_start {to} fits same = go (target_of at jump) (rw sum_is at fits.0) (same ∙ ap unsigned_abs sum_is)
    where
      go : (z : ℤ) → pos 0 ≤ℤ z → to ≡ unsigned_abs z → Some (record { 0 = to }) ≡ placed z
      go (pos t) some e = ap (λ n. Some (record { 0 = n })) e
      go (negsuc t) some e = absurd (omega (arith, ints))

  pub before_start : at.0 < 2 ^ 32 → (FitsUnsigned w64 (pos at.0 +ℤ widened distance) → ⊥) → None ≡ placed (target_of at jump)
  before_start near out = go (target_of at jump) refl
    where
      small : target_of at jump <ℤ pos (2 ^ 64)
      small = elim (cases_lt jump (2 ^ 31)) [
        | inl low ↦ let d = signed_low 4 jump low in omega (arith, ints)
        | inr high ↦ let d = signed_high 4 jump high word in omega (arith, ints)
      ]

      go : (z : ℤ) → target_of at jump ≡ z → None ≡ placed z
      go (pos t) e = absurd (out (subst (FitsUnsigned w64) (sym sum_is) (omega (arith, ints), small)))
      go (negsuc t) e = refl

-- a jump by where it leads
landing : {to : CodeOffset} (z : ℤ) → Some to ≡ placed z → z ≡ pos to.0
landing (pos t) e = cc
landing (negsuc t) e = cc

module _ (starts : List ℕ) (at : CodeOffset) (second : ℕ) (z : ℤ) where
  pub jump_lands : {to : CodeOffset} → Some to ≡ placed z → one_of starts to.0 ≡ true → good ≡ jump_check starts at second z
  unfolding jump_check
  jump_lands e found = rw (landing z e, found, jump_check)

  pub jump_nowhere : {to : CodeOffset} → Some to ≡ placed z → one_of starts to.0 ≡ false → Err (failure reason.NoTarget at second) ≡ jump_check starts at second z
  unfolding jump_check
  jump_nowhere e found = rw (landing z e, found, jump_check)

pub jump_below : (starts : List ℕ) (at : CodeOffset) (second : ℕ) (z : ℤ) → None ≡ placed z → Err (failure reason.BelowZero at second) ≡ jump_check starts at second z
unfolding jump_check
jump_below starts at second (pos t) e = cc
jump_below starts at second (negsuc t) e = refl

-- a check of a list that goes from element to element and counts them
pub record Goes {A : Type 0} (one : ℕ → A → Checked) (run : ℕ → List A → Checked) : Type 0 where
  pub none : (k : ℕ) → run k [] ≡ good
  pub more : (k : ℕ) (a : A) (l : List A) → run k (a ∷ l) ≡ and_then (one k a) (run (k + 1) l)

pub words_go : (starts : List ℕ) (at : CodeOffset) → Goes (λ (k word : ℕ). jump_check starts at k (target_of at word)) (words_check starts at)
unfolding words_check
words_go starts at = record { none = λ k. refl; more = λ k word words. refl }

pub jumps_go : (starts : List ℕ) → Goes (λ (k : ℕ) (j : Jumps). jumps_check starts j) (λ (k : ℕ). all_check starts)
unfolding all_check
jumps_go starts = record { none = λ k. refl; more = λ k j js. refl }

-- such a check as a loop over n elements, the first of which has the count k: what is left at i decides as the whole
abbrev pub Left : {A : Type 0} → (ℕ → List A → Checked) → (ℕ → A) → ℕ → ℕ → ℕ → Type 0
Left run f k n i = run (i + k) (listed f i (n - i)) ≡ run k (listed f 0 n)

module _ {A : Type 0} {one : ℕ → A → Checked} {run : ℕ → List A → Checked} (g : Goes one run) (f : ℕ → A) (k n : ℕ) where
  pub loop_starts : Left run f k n 0
  loop_starts = rw (zero-add, sub-zero)

  module _ (i : ℕ) (inv : Left run f k n i) where
    module _ {r : Checked} (h : i < n) (is : r ≡ one (i + k) (f i)) where
      step : run k (listed f 0 n) ≡ and_then r (run (i + k + 1) (listed f (i + 1) (n - (i + 1))))
      step = sym inv ∙ ap (run (i + k)) (listed_next f i n h) ∙ g.more (i + k) (f i) (listed f (i + 1) (n - (i + 1))) ∙ rw is

      pub loop_goes_on : r ≡ good → Left run f k n (i + 1)
      loop_goes_on e =
          let next : i + k + 1 ≡ i + 1 + k = omega arith in
          sym (step ∙ rw (e, next))

      pub loop_stops : {failed : Failure} → r ≡ Err failed → Err failed ≡ run k (listed f 0 n)
      loop_stops e = sym (step ∙ rw e)

    pub loop_ends : n ≤ i → good ≡ run k (listed f 0 n)
    loop_ends h = sym (g.none (i + k)) ∙ ap (run (i + k)) (sym (listed_done f i n h)) ∙ inv

-- the jump of an entry that was read
pub entry_read : (starts : List ℕ) (at : CodeOffset) (entries : List ℕ) (first : RecordIndex) (i : ℕ) {entry : SwitchEntry} {r : Checked}
    → entry ≡ entry_at entries (index (first.0 + i)) → r ≡ jump_check starts at (i + 1) (target_of at entry.jump)
    → r ≡ jump_check starts at (i + 1) (target_of at (entry_jump entries first i))
entry_read starts at entries first i w h = h ∙ rw w

-- the jumps of a record: none, or its own and those of its entries
module _ (starts entries : List ℕ) (stored : Record) where
  pub no_jump : has_jump stored.kind ≡ false → good ≡ jumps_check starts (stored_jumps entries stored)
  unfolding stored_words words_check
  no_jump e = rw (e, stored_words)

  abbrev place : CodeOffset
  place = record { 0 = stored.offset }

  module _ (has : has_jump stored.kind ≡ true) {own : Checked} (is : own ≡ jump_check starts place 0 (target_of place stored.a)) where
    both : jumps_check starts (stored_jumps entries stored) ≡ and_then own (words_check starts place 1 (listed (entry_jump entries (index stored.d)) 0 (stored_entries stored)))
    unfolding stored_words words_check
    both = rw (has, stored_words, is)

    pub own_fails : {failed : Failure} → own ≡ Err failed → Err failed ≡ jumps_check starts (stored_jumps entries stored)
    own_fails e = sym (both ∙ rw e)

    pub own_lands : {number : ℕ} {rest : Checked} → own ≡ good → number ≡ stored_entries stored → rest ≡ words_check starts place 1 (listed (entry_jump entries (index stored.d)) 0 number) → rest ≡ jumps_check starts (stored_jumps entries stored)
    own_lands e n r = r ∙ rw n (sym (both ∙ rw e))

-- the instructions of a store start at its offsets
pub starts_in : (records : List ℕ) (count : ℕ) (entries : List ℕ) → starts_of (jumps_in records count entries) ≡ offsets_of records count
starts_in records count entries = map_listed _ _ count 0

-- the jumps of a record that was read
pub record_read : (records : List ℕ) (count : ℕ) (entries : List ℕ) (i : ℕ) {stored : Record} {r : Checked}
    → stored ≡ record_at records (index i) → r ≡ jumps_check (offsets_of records count) (stored_jumps entries stored)
    → r ≡ jumps_check (starts_of (jumps_in records count entries)) (stored_jumps entries (record_at records (index i)))
record_read records count entries i e h = h ∙ ap₂ jumps_check (sym (starts_in records count entries)) (ap (stored_jumps entries) e)
