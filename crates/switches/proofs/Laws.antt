-- Words that are read in turn, and those that do not fit.
use Prim.Native.Nat.{ℕ, zero, suc, ◌+◌, ◌-◌, ◌*◌, ◌/◌, ◌^◌, ◌≤◌, ◌<◌}
use mathlib.Core.List.{List}
use mathlib.Core.Path.{◌≡◌, refl, sym, ap, ◌∙◌}
use native.Mathlib.Omega.{arith}
use mathlib.Core.Bool.{Bool, true, false}
use borrow.Author.Tests.{leb-true, leb-false}
use lib.Dec.{leb}
use lib.ListN.{length}
use Rattle.read.specs.declared.CodeOffset.{CodeOffset}
use Rattle.std.specs.Prelude.{Result, Ok, Err}
use Rattle.refusals.specs.declared.Reason.TheVariants as reason
use Rattle.refusals.specs.declared.Refusal.{Refusal}
use Rattle.refusals.specs.Numbers.{refused}
use Rattle.read.specs.Reads.{after}
use Rattle.read.proofs.Laws.{read_past, read_found}
use Rattle.operands.proofs.Signed.{signed_low, signed_high}
use Rattle.ordinary.specs.declared.Instruction.TheVariants as instruction
use Rattle.switches.specs.Switches.{words_from, most_entries, ended, lookup_of, lookup_entries}

pub at_place : {i j : ℕ} → i ≡ j → ◌≡◌ {A = CodeOffset} (record { 0 = i }) (record { 0 = j })
at_place e = ap (λ (k : ℕ). record { 0 = k }) e

-- so many words, and the refusal of the first that does not fit
abbrev Words : Type 0
Words = Result CodeOffset (Refusal CodeOffset)

abbrev up_to : CodeOffset → Words
up_to next = Ok next

abbrev short_at : CodeOffset → Words
short_at place = Err (refused reason.PastEnd place)

module _ (code : List ℕ) where
  one_more : (count : ℕ) (at : CodeOffset) → at.0 + 4 ≤ length code → words_from (suc count) code at ≡ words_from count code (after 4 at)
  unfolding words_from
  one_more count at h = rw (read_found 4 code at h, words_from)

  pub words_fit : (count : ℕ) (at : CodeOffset) → at.0 + 4 * count ≤ length code → words_from count code at ≡ up_to (after (4 * count) at)
  unfolding words_from
  words_fit zero at h = ap up_to (at_place (omega arith))
  words_fit (suc count) at h = one_more count at (omega arith) ∙ words_fit count (after 4 at) (omega arith) ∙ ap up_to (at_place (omega arith))

  pub words_short : (count : ℕ) (at : CodeOffset) → length code - at.0 < 4 * count → words_from count code at ≡ short_at (after ((length code - at.0) / 4 * 4) at)
  unfolding words_from
  words_short zero at h = absurd (omega arith)
  words_short (suc count) at h = go (leb (at.0 + 4) (length code)) refl (words_short count (after 4 at))
    where
      go : (t : Bool) → leb (at.0 + 4) (length code) ≡ t
          → (length code - (at.0 + 4) < 4 * count → words_from count code (after 4 at) ≡ short_at (after ((length code - (at.0 + 4)) / 4 * 4) (after 4 at)))
          → words_from (suc count) code at ≡ short_at (after ((length code - at.0) / 4 * 4) at)
      go true e rest =
          let fits : at.0 + 4 ≤ length code = leb-true _ _ e in
          one_more count at fits ∙ rest (omega arith) ∙ ap short_at (at_place (omega arith))
      go false e rest =
          let past : length code < at.0 + 4 = leb-false _ _ e in
          let same : at.0 ≡ at.0 + (length code - at.0) / 4 * 4 = omega arith in
          rw (read_past 4 code at past, words_from) (ap short_at (at_place same))

  -- the same, where so much room is left
  module _ (count : ℕ) (at : CodeOffset) {room : ℕ} (left : room ≡ length code - at.0) where
    pub no_room : room < 4 * count → short_at (after (room / 4 * 4) at) ≡ words_from count code at
    no_room h = ap (λ (r : ℕ). short_at (after (r / 4 * 4) at)) left ∙ sym (words_short count at (omega arith))

    pub with_room : 4 * count ≤ room → up_to (after (4 * count) at) ≡ words_from count code at
    unfolding words_from
    with_room h = go count h
      where
        go : (n : ℕ) → 4 * n ≤ room → up_to (after (4 * n) at) ≡ words_from n code at
        go zero h = ap up_to (at_place (omega arith))
        go (suc n) h = sym (words_fit (suc n) at (omega (arith, left)))

-- a lookup whose words were read so
module _ (code : List ℕ) (place : CodeOffset) (default npairs : ℕ) (entries : CodeOffset) where
  pub lookup_refused : most_entries < npairs → npairs < 2 ^ 32 → Err (refused reason.NegativeCount place) ≡ lookup_entries code place default npairs entries
  lookup_refused h l = sym (ap (lookup_of code place default entries) (signed_high 4 npairs (omega arith) l))

  pub lookup_given : npairs ≤ most_entries → ended (instruction.LookupSwitch default entries npairs) (words_from (2 * npairs) code entries) ≡ lookup_entries code place default npairs entries
  lookup_given h = sym (ap (lookup_of code place default entries) (signed_low 4 npairs (omega arith)))
