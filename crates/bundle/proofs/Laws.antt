-- The ways in which the reading of a section and of a method ends, as the code needs them.
use Prim.Native.Nat.{ℕ, ◌+◌, ◌-◌, ◌≤◌, ◌<◌}
use mathlib.Core.List.{List}
use mathlib.Core.Path.{◌≡◌, ap, ◌∙◌}
use borrow.Author.Tests.{le-leb, lt-leb, ne_eqb, eq-eqb}
use lib.ListN.{length}
use Rattle.std.specs.Prelude.{Some, None, Ok, Err}
use Rattle.refusals.specs.declared.Refusal.{Refusal}
use Rattle.read.specs.declared.CodeOffset.{CodeOffset}
use Rattle.read.specs.Reads.{read_of}
use Rattle.bundle.specs.declared.Section.{Section}
use Rattle.bundle.specs.Reading.{cut_at, bytes_from, after_length, section_of, then_section, method_of, next_of}

module _ (bundle : List ℕ) (size start : ℕ) where
  pub bytes_fit : size ≤ length bundle - start → bytes_from bundle size start ≡ Ok (record { start = start; end = start + size })
  unfolding bytes_from
  bytes_fit h = rw (le-leb _ _ h, bytes_from)

  pub bytes_short : length bundle - start < size → bytes_from bundle size start ≡ cut_at start
  unfolding bytes_from
  bytes_short h = rw (lt-leb _ _ h, bytes_from)

-- the section, by what its length's read answered
module _ (n : ℕ) (bundle : List ℕ) (at : ℕ) where
  pub length_missing : {r : Refusal CodeOffset} → read_of n bundle (record { 0 = at }) ≡ Err r → section_of n bundle at ≡ cut_at r.place.0
  unfolding after_length
  length_missing e = ap (after_length bundle) e

  module _ {size : ℕ} {start : CodeOffset} (e : read_of n bundle (record { 0 = at }) ≡ Ok (size, start)) where
    pub some_missing : length bundle - start.0 < size → section_of n bundle at ≡ cut_at start.0
    unfolding after_length
    some_missing h = ap (after_length bundle) e ∙ bytes_short bundle size start.0 h

    pub all_there : size ≤ length bundle - start.0 → section_of n bundle at ≡ Ok (record { start = start.0; end = start.0 + size })
    unfolding after_length
    all_there h = ap (after_length bundle) e ∙ bytes_fit bundle size start.0 h

module _ (bundle : List ℕ) (at : ℕ) where
  pub at_end : at ≡ length bundle → next_of bundle at ≡ Ok None
  unfolding next_of
  at_end h = rw (eq-eqb _ _ h, next_of)

  pub next_is_method : (at ≡ length bundle → ⊥) → next_of bundle at ≡ method_of bundle at
  unfolding next_of
  next_is_method inside = rw (ne_eqb _ _ inside, next_of)

  pub method_whole :
      {name descriptor pool code : Section} → (at ≡ length bundle → ⊥) → section_of 2 bundle at ≡ Ok name → section_of 2 bundle name.end ≡ Ok descriptor
      → section_of 2 bundle descriptor.end ≡ Ok pool → section_of 4 bundle pool.end ≡ Ok code
      → next_of bundle at ≡ Ok (Some (record { name = name; descriptor = descriptor; pool = pool; code = code }))
  unfolding method_of then_section
  method_whole inside n d p k = next_is_method inside ∙ rw (n, d, p, k, method_of)
