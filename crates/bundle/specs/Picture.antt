-- A method as a bundle has it, drawn and not read.
use Rattle.std.specs.Prelude.{ℕ, ◌+◌, ◌^◌, ◌<◌, List, ◌++◌, ◌≡◌, length, drop}
use Rattle.read.specs.Reads.{bytes_of}
use Rattle.bundle.specs.declared.Section.{Section}
use Rattle.bundle.specs.declared.Sections.{Sections}

-- a section: its length in n bytes, the high byte first, and its bytes
abbrev pub section_bytes : ℕ → List ℕ → List ℕ
section_bytes n bytes = bytes_of n (length bytes) ++ bytes

-- a method: its four sections
abbrev pub method_bytes : List ℕ → List ℕ → List ℕ → List ℕ → List ℕ
method_bytes name descriptor pool code =
    section_bytes 2 name ++ (section_bytes 2 descriptor ++ (section_bytes 2 pool ++ section_bytes 4 code))

-- where the bytes of a section lie whose length starts at an offset
abbrev pub section_from : ℕ → ℕ → List ℕ → Section
section_from n at bytes = record { start = at + n; end = at + n + length bytes }

abbrev pub sections_from : ℕ → List ℕ → List ℕ → List ℕ → List ℕ → Sections
sections_from at name descriptor pool code =
    let names = section_from 2 at name in
    let descriptors = section_from 2 names.end descriptor in
    let pools = section_from 2 descriptors.end pool in
    record { name = names; descriptor = descriptors; pool = pools; code = section_from 4 pools.end code }

-- what is left of a bundle at an offset begins with a method, whose lengths have room in their bytes, and its sections lie
-- where it has them
pub record MethodAt (bundle : List ℕ) (at : ℕ) (sections : Sections) : Type 0 where
  pub name : List ℕ
  pub descriptor : List ℕ
  pub pool : List ℕ
  pub code : List ℕ
  pub name_fits : length name < 256 ^ 2
  pub descriptor_fits : length descriptor < 256 ^ 2
  pub pool_fits : length pool < 256 ^ 2
  pub code_fits : length code < 256 ^ 4
  pub begins : drop at bundle ≡ method_bytes name descriptor pool code ++ drop sections.code.end bundle
  pub places : sections ≡ sections_from at name descriptor pool code
