-- The reading of a bundle, section by section.
use Rattle.std.specs.Prelude.{ℕ, ◌+◌, ◌-◌, true, false, List, eqb, leb, length, Option, Some, None, Result, Ok, Err}
use Rattle.read.specs.Reads.{Read, read_of}
use Rattle.bundle.specs.declared.Section.{Section}
use Rattle.bundle.specs.declared.Sections.{Sections}
use Rattle.bundle.specs.declared.CutShort.{CutShort}

-- a section or a method that is cut short at a place
abbrev pub cut_at : {Found : Type 0} → ℕ → Result Found CutShort
cut_at place = Err (record { place = place })

-- as many bytes as were announced, or cut short at the first of them
unfoldable pub bytes_from : List ℕ → ℕ → ℕ → Result Section CutShort
bytes_from bundle size start =
    elim (leb size (length bundle - start)) [
      | true ↦ Ok (record { start = start; end = start + size })
      | false ↦ cut_at start
    ]

-- the section whose length was read, or cut short where that length starts
unfoldable pub after_length : List ℕ → Read → Result Section CutShort
after_length bundle (Ok found) = bytes_from bundle found.0 found.1.0
after_length bundle (Err refusal) = cut_at refusal.place.0

-- the section at an offset, whose length has n bytes
abbrev pub section_of : ℕ → List ℕ → ℕ → Result Section CutShort
section_of n bundle at = after_length bundle (read_of n bundle (record { 0 = at }))

-- What stands at an offset: a method, nothing because the bundle ends there, or a method that is cut short.
abbrev pub Next : Type 0
Next = Result (Option Sections) CutShort

-- what follows a section that is whole
unfoldable pub then_section : Result Section CutShort → (Section → Next) → Next
then_section (Ok section) follows = follows section
then_section (Err cut) follows = Err cut

-- the sections of a method that starts at an offset
unfoldable pub method_of : List ℕ → ℕ → Next
method_of bundle at =
    then_section (section_of 2 bundle at) (λ name.
    then_section (section_of 2 bundle name.end) (λ descriptor.
    then_section (section_of 2 bundle descriptor.end) (λ pool.
    then_section (section_of 4 bundle pool.end) (λ code.
    Ok (Some (record { name = name; descriptor = descriptor; pool = pool; code = code }))))))

-- what stands at an offset: the end exactly at the bundle's length
unfoldable pub next_of : List ℕ → ℕ → Next
next_of bundle at =
    elim (eqb at (length bundle)) [
      | true ↦ Ok None
      | false ↦ method_of bundle at
    ]
