-- A method is read exactly where what is left of the bundle begins with one, and lies inside the bundle. The proofs are in
-- proofs/Exactly.antt and proofs/Inside.antt.
use Rattle.std.specs.Prelude.{ℕ, ◌+◌, ◌≤◌, List, ◌↔◌, ◌≡◌, length, Some, Ok}
use Rattle.laws.specs.Bytes.{AreBytes}
use Rattle.bundle.specs.declared.Section.{Section}
use Rattle.bundle.specs.declared.Sections.{Sections}
use Rattle.bundle.specs.Reading.{next_of}
use Rattle.bundle.specs.Picture.{MethodAt}

-- proved as `method_exactly`
abbrev pub MethodExactly : Type 0
MethodExactly =
    (bundle : List ℕ) (at : ℕ) (sections : Sections) → AreBytes bundle
    → (next_of bundle at ≡ Ok (Some sections)) ↔ MethodAt bundle at sections

-- a section that starts no earlier than an offset and ends no later than the bundle
pub record SectionInside (bundle : List ℕ) (from : ℕ) (section : Section) : Type 0 where
  pub after : from ≤ section.start
  pub ordered : section.start ≤ section.end
  pub within : section.end ≤ length bundle

-- the sections of a method, in order
pub record SectionsInside (bundle : List ℕ) (at : ℕ) (sections : Sections) : Type 0 where
  pub name : SectionInside bundle (at + 2) sections.name
  pub descriptor : SectionInside bundle (sections.name.end + 2) sections.descriptor
  pub pool : SectionInside bundle (sections.descriptor.end + 2) sections.pool
  pub code : SectionInside bundle (sections.pool.end + 4) sections.code

-- proved as `method_inside`
abbrev pub MethodInside : Type 0
MethodInside = (bundle : List ℕ) (at : ℕ) (sections : Sections) → next_of bundle at ≡ Ok (Some sections) → SectionsInside bundle at sections
