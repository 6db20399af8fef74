-- What a section and a method that were read whole tell of the bundle: they lie inside it, in order.
use Prim.Native.Nat.{ℕ, ◌+◌, ◌-◌, ◌≤◌}
use mathlib.Core.Bool.{Bool, true, false}
use mathlib.Core.List.{List}
use mathlib.Core.Path.{◌≡◌, refl, sym, ap, ◌∙◌, subst}
use native.Mathlib.Omega.{arith}
use borrow.Author.Tests.{leb-true, leb-false, eqb-true, eqb-false}
use lib.Dec.{eqb, leb}
use lib.ListN.{length}
use Rattle.std.specs.Prelude.{Some, Result, Ok, Err}
use Rattle.read.specs.Reads.{big_endian, bytes_at}
use Rattle.read.proofs.Laws.{read_past, read_found}
use Rattle.bundle.specs.declared.Section.{Section}
use Rattle.bundle.specs.declared.Sections.{Sections}
use Rattle.bundle.specs.declared.CutShort.{CutShort}
use Rattle.bundle.specs.Reading.{Next, bytes_from, after_length, section_of, then_section, method_of, next_of}
use Rattle.bundle.specs.Theorems.{SectionInside, SectionsInside, MethodInside}
use Rattle.bundle.proofs.Laws.{bytes_fit, bytes_short, length_missing, at_end, next_is_method}

-- the length that stands at an offset
abbrev pub size_at : ℕ → List ℕ → ℕ → ℕ
size_at n bundle at = big_endian (bytes_at n bundle at)

pub record WholeAt (n : ℕ) (bundle : List ℕ) (at : ℕ) (section : Section) : Type 0 where
  pub inside : at + n ≤ length bundle
  pub enough : size_at n bundle at ≤ length bundle - (at + n)
  pub is : section ≡ record { start = at + n; end = at + n + size_at n bundle at }

module _ (n : ℕ) (bundle : List ℕ) (at : ℕ) {section : Section} where
  pub section_whole : section_of n bundle at ≡ Ok section → WholeAt n bundle at section
  unfolding after_length
  section_whole h = go (leb (at + n) (length bundle)) refl
    where
      start : ℕ
      start = at + n

      size : ℕ
      size = size_at n bundle at

      there : start ≤ length bundle → bytes_from bundle size start ≡ Ok section
      there fits = sym (ap (after_length bundle) (read_found n bundle (record { 0 = at }) fits)) ∙ h

      enough : start ≤ length bundle → (t : Bool) → leb size (length bundle - start) ≡ t → WholeAt n bundle at section
      enough fits true e =
          let fit : size ≤ length bundle - start = leb-true _ _ e in
          record { inside = fits; enough = fit; is = cc (there fits, bytes_fit bundle size start fit) }
      enough fits false e = cc (bytes_short bundle size start (leb-false _ _ e), there fits)

      go : (t : Bool) → leb start (length bundle) ≡ t → WholeAt n bundle at section
      go true e = enough (leb-true _ _ e) (leb size (length bundle - start)) refl
      go false e = cc (length_missing n bundle at (read_past n bundle (record { 0 = at }) (leb-false _ _ e)), h)

  section_inside : section_of n bundle at ≡ Ok section → SectionInside bundle (at + n) section
  section_inside h =
      let w = section_whole h in
      let starts : section.start ≡ at + n = ap (λ (s : Section). s.start) w.is in
      let ends : section.end ≡ at + n + size_at n bundle at = ap (λ (s : Section). s.end) w.is in
      record { after = omega (arith, starts); ordered = omega (arith, starts, ends); within = omega (arith, ends, w.inside, w.enough) }

pub then_whole : (read : Result Section CutShort) (follows : Section → Next) (sections : Sections) → then_section read follows ≡ Ok (Some sections) → (section : Section) × (read ≡ Ok section) × (follows section ≡ Ok (Some sections))
unfolding then_section
then_whole (Ok section) follows sections h = (section, refl, h)
then_whole (Err cut) follows sections h = cc

pub same_sections : {a b : Sections} → ◌≡◌ {A = Next} (Ok (Some a)) (Ok (Some b)) → a ≡ b
same_sections h = cc

pub method_of_lem : (bundle : List ℕ) (at : ℕ) {sections : Sections} → next_of bundle at ≡ Ok (Some sections) → method_of bundle at ≡ Ok (Some sections)
method_of_lem bundle at {sections} h = go (eqb at (length bundle)) refl
  where
    go : (t : Bool) → eqb at (length bundle) ≡ t → method_of bundle at ≡ Ok (Some sections)
    go true e = cc (at_end bundle at (eqb-true _ _ e))
    go false e = sym (next_is_method bundle at (eqb-false _ _ e)) ∙ h

pub method_inside : MethodInside
unfolding method_of
method_inside bundle at sections h =
    let n = then_whole _ _ sections (method_of_lem bundle at h) in
    let d = then_whole _ _ sections n.2 in
    let p = then_whole _ _ sections d.2 in
    let k = then_whole _ _ sections p.2 in
    subst (SectionsInside bundle at) (same_sections k.2)
    (record {
      name = section_inside 2 bundle at n.1;
      descriptor = section_inside 2 bundle n.0.end d.1;
      pool = section_inside 2 bundle d.0.end p.1;
      code = section_inside 4 bundle p.0.end k.1;
    })
