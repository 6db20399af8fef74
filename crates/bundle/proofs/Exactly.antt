-- The reading and the picture agree, first for a section, then for a method.
use Prim.Native.Nat.{ℕ, ◌+◌, ◌-◌, ◌^◌, ◌≤◌, ◌<◌}
use mathlib.Core.List.{List, ◌++◌, append_assoc}
use mathlib.Core.Path.{◌≡◌, refl, sym, ap, ◌∙◌, subst}
use native.Mathlib.Omega.{arith}
use lib.ListN.{length, take, drop, length-append, length-drop, take-append-drop}
use lib.Seq.{length-take-le, drop-drop, take_at, drop-append_seam}
use Rattle.std.specs.Prelude.{Some, Ok}
use Rattle.laws.specs.Bytes.{AreBytes}
use Rattle.read.specs.Reads.{bytes_of}
use Rattle.read.proofs.Laws.{read_found}
use Rattle.read.proofs.Written.{length_bytes, number_read_exactly}
use Rattle.bundle.specs.declared.Section.{Section}
use Rattle.bundle.specs.declared.Sections.{Sections}
use Rattle.bundle.specs.Reading.{after_length, section_of, method_of, next_of}
use Rattle.bundle.specs.Picture.{section_bytes, section_from, sections_from, MethodAt}
use Rattle.bundle.specs.Theorems.{MethodExactly}
use Rattle.bundle.proofs.Laws.{all_there, method_whole}
use Rattle.bundle.proofs.Inside.{size_at, section_whole, then_whole, same_sections, method_of_lem}

-- what is left past a section
section_past : (n : ℕ) (bundle : List ℕ) (at : ℕ) (bytes rest : List ℕ) → drop at bundle ≡ section_bytes n bytes ++ rest → drop (at + n + length bytes) bundle ≡ rest
section_past n bundle at bytes rest e =
    let long : length (section_bytes n bytes) ≡ n + length bytes = length-append (bytes_of n (length bytes)) bytes ∙ ap (λ (k : ℕ). k + length bytes) (length_bytes n (length bytes)) in
    let end : at + length (section_bytes n bytes) ≡ at + n + length bytes = omega arith in
    ap (λ (k : ℕ). drop k bundle) (sym end) ∙ sym (drop-drop (length (section_bytes n bytes)) at bundle) ∙ ap (drop (length (section_bytes n bytes))) e ∙ drop-append_seam (section_bytes n bytes) rest

-- a section of the bundle, drawn
record SectionAt (n : ℕ) (bundle : List ℕ) (at : ℕ) (section : Section) : Type 0 where
  bytes : List ℕ
  fits : length bytes < 256 ^ n
  begins : drop at bundle ≡ section_bytes n bytes ++ drop section.end bundle
  places : section ≡ section_from n at bytes

module _ (n : ℕ) (bundle : List ℕ) (at : ℕ) (section : Section) (wide : 0 < n) (are : AreBytes bundle) where
  section_drawn : section_of n bundle at ≡ Ok section → SectionAt n bundle at section
  section_drawn h =
      let w = section_whole n bundle at h in
      let size : ℕ = size_at n bundle at in
      let start : ℕ = at + n in
      let number = (number_read_exactly n bundle (record { 0 = at }) size wide are).0 (read_found n bundle (record { 0 = at }) w.inside) in
      let found : List ℕ = take size (drop start bundle) in
      let long : length found ≡ size = length-take-le size (drop start bundle) (rw length-drop w.enough) in
      let split : drop at bundle ≡ (bytes_of n size ++ found) ++ drop (start + size) bundle =
      cc (take-append-drop n (drop at bundle), drop-drop n at bundle, number.1, take-append-drop size (drop start bundle), drop-drop size start bundle, append_assoc (bytes_of n size) found (drop (start + size) bundle)) in
      record { bytes = found; fits = rw long number.0; begins = rw (long, w.is) split; places = rw long w.is }

  section_read : SectionAt n bundle at section → section_of n bundle at ≡ Ok section
  unfolding after_length
  section_read d =
      let size : ℕ = length d.bytes in
      let front : take n (drop at bundle) ≡ bytes_of n size =
      ap (take n) (d.begins ∙ append_assoc (bytes_of n size) d.bytes _) ∙ take_at (bytes_of n size) _ n (length_bytes n size) in
      let number = (number_read_exactly n bundle (record { 0 = at }) size wide are).1 (d.fits, front) in
      let long = simp (length-append, length-drop, length_bytes) at (ap length d.begins) in
      let enough : size ≤ length bundle - (at + n) = omega arith in
      all_there n bundle at number enough ∙ ap Ok (sym d.places)

-- a section that stands at an offset, and what is left past it
drawn_at : (n : ℕ) (bundle : List ℕ) (at : ℕ) (bytes rest : List ℕ) → length bytes < 256 ^ n → drop at bundle ≡ section_bytes n bytes ++ rest → SectionAt n bundle at (section_from n at bytes)
drawn_at n bundle at bytes rest h e =
    record { bytes = bytes; fits = h; begins = e ∙ ap (section_bytes n bytes ++◌) (sym (section_past n bundle at bytes rest e)); places = refl }

-- a method's bytes and what follows, section by section
regrouped : (a b c d rest : List ℕ) → (a ++ (b ++ (c ++ d))) ++ rest ≡ a ++ (b ++ (c ++ (d ++ rest)))
regrouped a b c d rest = simp append_assoc

placed :
    (at : ℕ) (name descriptor pool code : List ℕ) {n d p k : Section} → n ≡ section_from 2 at name → d ≡ section_from 2 n.end descriptor
    → p ≡ section_from 2 d.end pool → k ≡ section_from 4 p.end code
    → ◌≡◌ {A = Sections} (record { name = n; descriptor = d; pool = p; code = k }) (sections_from at name descriptor pool code)
placed at name descriptor pool code n d p k = rw (k, p, d, n)

module _ (bundle : List ℕ) (at : ℕ) where
  assembled :
      {n d p k : Section} → SectionAt 2 bundle at n → SectionAt 2 bundle n.end d → SectionAt 2 bundle d.end p → SectionAt 4 bundle p.end k
      → MethodAt bundle at (record { name = n; descriptor = d; pool = p; code = k })
  assembled {k = k} name descriptor pool code =
      let rest : List ℕ = drop k.end bundle in
      let begins = name.begins ∙ ap (section_bytes 2 name.bytes ++◌) (descriptor.begins ∙ ap (section_bytes 2 descriptor.bytes ++◌) (pool.begins ∙ ap (section_bytes 2 pool.bytes ++◌) code.begins)) in
      record {
        name = name.bytes;
        descriptor = descriptor.bytes;
        pool = pool.bytes;
        code = code.bytes;
        name_fits = name.fits;
        descriptor_fits = descriptor.fits;
        pool_fits = pool.fits;
        code_fits = code.fits;
        begins = begins ∙ sym (regrouped (section_bytes 2 name.bytes) (section_bytes 2 descriptor.bytes) (section_bytes 2 pool.bytes) (section_bytes 4 code.bytes) rest);
        places = placed at name.bytes descriptor.bytes pool.bytes code.bytes name.places descriptor.places pool.places code.places;
      }

module _ (bundle : List ℕ) (at : ℕ) (sections : Sections) (are : AreBytes bundle) where
  method_drawn : method_of bundle at ≡ Ok (Some sections) → MethodAt bundle at sections
  unfolding method_of
  method_drawn h =
      let n = then_whole _ _ sections h in
      let d = then_whole _ _ sections n.2 in
      let p = then_whole _ _ sections d.2 in
      let k = then_whole _ _ sections p.2 in
      subst (MethodAt bundle at) (same_sections k.2)
      (assembled bundle at
      (section_drawn 2 bundle at n.0 (omega arith) are n.1)
      (section_drawn 2 bundle n.0.end d.0 (omega arith) are d.1)
      (section_drawn 2 bundle d.0.end p.0 (omega arith) are p.1)
      (section_drawn 4 bundle p.0.end k.0 (omega arith) are k.1))

  method_read : MethodAt bundle at sections → next_of bundle at ≡ Ok (Some sections)
  method_read m =
      let rest : List ℕ = drop sections.code.end bundle in
      let name_at = m.begins ∙ regrouped (section_bytes 2 m.name) (section_bytes 2 m.descriptor) (section_bytes 2 m.pool) (section_bytes 4 m.code) rest in
      let descriptor_at = section_past 2 bundle at m.name _ name_at in
      let pool_at = section_past 2 bundle _ m.descriptor _ descriptor_at in
      let code_at = section_past 2 bundle _ m.pool _ pool_at in
      let long = simp (length-append, length-drop, length_bytes) at (ap length name_at) in
      method_whole bundle at (λ e. omega arith)
      (section_read 2 bundle at _ (omega arith) are (drawn_at 2 bundle at m.name _ m.name_fits name_at))
      (section_read 2 bundle _ _ (omega arith) are (drawn_at 2 bundle _ m.descriptor _ m.descriptor_fits descriptor_at))
      (section_read 2 bundle _ _ (omega arith) are (drawn_at 2 bundle _ m.pool _ m.pool_fits pool_at))
      (section_read 4 bundle _ _ (omega arith) are (drawn_at 4 bundle _ m.code _ m.code_fits code_at))
      ∙ ap (λ (s : Sections). Ok (Some s)) (sym m.places)

pub method_exactly : MethodExactly
method_exactly bundle at sections are = (λ h. method_drawn bundle at sections are (method_of_lem bundle at h), method_read bundle at sections are)
