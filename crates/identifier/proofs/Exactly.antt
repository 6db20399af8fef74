-- An identifier is written exactly for a valid name and a valid descriptor, where there is room.
use Prim.Native.Nat.{ℕ}
use mathlib.Core.Bool.{Bool, true, false}
use mathlib.Core.Path.{◌≡◌, refl, sym, ap, ◌∙◌}
use native.Mathlib.Omega.{arith}
use borrow.Author.Tests.{leb-true, leb-false}
use lib.Dec.{leb}
use lib.ListN.{length}
use Rattle.std.specs.Prelude.{Result, Ok, Err}
use Rattle.refusals.specs.declared.Refusal.{Refusal}
use Rattle.names.proofs.Rules.{method_exactly}
use Rattle.methods.specs.Grammar.{parameter_count, return_parts}
use Rattle.methods.proofs.Entries.{method_text_exactly, check_is_text, text_is_check}
use Rattle.output.specs.Output.{Output}
use Rattle.output.proofs.Writing.{writing_fits, writing_too_short}
use Rattle.identifier.specs.Identifier.{identifier_bytes, check_method, identifying}
use Rattle.identifier.specs.Theorems.{Identifies, IdentifiesExactly}
use Rattle.identifier.proofs.Laws.{both_accepted, accepted, refused_before, then_writing}

pub identifies_exactly : IdentifiesExactly
identifies_exactly name descriptor room n = (λ h. to h (check_method name descriptor) refl (leb (length (identifier_bytes name descriptor)) room) refl, from)
  where
    to :
        identifying name descriptor room ≡ Ok n → (c : Result Unit (Refusal ℕ)) → check_method name descriptor ≡ c
        → (u : Bool) → leb (length (identifier_bytes name descriptor)) room ≡ u → Identifies name descriptor room n
    to h (Err r) e u v = absurd (cc (sym (refused_before name descriptor room r (sym e)) ∙ h))
    to h (Ok u) e false v =
        absurd (cc (sym (then_writing name descriptor room (sym e) ∙ writing_too_short (identifier_bytes name descriptor) room (leb-false _ _ v)) ∙ h))
    to h (Ok u) e true v =
        let is : ◌≡◌ {A = Output} (Ok (length (identifier_bytes name descriptor))) (Ok n) = sym (then_writing name descriptor room (sym e) ∙ writing_fits (identifier_bytes name descriptor) room (leb-true _ _ v)) ∙ h in
        let same : length (identifier_bytes name descriptor) ≡ n = cc in
        let a = accepted name descriptor (sym e) in
        let read = a.1.0 in
        let count = read.0.parameters in
        let d = (method_text_exactly count descriptor count read.0.returned read.1).0 (text_is_check descriptor count read.0.returned read.1 a.1.1) in
        let good = (method_exactly true true name).0 a.0 in
        record { name_short = good.0; name_rule = good.1; descriptor_short = d.short; tree = d.tree; few = d.few; written = sym same; fits = omega (arith, leb-true (length (identifier_bytes name descriptor)) room v) }

    from : Identifies name descriptor room n → identifying name descriptor room ≡ Ok n
    from i =
        let good = (method_exactly true true name).1 (i.name_short, i.name_rule) in
        let count = parameter_count i.tree in
        let read = (method_text_exactly count descriptor count (return_parts i.tree) (length descriptor)).1 (
        record { short = i.descriptor_short; tree = i.tree; few = i.few; counted = refl; fits = omega arith; parts = refl; all = refl }) in
        let both = both_accepted name descriptor good _ (check_is_text count descriptor count (return_parts i.tree) (length descriptor) read) in
        then_writing name descriptor room (sym both)
        ∙ writing_fits (identifier_bytes name descriptor) room (omega (arith, i.written, i.fits))
        ∙ ap Ok (sym i.written)
