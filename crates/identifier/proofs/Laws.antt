-- The answer by its tests, and the writing of the bytes.
use Prim.Native.Nat.{ℕ, ◌+◌, ◌≤◌, ◌<◌}
use mathlib.Core.Bool.{Bool, true, false}
use mathlib.Core.List.{List, ◌++◌}
use mathlib.Core.Path.{◌≡◌, refl, sym, ap, ◌∙◌}
use native.Mathlib.Nat.{zero-add}
use native.Mathlib.Omega.{arith}
use lib.ListN.{length, length-append}
use lib.Seq.{sets}
use Rattle.std.specs.Prelude.{Ok, Err}
use Rattle.refusals.specs.declared.Reason.TheVariants as reason
use Rattle.refusals.specs.declared.Refusal.{Refusal}
use Rattle.refusals.specs.Numbers.{refused}
use Rattle.laws.specs.Bytes.{text_limit}
use Rattle.names.specs.Names.{is_method_name}
use Rattle.names.proofs.Rules.{method_exactly}
use Rattle.methods.specs.declared.MethodDescriptor.{MethodDescriptor}
use Rattle.methods.specs.Texts.{Method, method_check}
use Rattle.methods.proofs.Entries.{method_text_exactly, text_is_check}
use Rattle.output.specs.Output.{Output, writing, output_after}
use Rattle.output.proofs.Writing.{sets_append, writing_fits, writing_too_short, refused_after, written_after}
use Rattle.identifier.specs.Identifier.{identifier_bytes, unless_refused, check_method, identifying, identifier_output}

module _ (name descriptor : List ℕ) where
  name_refused : is_method_name true true name ≡ false → check_method name descriptor ≡ Err (refused reason.NameNotValid 0)
  unfolding check_method
  name_refused e = rw (e, check_method)

  module _ (good : is_method_name true true name ≡ true) where
    descriptor_refused : (r : Refusal ℕ) → method_check descriptor ≡ Err r → check_method name descriptor ≡ Err r
    unfolding check_method unless_refused
    descriptor_refused r e = rw (good, check_method) (ap (λ m. unless_refused m (Ok tt)) e)

    pub both_accepted : (read : MethodDescriptor × ℕ) → method_check descriptor ≡ Ok read → check_method name descriptor ≡ Ok tt
    unfolding check_method unless_refused
    both_accepted read e = rw (good, check_method) (ap (λ m. unless_refused m (Ok tt)) e)

  -- what is accepted has a valid name, and a descriptor that is read
  pub accepted : Ok tt ≡ check_method name descriptor → (is_method_name true true name ≡ true) × ((read : MethodDescriptor × ℕ) × (method_check descriptor ≡ Ok read))
  accepted h = go (is_method_name true true name) refl (method_check descriptor) refl
    where
      go : (t : Bool) → is_method_name true true name ≡ t → (m : Method) → method_check descriptor ≡ m → (is_method_name true true name ≡ true) × ((read : MethodDescriptor × ℕ) × (method_check descriptor ≡ Ok read))
      go false e m q = absurd (cc (h ∙ name_refused e))
      go true e (Err r) q = absurd (cc (h ∙ descriptor_refused e r q))
      go true e (Ok read) q = (e, (read, q))

  -- so both are within the limit
  pub within_limits : Ok tt ≡ check_method name descriptor → (length name ≤ text_limit) × (length descriptor ≤ text_limit)
  within_limits h =
      let a = accepted h in
      let read = a.1.0 in
      let count = read.0.parameters in
      (((method_exactly true true name).0 a.0).0, ((method_text_exactly count descriptor count read.0.returned read.1).0 (text_is_check descriptor count read.0.returned read.1 a.1.1)).short)

  module _ (room : ℕ) where
    pub refused_before : (r : Refusal ℕ) → Err r ≡ check_method name descriptor → identifying name descriptor room ≡ Err r
    unfolding identifying unless_refused
    refused_before r h = ap (λ c. unless_refused c (writing (identifier_bytes name descriptor) room)) (sym h)

    pub then_writing : Ok tt ≡ check_method name descriptor → identifying name descriptor room ≡ writing (identifier_bytes name descriptor) room
    unfolding identifying unless_refused
    then_writing h = ap (λ c. unless_refused c (writing (identifier_bytes name descriptor) room)) (sym h)

-- The ends of the writing, which alone looks at what the bytes are.
module _ (name descriptor out : List ℕ) where
  bytes_length : length (identifier_bytes name descriptor) ≡ length name + length descriptor
  unfolding identifier_bytes
  bytes_length = length-append name descriptor

  pub identifier_too_short :
      length out < length name + length descriptor
      → (Err (refused reason.TooShort 0) ≡ writing (identifier_bytes name descriptor) (length out)) × (out ≡ output_after (writing (identifier_bytes name descriptor) (length out)) (identifier_bytes name descriptor) out)
  identifier_too_short h = refused_after _ _ out (refused reason.TooShort 0) (writing_too_short (identifier_bytes name descriptor) (length out) (omega (arith, bytes_length)))

  pub identifier_written :
      length name + length descriptor ≤ length out → (first last : List ℕ) → first ≡ sets out 0 name → last ≡ sets first (length name) descriptor
      → (Ok (length name + length descriptor) ≡ writing (identifier_bytes name descriptor) (length out)) × (last ≡ output_after (writing (identifier_bytes name descriptor) (length out)) (identifier_bytes name descriptor) out)
  unfolding identifier_bytes
  identifier_written h first last e f =
      let fits : length (identifier_bytes name descriptor) ≤ length out = omega (arith, bytes_length) in
      let both : last ≡ sets out 0 (name ++ descriptor) = f ∙ ap (λ (o : List ℕ). sets o (length name) descriptor) e ∙ ap (λ (i : ℕ). sets (sets out 0 name) i descriptor) (sym (zero-add (length name))) ∙ sets_append out 0 name descriptor in
      written_after _ _ out last (length name + length descriptor) (writing_fits (identifier_bytes name descriptor) (length out) fits ∙ ap Ok bytes_length) (sym bytes_length) h both

-- the end of the entry, whose answer and output are those of the writing
pub identifier_ends :
    (name descriptor out : List ℕ) {answer : Output} {last : List ℕ} → identifying name descriptor (length out) ≡ writing (identifier_bytes name descriptor) (length out)
    → answer ≡ writing (identifier_bytes name descriptor) (length out) → last ≡ output_after (writing (identifier_bytes name descriptor) (length out)) (identifier_bytes name descriptor) out
    → (answer ≡ identifying name descriptor (length out)) × (last ≡ identifier_output name descriptor out)
identifier_ends name descriptor out e a w = (a ∙ sym e, w ∙ ap (λ (x : Output). output_after x (identifier_bytes name descriptor) out) (sym e))
