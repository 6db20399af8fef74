-- What names no pool entry does not depend on the pool, and the opcode is the byte that stands there.
use Prim.Native.Nat.{ℕ, ◌≤◌, ◌<◌}
use mathlib.Core.List.{List, [], ◌∷◌}
use mathlib.Core.Path.{◌≡◌, refl, sym, ap, ◌∙◌}
use native.Mathlib.Omega.{arith}
use lib.ListN.{length, get_or}
use lib.Seq.{drop-cons}
use Rattle.read.specs.declared.CodeOffset.{CodeOffset}
use Rattle.std.specs.Prelude.{Ok, Err}
use Rattle.refusals.specs.declared.Reason.TheVariants as reason
use Rattle.refusals.specs.Numbers.{refused}
use Rattle.read.specs.Reads.{Read, big_endian, bytes_at, after, read_of}
use Rattle.read.proofs.Laws.{read_past, read_found}
use Rattle.pool.specs.declared.Kinds.{Kinds}
use Rattle.opcodes.specs.declared.Follow.{Follow}
use Rattle.opcodes.specs.declared.Follow.TheVariants as follow
use Rattle.opcodes.specs.declared.WideForm.{WideForm}
use Rattle.opcodes.specs.declared.WideForm.TheVariants as wide
use Rattle.opcodes.specs.Formats.{format_of}
use Rattle.opcodes.specs.InstructionKinds.{kind_of}
use Rattle.opcodes.specs.Operands.{Meaning, Operand, layout_of, follow_of, wide_layout_of}
use Rattle.opcodes.specs.Wide.{wide_form_of}
use Rattle.operands.specs.Checks.{index_read}
use Rattle.ordinary.specs.Ordinary as ordinary
use Rattle.ordinary.specs.Ordinary.{Step, then_read, operands_from, indexed, wide_step}
use Rattle.instruction.specs.Steps.{laid_out, step_of}

module _ (code pool : List ℕ) where
  follow_alone : (kind : ℕ) (f : Follow) (index : Read) → indexed code kind (follow_of f) index ≡ then_read index (λ i next. operands_from code pool kind (i ∷ []) (follow_of f) next)
  unfolding operands_from
  follow_alone kind f (Err r) = refl
  follow_alone kind follow.Nothing (Ok found) = refl
  follow_alone kind follow.Count (Ok found) = refl
  follow_alone kind follow.CountAndZero (Ok found) = refl
  follow_alone kind follow.TwoZeros (Ok found) = refl

  pub index_and_follow : (kind : ℕ) (kinds : Kinds) (f : Follow) (at : CodeOffset) {found index : Read} {r : Step} → found ≡ read_of 2 code at → index ≡ index_read pool kinds at found → r ≡ indexed code kind (follow_of f) index → r ≡ operands_from code pool kind [] (Operand.bytes 2 (Meaning.index kinds) ∷ follow_of f) at
  unfolding operands_from
  index_and_follow kind kinds f at q e h = h ∙ ap (indexed code kind (follow_of f)) (e ∙ ap (index_read pool kinds at) q) ∙ follow_alone kind f (index_read pool kinds at (read_of 2 code at))

  pub wide_alone : (at : CodeOffset) → wide_step code [] at ≡ wide_step code pool at
  unfolding operands_from
  wide_alone at = go (read_of 1 code at)
    where
      laid : (byte : ℕ) (next : CodeOffset) (form : WideForm) → ordinary.widened_by code [] byte at next (wide_layout_of form) ≡ ordinary.widened_by code pool byte at next (wide_layout_of form)
      laid byte next wide.Local = refl
      laid byte next wide.Increment = refl
      laid byte next wide.NoInstruction = refl

      go : (r : Read) → then_read r (λ byte next. ordinary.widened code [] byte at next) ≡ then_read r (λ byte next. ordinary.widened code pool byte at next)
      go (Err r) = refl
      go (Ok found) = laid found.0 found.1 (wide_form_of found.0)

  -- the opcode
  pub past_end : (at : CodeOffset) → length code ≤ at.0 → Err (refused reason.PastEnd at) ≡ step_of code pool at
  unfolding step_of
  past_end at h = sym (rw (read_past 1 code at (omega arith), step_of))

  pub at_opcode : (at : CodeOffset) → at.0 < length code → {r : Step} → r ≡ laid_out code pool (kind_of (get_or code at.0 0)) at (after 1 at) (layout_of (format_of (get_or code at.0 0))) → r ≡ step_of code pool at
  unfolding step_of big_endian
  at_opcode at h {r} e = e ∙ sym (rw (byte, step_of))
    where
      number : get_or code at.0 0 ≡ big_endian (bytes_at 1 code at.0)
      number = rw (drop-cons code at.0 0) (omega arith)

      byte : read_of 1 code at ≡ Ok (get_or code at.0 0, after 1 at)
      byte = read_found 1 code at (omega arith) ∙ ap (λ (b : ℕ). Ok (b, after 1 at)) (sym number)
