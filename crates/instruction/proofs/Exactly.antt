-- A step decodes exactly what stands there, and where it ends.
use Prim.Native.Nat.{ℕ, suc, ◌+◌, ◌≤◌, ◌<◌}
use mathlib.Core.List.{List, [], ◌∷◌}
use mathlib.Core.Logic.{◌↔◌}
use mathlib.Core.Path.{◌≡◌, refl, sym, ap, ◌∙◌, subst}
use native.Mathlib.Omega.{arith}
use lib.ListN.{length}
use Rattle.read.specs.declared.CodeOffset.{CodeOffset}
use Rattle.std.specs.Prelude.{Ok}
use Rattle.read.specs.Reads.{Read, after, read_of}
use Rattle.opcodes.specs.Formats.{format_of}
use Rattle.opcodes.specs.InstructionKinds.{kind_of}
use Rattle.opcodes.specs.Operands.{Layout, layout_of}
use Rattle.operands.specs.Pictures.{Stand}
use Rattle.operands.proofs.Parts.{clash}
use Rattle.operands.proofs.Exactly.{byte_there, byte_read}
use Rattle.operands.proofs.Standing.{stand_join, stand_part}
use Rattle.ordinary.specs.declared.Instruction.{Instruction}
use Rattle.ordinary.specs.Ordinary.{then_read}
use Rattle.ordinary.proofs.Exactly.{then_found, operands_exactly, wide_exactly, further}
use Rattle.switches.proofs.Exactly.{table_exactly, lookup_exactly, table_length, lookup_length}
use Rattle.instruction.specs.Steps.{laid_out, step_of}
use Rattle.instruction.specs.Pictures.{Follows, NamedAfter, StandsAt}
use Rattle.instruction.specs.Entries.{entries_of, EntriesLast, Within}
use Rattle.instruction.specs.Theorems.{StepExactly, StepWithin}

-- what follows an opcode
module _ (code pool : List ℕ) (kind : ℕ) (place : CodeOffset) (at : CodeOffset) (h : at.0 ≤ length code) (i : Instruction) (next : CodeOffset) where
  record After (l : Layout) : Type 0 where
    bytes : List ℕ
    follows : Follows kind at l i bytes
    named : NamedAfter pool kind at l i bytes follows
    stand : Stand code at bytes
    ends : next ≡ after (length bytes) at

  after_exactly : (l : Layout) → (laid_out code pool kind place at l ≡ Ok (i, next)) ↔ After l
  after_exactly (Layout.operands os) =
      let exactly = operands_exactly code pool kind os at i next h in
      (λ e. let p = exactly.0 e in record { bytes = p.0; follows = p.1; named = p.2; stand = p.3; ends = p.4 }, λ a. exactly.1 (a.bytes, a.follows, a.named, a.stand, a.ends))
  after_exactly Layout.wide =
      let exactly = wide_exactly code pool at i next in
      (λ e. let p = exactly.0 e in record { bytes = p.0; follows = p.1; named = tt; stand = p.2; ends = p.3 }, λ a. exactly.1 (a.bytes, a.follows, a.stand, a.ends))
  after_exactly Layout.table_switch =
      let exactly = table_exactly code at i next in
      (λ e. let p = exactly.0 e in record { bytes = p.0; follows = p.1; named = tt; stand = p.2; ends = p.3 }, λ a. exactly.1 (a.bytes, a.follows, a.stand, a.ends))
  after_exactly Layout.lookup_switch =
      let exactly = lookup_exactly code at i next in
      (λ e. let p = exactly.0 e in record { bytes = p.0; follows = p.1; named = tt; stand = p.2; ends = p.3 }, λ a. exactly.1 (a.bytes, a.follows, a.stand, a.ends))
  after_exactly Layout.none = (λ e. absurd (clash e), λ a. absurd a.follows)

one_more : (at : CodeOffset) (n : ℕ) → after n (after 1 at) ≡ after (suc n) at
one_more at n = further at 1 n ∙ ap (λ (k : ℕ). after k at) (let same : 1 + n ≡ suc n = omega arith in same)

pub step_exactly : StepExactly
unfolding step_of
step_exactly code pool at i next = (to, from)
  where
    to : then_read (read_of 1 code at) (λ byte mid. laid_out code pool (kind_of byte) at mid (layout_of (format_of byte))) ≡ Ok (i, next) → StandsAt code pool at i next
    to e =
        let f = then_found (read_of 1 code at) _ i next e in
        let b = byte_there code at f.value f.mid f.reads in
        let decodes : laid_out code pool (kind_of f.value) at (after 1 at) (layout_of (format_of f.value)) ≡ Ok (i, next) = subst (λ (m : CodeOffset). laid_out code pool (kind_of f.value) at m (layout_of (format_of f.value)) ≡ Ok (i, next)) b.1 f.decodes in
        let a = (after_exactly code pool (kind_of f.value) at (after 1 at) b.0.within i next (layout_of (format_of f.value))).0 decodes in
        record {
          bytes = f.value ∷ a.bytes;
          picture = record { opcode = f.value; rest = a.bytes; drawn = refl; follows = a.follows };
          named = a.named;
          stand = stand_join code at (f.value ∷ []) a.bytes b.0 a.stand;
          place = a.ends ∙ one_more at (length a.bytes);
        }

    from : StandsAt code pool at i next → then_read (read_of 1 code at) (λ byte mid. laid_out code pool (kind_of byte) at mid (layout_of (format_of byte))) ≡ Ok (i, next)
    from s =
        let p = s.picture in
        let parts = stand_part code at (p.opcode ∷ []) p.rest (subst (Stand code at) p.drawn s.stand) in
        let ends : next ≡ after (length p.rest) (after 1 at) = s.place ∙ ap (λ (l : List ℕ). after (length l) at) p.drawn ∙ sym (one_more at (length p.rest)) in
        ap (λ (r : Read). then_read r (λ byte mid. laid_out code pool (kind_of byte) at mid (layout_of (format_of byte)))) (byte_read code at p.opcode parts.0)
        ∙ (after_exactly code pool (kind_of p.opcode) at (after 1 at) parts.0.within i next (layout_of (format_of p.opcode))).1 (record { bytes = p.rest; follows = p.follows; named = s.named; stand = parts.1; ends = ends })

-- the entries of what follows an opcode come last in it
entries_last : (place at : CodeOffset) → place.0 < at.0 → (kind : ℕ) (l : Layout) (i : Instruction) (bytes : List ℕ) → Follows kind at l i bytes → (entries_of i ≤ length bytes) × EntriesLast place i (after (length bytes) at)
entries_last place at h kind (Layout.operands os) i bytes p = subst (λ (j : Instruction). (entries_of j ≤ length bytes) × EntriesLast place j (after (length bytes) at)) (sym p.is) (omega arith, tt)
entries_last place at h kind Layout.wide i bytes p = subst (λ (j : Instruction). (entries_of j ≤ length bytes) × EntriesLast place j (after (length bytes) at)) (sym p.picture.is) (omega arith, tt)
entries_last place at h kind Layout.table_switch i bytes p =
    let all = table_length p in
    subst (λ (j : Instruction). (entries_of j ≤ length bytes) × EntriesLast place j (after (length bytes) at)) (sym p.is) (omega (arith, all), (omega arith, omega (arith, all)))
entries_last place at h kind Layout.lookup_switch i bytes p =
    let all = lookup_length p in
    subst (λ (j : Instruction). (entries_of j ≤ length bytes) × EntriesLast place j (after (length bytes) at)) (sym p.is) (omega (arith, all), (omega arith, omega (arith, all)))
entries_last place at h kind Layout.none i bytes p = absurd p

pub step_within : StepWithin
step_within code pool at i next e =
    let s = (step_exactly code pool at i next).0 e in
    let p = s.picture in
    let size : length s.bytes ≡ suc (length p.rest) = ap length p.drawn in
    let ends : next ≡ after (length p.rest) (after 1 at) = s.place ∙ ap (λ (n : ℕ). after n at) size ∙ sym (one_more at (length p.rest)) in
    let last = entries_last at (after 1 at) (omega arith) (kind_of p.opcode) (layout_of (format_of p.opcode)) i p.rest p.follows in
    let count : entries_of i ≤ length p.rest = last.0 in
    let fits : at.0 + length s.bytes ≤ length code = s.stand.within in
    subst (Within code at i) (sym ends) (record { longer = omega arith; ends = omega arith; last = last.1 })
