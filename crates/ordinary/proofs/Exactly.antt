-- Operands are read exactly where their pictures stand.
use Prim.Native.Nat.{ℕ, suc, ◌+◌, ◌≤◌}
use mathlib.Core.List.{List, [], ◌∷◌, ◌++◌, append_assoc, append-nil}
use mathlib.Core.Path.{◌≡◌, refl, sym, ap, ap₂, ◌∙◌, subst}
use native.Mathlib.Omega.{arith}
use lib.ListN.{length, length-append}
use Rattle.read.specs.declared.CodeOffset.{CodeOffset}
use Rattle.read.specs.Reads.{Read, after, read_of}
use Rattle.std.specs.Prelude.{Ok, Err}
use Rattle.opcodes.specs.declared.WideForm.{WideForm}
use Rattle.opcodes.specs.declared.WideForm.TheVariants as wide
use Rattle.opcodes.specs.Operands.{Meaning, Operand, WideLayout, increment_of, wide_layout_of}
use Rattle.opcodes.specs.Wide.{wide_form_of}
use Rattle.operands.specs.Checks.{operand_at}
use Rattle.operands.specs.Pictures.{Stand, Stands}
use Rattle.operands.proofs.Parts.{clash, same_first, same_end}
use Rattle.operands.proofs.Exactly.{operand_exactly, nowhere, byte_there, byte_read}
use Rattle.operands.proofs.Standing.{stand_join, stand_part}
use Rattle.ordinary.specs.declared.Instruction.{Instruction}
use Rattle.ordinary.specs.Ordinary.{Step, then_read, ordinary, operands_from, widened_by, widened, wide_step}
use Rattle.ordinary.specs.Pictures.{Pictures, NamedAll, WidePicture}
use Rattle.ordinary.specs.Theorems.{OperandsExactly, WideExactly}

abbrev pub decoded : Instruction → CodeOffset → Step
decoded i next = Ok (i, next)

-- what a read must find for what follows it to decode an instruction
pub record Found (r : Read) (follows : ℕ → CodeOffset → Step) (i : Instruction) (next : CodeOffset) : Type 0 where
  pub value : ℕ
  pub mid : CodeOffset
  pub reads : r ≡ Ok (value, mid)
  pub decodes : follows value mid ≡ Ok (i, next)

pub then_found : (r : Read) (follows : ℕ → CodeOffset → Step) (i : Instruction) (next : CodeOffset) → then_read r follows ≡ Ok (i, next) → Found r follows i next
then_found (Ok found) follows i next e = record { value = found.0; mid = found.1; reads = refl; decodes = e }
then_found (Err r) follows i next e = absurd (clash e)

-- the same with values before the operands
record From (code pool : List ℕ) (kind : ℕ) (before : List ℕ) (os : List Operand) (at : CodeOffset) (i : Instruction) (next : CodeOffset) : Type 0 where
  bytes : List ℕ
  values : List ℕ
  drawn : Pictures os values bytes
  named : NamedAll pool drawn
  is : i ≡ ordinary kind (before ++ values)
  stand : Stand code at bytes
  place : next ≡ after (length bytes) at

pub further : (at : CodeOffset) (m n : ℕ) → after n (after m at) ≡ after (m + n) at
further at m n = ap (λ (k : ℕ). record { 0 = k }) (let same : at.0 + m + n ≡ at.0 + (m + n) = omega arith in same)

module _ (code pool : List ℕ) (kind : ℕ) (i : Instruction) (next : CodeOffset) where
  to : (before : List ℕ) (os : List Operand) (at : CodeOffset) → at.0 ≤ length code → operands_from code pool kind before os at ≡ Ok (i, next) → From code pool kind before os at i next
  unfolding operands_from
  to before [] at h e =
      let same : next ≡ at = sym (same_end e) in
      let is : i ≡ ordinary kind before = sym (same_first e) in
      record { bytes = []; values = []; drawn = Pictures.none; named = tt; is = is ∙ ap (ordinary kind) (sym (append-nil before)); stand = record { within = omega arith; there = refl }; place = same ∙ nowhere at }
  to before (o ∷ os) at h e =
      let f = then_found (operand_at code pool o at) (λ v mid. operands_from code pool kind (before ++ v ∷ []) os mid) i next e in
      let s = (operand_exactly code pool o at f.value f.mid h).0 f.reads in
      let fits : f.mid.0 ≤ length code = subst (λ (m : CodeOffset). m.0 ≤ length code) (sym s.place) s.stand.within in
      let rest = to (before ++ f.value ∷ []) os f.mid fits f.decodes in
      joined s rest
    where
      joined : {v : ℕ} {mid : CodeOffset} → Stands code pool o at v mid → From code pool kind (before ++ v ∷ []) os mid i next → From code pool kind before (o ∷ os) at i next
      joined {v} {mid} s r =
          let all : length (s.bytes ++ r.bytes) ≡ length s.bytes + length r.bytes = length-append s.bytes r.bytes in
          record {
            bytes = s.bytes ++ r.bytes;
            values = v ∷ r.values;
            drawn = Pictures.more s.bytes r.bytes s.drawn r.drawn refl;
            named = (s.named, r.named);
            is = r.is ∙ ap (ordinary kind) (append_assoc before (v ∷ []) r.values);
            stand = stand_join code at s.bytes r.bytes s.stand (subst (λ (m : CodeOffset). Stand code m r.bytes) s.place r.stand);
            place = r.place ∙ ap (after (length r.bytes)) s.place ∙ further at (length s.bytes) (length r.bytes) ∙ ap (λ (n : ℕ). after n at) (sym all);
          }

module _ (code pool : List ℕ) (kind : ℕ) where
  from : (before : List ℕ) (at : CodeOffset) → at.0 ≤ length code → {os : List Operand} {values bytes : List ℕ} → (p : Pictures os values bytes) → NamedAll pool p → Stand code at bytes → operands_from code pool kind before os at ≡ Ok (ordinary kind (before ++ values), after (length bytes) at)
  unfolding operands_from
  from before at h Pictures.none named s = ap₂ decoded (ap (ordinary kind) (sym (append-nil before))) (nowhere at)
  from before at h (Pictures.more {o} {os} {v} {vs} {bytes} first rest drawn pictures e) named s =
      let parts = stand_part code at first rest (subst (Stand code at) e s) in
      let reads : operand_at code pool o at ≡ Ok (v, after (length first) at) = (operand_exactly code pool o at v (after (length first) at) h).1 (record { bytes = first; drawn = drawn; named = named.0; stand = parts.0; place = refl }) in
      let all : length first + length rest ≡ length bytes = sym (ap length e ∙ length-append first rest) in
      ap (λ (r : Read). then_read r (λ v mid. operands_from code pool kind (before ++ v ∷ []) os mid)) reads
      ∙ from (before ++ v ∷ []) (after (length first) at) parts.0.within pictures named.1 parts.1
      ∙ ap₂ decoded (ap (ordinary kind) (append_assoc before (v ∷ []) vs)) (further at (length first) (length rest) ∙ ap (λ (n : ℕ). after n at) all)

pub operands_exactly : OperandsExactly
operands_exactly code pool kind os at i next h = (
  λ e.
      let f = to code pool kind i next [] os at h e in
      (f.bytes, record { values = f.values; drawn = f.drawn; is = f.is }, f.named, f.stand, f.place),
  λ f. from code pool kind [] at h f.1.drawn f.2 f.3 ∙ ap₂ decoded (sym f.1.is) (sym f.4),
)

-- the operands after wide name no entry
names_none : (pool : List ℕ) (byte : ℕ) {os : List Operand} {values bytes : List ℕ} → wide_layout_of (wide_form_of byte) ≡ WideLayout.operands os → (p : Pictures os values bytes) → NamedAll pool p
names_none pool byte {os} {values} {bytes} e p = go (wide_form_of byte) e p
  where
    one : {values bytes : List ℕ} (p : Pictures (Operand.bytes 2 Meaning.unsigned ∷ []) values bytes) → NamedAll pool p
    one (Pictures.more first rest drawn Pictures.none e) = (tt, tt)

    two : {values bytes : List ℕ} (p : Pictures (increment_of 2) values bytes) → NamedAll pool p
    two (Pictures.more first rest drawn (Pictures.more second last also Pictures.none f) e) = (tt, (tt, tt))

    go : (form : WideForm) → wide_layout_of form ≡ WideLayout.operands os → (p : Pictures os values bytes) → NamedAll pool p
    go wide.Local q = subst (λ (l : List Operand). (p : Pictures l values bytes) → NamedAll pool p) (let same : ◌≡◌ {A = List Operand} (Operand.bytes 2 Meaning.unsigned ∷ []) os = cc in same) one
    go wide.Increment q = subst (λ (l : List Operand). (p : Pictures l values bytes) → NamedAll pool p) (let same : increment_of 2 ≡ os = cc in same) two
    go wide.NoInstruction q = absurd (let z : ◌≡◌ {A = ℕ} 0 1 = cc in omega arith)

module _ (code pool : List ℕ) (at : CodeOffset) (i : Instruction) where
  wide_to : (next : CodeOffset) → wide_step code pool at ≡ Ok (i, next) → (bytes : List ℕ) × WidePicture i bytes × Stand code at bytes × (next ≡ after (length bytes) at)
  wide_to next e =
      let f = then_found (read_of 1 code at) _ i next e in
      let b = byte_there code at f.value f.mid f.reads in
      laid (wide_layout_of (wide_form_of f.value)) refl b f.decodes
    where
      laid : {byte : ℕ} {mid : CodeOffset} (l : WideLayout) → wide_layout_of (wide_form_of byte) ≡ l → Stand code at (byte ∷ []) × (mid ≡ after 1 at) → widened code pool byte at mid ≡ Ok (i, next)
          → (bytes : List ℕ) × WidePicture i bytes × Stand code at bytes × (next ≡ after (length bytes) at)
      laid {byte} {mid} (WideLayout.operands os) q b d =
          let fits : mid.0 ≤ length code = rw b.1 b.0.within in
          let p = (operands_exactly code pool byte os mid i next fits).0 (sym (ap (widened_by code pool byte at mid) q) ∙ d) in
          let rest : Stand code (after 1 at) p.0 = subst (λ (o : CodeOffset). Stand code o p.0) b.1 p.3 in (
            byte ∷ p.0,
            record { byte = byte; rest = p.0; drawn = refl; operands = os; form = q; picture = p.1 },
            stand_join code at (byte ∷ []) p.0 b.0 rest,
            p.4 ∙ ap (after (length p.0)) b.1 ∙ further at 1 (length p.0) ∙ ap (λ (n : ℕ). after n at) (let same : 1 + length p.0 ≡ suc (length p.0) = omega arith in same),
          )
      laid {byte} {mid} WideLayout.none q b d = absurd (clash (sym (ap (widened_by code pool byte at mid) q) ∙ d))

  wide_from : (bytes : List ℕ) → WidePicture i bytes → Stand code at bytes → wide_step code pool at ≡ Ok (i, after (length bytes) at)
  wide_from bytes p s =
      let parts = stand_part code at (p.byte ∷ []) p.rest (subst (Stand code at) p.drawn s) in
      let fits : (after 1 at).0 ≤ length code = parts.0.within in
      let whole : after (length p.rest) (after 1 at) ≡ after (length bytes) at = further at 1 (length p.rest) ∙ ap (λ (n : ℕ). after n at) (let same : 1 + length p.rest ≡ suc (length p.rest) = omega arith in same ∙ sym (ap length p.drawn)) in
      ap (λ (r : Read). then_read r (λ byte mid. widened code pool byte at mid)) (byte_read code at p.byte parts.0)
      ∙ ap (widened_by code pool p.byte at (after 1 at)) p.form
      ∙ (operands_exactly code pool p.byte p.operands (after 1 at) i (after (length bytes) at) fits).1 (p.rest, p.picture, names_none pool p.byte p.form p.picture.drawn, parts.1, sym whole)

pub wide_exactly : WideExactly
wide_exactly code pool at i next = (wide_to code pool at i next, λ p. wide_from code pool at i p.0 p.1 p.2 ∙ ap (decoded i) (sym p.3))
