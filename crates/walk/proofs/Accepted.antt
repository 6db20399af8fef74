-- The instructions of an accepted code tile it, each is what stands there, and all their jumps land.
use Prim.Native.Nat.{ℕ, ◌+◌}
use mathlib.Core.List.Memᴰ
use mathlib.Core.List.{List, ◌∷◌, map, map-map, Memᴰ}
use mathlib.Core.Logic.{⊎_elim}
use mathlib.Core.Path.{◌≡◌, refl, sym, ap, ◌∙◌, subst}
use native.Mathlib.Omega.{arith}
use lib.IntN.{ℤ, pos, ◌+ℤ◌, ◌-ℤ◌}
use lib.ListN.{length, length-map}
use Rattle.std.specs.Prelude.{Ok}
use Rattle.read.specs.declared.CodeOffset.{CodeOffset}
use Rattle.read.specs.Reads.{after}
use Rattle.opcodes.specs.Formats.{format_of}
use Rattle.opcodes.specs.InstructionKinds.{kind_of}
use Rattle.opcodes.specs.Operands.{Layout, layout_of}
use Rattle.operands.specs.Signed.{signed_of}
use Rattle.ordinary.specs.declared.Instruction.{Instruction}
use Rattle.ordinary.specs.declared.Instruction.TheVariants as instruction
use Rattle.instruction.specs.Steps.{step_of}
use Rattle.instruction.specs.Pictures.{Follows, StandsAt}
use Rattle.instruction.specs.Entries.{entries_of}
use Rattle.instruction.proofs.Exactly.{step_exactly, step_within}
use Rattle.lines.specs.Lines.{Line, Lines, lines_of, list_of, Consecutive}
use Rattle.lines.proofs.Exactly.{lines_exactly}
use Rattle.records.specs.declared.SwitchEntry.{SwitchEntry}
use Rattle.switches.specs.Entries.{entries_in}
use Rattle.filling.proofs.Entries.{all_entries}
use Rattle.jumps.specs.Jumps.{Jumps, check}
use Rattle.jumps.proofs.Exactly.{good_exactly}
use Rattle.bytecode.specs.Decoding.{counts, run_from, jump_words}
use Rattle.bytecode.proofs.Accepted.{acceptance}
use Rattle.walk.specs.Walk.{Node, Tiles, On, Along, Safe}
use Rattle.walk.specs.Nodes.{node_of, nodes_of}
use Rattle.walk.specs.Theorems.{AcceptedMeetsDemand3}
use Rattle.walk.proofs.Any.{any_walk}

-- (a) consecutive lines up to the code's end
module _ (code pool : List ℕ) where
  each_decoded : (ls : Lines) (at : CodeOffset) → Consecutive code pool at ls → {l : Line} → Memᴰ l (list_of ls) → step_of code pool l.at ≡ Ok (l.instruction, l.next)
  unfolding list_of
  each_decoded (Lines.line x rest) at f m =
      ⊎_elim
      (λ e. subst (λ (l : Line). step_of code pool l.at ≡ Ok (l.instruction, l.next)) (sym e) (ap (step_of code pool) f.0 ∙ f.2))
      (each_decoded rest x.next f.3) (Memᴰ.cases_cons m)
  each_decoded Lines.end at f m = absurd (Memᴰ.not-nil m)
  each_decoded (Lines.stop r) at f m = absurd (Memᴰ.not-nil m)

  tiles : (ls : Lines) (at : CodeOffset) (k m k' m' : ℕ) → Consecutive code pool at ls → run_from k m ls ≡ Ok (counts k' m') → Tiles at.0 (map (node_of code) (list_of ls)) (length code)
  unfolding list_of run_from
  tiles (Lines.line l rest) at k m k' m' f e =
      let starts : l.at.0 ≡ at.0 = ap (λ (o : CodeOffset). o.0) f.0 in
      let within = step_within code pool at l.instruction l.next f.2 in
      (starts, omega (arith, within.longer), tiles rest l.next (k + 1) (m + entries_of l.instruction) k' m' f.3 e)
  tiles Lines.end at k m k' m' f e = f
  tiles (Lines.stop r) at k m k' m' f e = absurd (let z : ◌≡◌ {A = ℕ} 0 1 = cc in omega arith)

-- (b) the entries of a tableswitch, by its picture
abbrev Counted : Instruction → Type 0
Counted (instruction.Ordinary kind a b) = Unit {0}
Counted (instruction.TableSwitch default low high from count) = pos count ≡ signed_of high -ℤ signed_of low +ℤ pos 1
Counted (instruction.LookupSwitch default from count) = Unit {0}

counted : (kind : ℕ) (at : CodeOffset) (l : Layout) (i : Instruction) (bytes : List ℕ) → Follows kind at l i bytes → Counted i
counted kind at (Layout.operands os) i bytes p = subst Counted (sym p.is) tt
counted kind at Layout.wide i bytes p = subst Counted (sym p.picture.is) tt
counted kind at Layout.table_switch i bytes p = subst Counted (sym p.is) (sym p.counted)
counted kind at Layout.lookup_switch i bytes p = subst Counted (sym p.is) tt
counted kind at Layout.none i bytes p = absurd p

-- (c) nodes whose jumps are good
abbrev pub jumps_at : List Node → List Jumps
jumps_at nodes = map (λ (n : Node). n.jumps) nodes

pub good_walks : (nodes : List Node) (end : ℕ) → Tiles 0 nodes end → check (jumps_at nodes) ≡ Ok tt → Safe nodes (Along nodes) end
good_walks nodes end tiled good = any_walk nodes end tiled (Along nodes) lands
  where
    lands : (p q : ℤ) → Along nodes p q → On nodes q
    lands p q a =
        let to = (good_exactly (jumps_at nodes)).0 good a.on.node.jumps (Memᴰ.map _ a.on.listed) a.word a.listed in
        let j = Memᴰ.of_map (λ (j : Jumps). j.at.0) (jumps_at nodes) to.listed in
        let n = Memᴰ.of_map (λ (n : Node). n.jumps) nodes j.1 in
        record { node = n.0; listed = n.1; starts = a.leads ∙ to.is ∙ ap pos (sym j.2 ∙ ap (λ (j : Jumps). j.at.0) (sym n.2)) }

module _ (code pool : List ℕ) where
  consecutive : Consecutive code pool (record { 0 = 0 }) (lines_of code pool)
  consecutive = (lines_exactly code pool (lines_of code pool)).0 refl

  module _ (l : Line) (listed : Memᴰ l (list_of (lines_of code pool))) where
    decodes : step_of code pool l.at ≡ Ok (l.instruction, l.next)
    decodes = each_decoded code pool (lines_of code pool) (record { 0 = 0 }) consecutive listed

    stands : StandsAt code pool l.at l.instruction l.next
    stands = (step_exactly code pool l.at l.instruction l.next).0 decodes

    tables :
        (default low high : ℕ) (from : CodeOffset) (count : ℕ) → l.instruction ≡ instruction.TableSwitch default low high from count
        → (others : List ℕ) × (jump_words code l.instruction ≡ default ∷ others) × (pos (length others) ≡ signed_of high -ℤ signed_of low +ℤ pos 1)
    unfolding jump_words
    tables default low high from count is =
        let table : Instruction = instruction.TableSwitch default low high from count in
        let p = stands.picture in
        let number : Counted table = subst Counted is (counted (kind_of p.opcode) (after 1 l.at) (layout_of (format_of p.opcode)) l.instruction p.rest p.follows) in
        let all = length-map (entries_in code table) (λ (e : SwitchEntry). e.jump) ∙ all_entries code table in
        (map (λ (e : SwitchEntry). e.jump) (entries_in code table), ap (jump_words code) is, ap pos all ∙ number)

pub accepted_meets : AcceptedMeetsDemand3
accepted_meets code pool room_of_records room_of_entries k m e =
    let a = acceptance code pool room_of_records room_of_entries k m e in
    let covers = tiles code pool (lines_of code pool) (record { 0 = 0 }) 0 0 k m (consecutive code pool) a.filled in
    record {
      covers = covers;
      stands = stands code pool;
      tables = tables code pool;
      walks = good_walks (nodes_of code pool) (length code) covers (ap check (map-map _ (node_of code) (list_of (lines_of code pool))) ∙ a.good);
    }
