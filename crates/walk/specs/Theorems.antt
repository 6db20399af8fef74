-- Demand 3. The proofs are in proofs/Any.antt, proofs/Accepted.antt and proofs/Stores.antt.
use Rattle.std.specs.Prelude.{ℕ, ◌≤◌, ◌<◌, true, false, ◌&&◌, ◌≡◌, leb, ltb, ℤ, pos, ◌+ℤ◌, ◌-ℤ◌, length, Ok}
use mathlib.Core.List.{List, [], ◌∷◌, Memᴰ}
use Rattle.read.specs.declared.CodeOffset.{CodeOffset}
use Rattle.ordinary.specs.declared.Instruction.TheVariants as instruction
use Rattle.operands.specs.Signed.{signed_of}
use Rattle.instruction.specs.Pictures.{StandsAt}
use Rattle.lines.specs.Lines.{Line, lines_of, list_of}
use Rattle.bytecode.specs.Decoding.{Decision, counts, jump_words, decoding}
use Rattle.walk.specs.Walk.{Node, start, Tiles, On, Along, Safe}
use Rattle.walk.specs.Nodes.{nodes_of, nodes_in, Decodes}

-- For ANY kind of step whose targets start instructions, walks are safe: proved as `any_walk`. Handlers (JVMS 4.7.3) can
-- be such steps
abbrev pub AnyWalk : Type 1
AnyWalk =
    (nodes : List Node) (end : ℕ) → Tiles 0 nodes end
    → (Other : ℤ → ℤ → Type 0) → ((p q : ℤ) → Other p q → On nodes q) → Safe nodes Other end

-- What covering means byte by byte: each byte up to the end lies in one node and in no other, and none lies past the end.
-- Proved as `one_node`
unfoldable pub nodes_at : ℕ → List Node → List Node
nodes_at i [] = []
nodes_at i (n ∷ nodes) = elim (leb (start n) i && ltb i n.next) [ true ↦ n ∷ nodes_at i nodes | false ↦ nodes_at i nodes ]

abbrev pub OneNode : Type 0
OneNode =
    (nodes : List Node) (end : ℕ) → Tiles 0 nodes end → (i : ℕ)
    → (i < end → length (nodes_at i nodes) ≡ 1) × (end ≤ i → length (nodes_at i nodes) ≡ 0)

-- The three parts of demand 3, of a code and a pool table
pub record Demand3 (code pool : List ℕ) : Type 0 where
  -- (a) the instructions cover the bytes from 0 to the end, and each is what stands there by JVMS 6.5
  pub covers : Tiles 0 (nodes_of code pool) (length code)
  pub stands : (l : Line) → Memᴰ l (list_of (lines_of code pool)) → StandsAt code pool l.at l.instruction l.next
  -- (b) a tableswitch holds exactly high - low + 1 jumps beside its default, as signed numbers
  pub tables :
      (l : Line) → Memᴰ l (list_of (lines_of code pool)) → (default low high : ℕ) (from : CodeOffset) (count : ℕ)
      → l.instruction ≡ instruction.TableSwitch default low high from count
      → (others : List ℕ) × (jump_words code l.instruction ≡ default ∷ others) × (pos (length others) ≡ signed_of high -ℤ signed_of low +ℤ pos 1)
  -- (c) any walk from 0 stands on an instruction or at the end, reached only past the last one
  pub walks : Safe (nodes_of code pool) (Along (nodes_of code pool)) (length code)

-- Every accepted code meets demand 3: proved as `accepted_meets`
abbrev pub AcceptedMeetsDemand3 : Type 0
AcceptedMeetsDemand3 =
    (code pool : List ℕ) (room_of_records room_of_entries k m : ℕ) → decoding code pool room_of_records room_of_entries ≡ Ok (counts k m) → Demand3 code pool

-- Where a code is decoded, the words of the two stores tell the same nodes: proved as `stores_tell`
abbrev pub StoresTell : Type 0
StoresTell =
    (code pool records entries : List ℕ) (answer : Decision) (records' entries' : List ℕ) (k m : ℕ)
    → Decodes code pool records entries answer records' entries' k m
    → nodes_in records' k entries' (length code) ≡ nodes_of code pool

-- so who has only the stores can walk by them: proved as `stores_safe`
abbrev pub StoresSafe : Type 0
StoresSafe =
    (code pool records entries : List ℕ) (answer : Decision) (records' entries' : List ℕ) (k m : ℕ)
    → Decodes code pool records entries answer records' entries' k m
    → Tiles 0 (nodes_in records' k entries' (length code)) (length code)
    × Safe (nodes_in records' k entries' (length code)) (Along (nodes_in records' k entries' (length code))) (length code)
