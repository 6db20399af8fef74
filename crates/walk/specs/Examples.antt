-- Worked codes and their nodes, no pool entry being named. Proved in proofs/Examples.antt.
use Rattle.std.specs.Prelude.{ℕ, List, [], ◌∷◌, ◌++◌}
use Rattle.laws.specs.Examples.{Computes}
use Rattle.walk.specs.Walk.{Node}
use Rattle.walk.specs.Nodes.{nodes_of}

abbrev node : ℕ → List ℕ → ℕ → Node
node at words next = record { jumps = record { at = record { 0 = at }; words = words }; next = next }

abbrev word : ℕ → List ℕ
word low = 0 ∷ 0 ∷ 0 ∷ low ∷ []

abbrev minus_one : List ℕ
minus_one = 0xff ∷ 0xff ∷ 0xff ∷ 0xff ∷ []

-- proved as `nodes_compute`
abbrev pub NodesCompute : Type 0
NodesCompute =
    Computes (λ (code : List ℕ). nodes_of code []) (
    -- iload_0, ifeq 7, iinc 0 -1, return
    (0x1a ∷ 0x99 ∷ 0 ∷ 6 ∷ 0x84 ∷ 0 ∷ 0xff ∷ 0xb1 ∷ [], node 0 [] 1 ∷ node 1 (6 ∷ []) 4 ∷ node 4 [] 7 ∷ node 7 [] 8 ∷ [])
    -- tableswitch of the keys 0 and 1, return
    ∷ (0xaa ∷ 0 ∷ 0 ∷ 0 ∷ word 24 ++ word 0 ++ word 1 ++ word 24 ++ word 24 ++ 0xb1 ∷ [], node 0 (24 ∷ 24 ∷ 24 ∷ []) 24 ∷ node 24 [] 25 ∷ [])
    ∷ ([], [])
    -- goto itself
    ∷ (0xa7 ∷ 0 ∷ 0 ∷ [], node 0 (0 ∷ []) 3 ∷ [])
    -- lookupswitch of one pair, whose key is no jump, and whose default goes back to nop
    ∷ (0 ∷ 0xab ∷ 0 ∷ 0 ∷ minus_one ++ word 1 ++ word 7 ++ word 19 ++ 0xb1 ∷ [], node 0 [] 1 ∷ node 1 (0xffff_ffff ∷ 19 ∷ []) 20 ∷ node 20 [] 21 ∷ [])
    ∷ [])
