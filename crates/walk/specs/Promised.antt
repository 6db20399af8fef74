-- Demand 3 of `decode` itself: `Decodes` of Theorems.antt is read off what the checker makes of the contract in src/ of
-- `bytecode`, so it says no more than that does. The proofs are in proofs/Promised.antt.
use Rattle.std.specs.Prelude.{ℕ, List, ◌≡◌, length, Ok}
use contract.Lifetimes.{Lfts}
use denote.Triple.Clauses.{AtExit}
use denote.Triple.Entry.{Args, Res}
use Rattle.bytecode.specs.contracts.decode as decode
use Rattle.bytecode.proofs.decode.Reads as reads
use Rattle.bytecode.specs.Decoding.{counts}
use Rattle.walk.specs.Walk.{Tiles, Along, Safe}
use Rattle.walk.specs.Nodes.{nodes_of, nodes_in, Decodes}

-- A call of `decode`, and what its caller learns from the `ensures`
pub record Call : Type 0 where
  pub lifetimes : Lfts decode.ended.signature.lifetimes
  pub arguments : Args decode.ended.signature lifetimes
  pub answer : Res decode.ended.signature lifetimes
  pub exit : AtExit decode.ended lifetimes
  pub learnt : reads.Learnt lifetimes arguments answer exit

-- what it was given, in the order of the parameters
abbrev pub code_of : Call → List ℕ
code_of c = c.arguments.0.now

abbrev pub pool_of : Call → List ℕ
pool_of c = c.arguments.1.0.now

abbrev pub records_before : Call → List ℕ
records_before c = c.arguments.1.1.0.now

abbrev pub entries_before : Call → List ℕ
entries_before c = c.arguments.1.1.1.0.now

-- and what it leaves in the two stores
abbrev pub records_left : Call → List ℕ
records_left c = c.exit.1.1.0.now

abbrev pub entries_left : Call → List ℕ
entries_left c = c.exit.1.1.1.0.now

-- Every call that accepts decodes: proved as `call_decodes`
abbrev pub CallDecodes : Type 0
CallDecodes =
    (c : Call) (k m : ℕ) → c.answer ≡ Ok (counts k m)
    → Decodes (code_of c) (pool_of c) (records_before c) (entries_before c) c.answer (records_left c) (entries_left c) k m

-- so the words that it leaves tell the nodes of the code: proved as `call_tells`
abbrev pub CallTells : Type 0
CallTells =
    (c : Call) (k m : ℕ) → c.answer ≡ Ok (counts k m)
    → nodes_in (records_left c) k (entries_left c) (length (code_of c)) ≡ nodes_of (code_of c) (pool_of c)

-- and who has only these words can walk by them: proved as `call_safe`
abbrev pub CallSafe : Type 0
CallSafe =
    (c : Call) (k m : ℕ) → c.answer ≡ Ok (counts k m)
    → Tiles 0 (nodes_in (records_left c) k (entries_left c) (length (code_of c))) (length (code_of c))
    × Safe (nodes_in (records_left c) k (entries_left c) (length (code_of c))) (Along (nodes_in (records_left c) k (entries_left c) (length (code_of c)))) (length (code_of c))
