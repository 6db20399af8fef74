-- The lines of a code, said without counting. The proofs are in proofs/Exactly.antt and proofs/Pool.antt.
use Rattle.std.specs.Prelude.{ℕ, List, ◌↔◌, ◌≡◌}
use Rattle.laws.specs.Bytes.{In}
use Rattle.read.specs.declared.CodeOffset.{CodeOffset}
use Rattle.pool.specs.Entries.{entry_at}
use Rattle.instruction.specs.Names.{names_at}
use Rattle.lines.specs.Lines.{Lines, lines_of, Consecutive, Reached}

-- The lines of a code are the consecutive ones from 0 on, and no others: proved as `lines_exactly`
abbrev pub LinesExactly : Type 0
LinesExactly = (code pool : List ℕ) (ls : Lines) → (lines_of code pool ≡ ls) ↔ Consecutive code pool (record { 0 = 0 }) ls

-- The lines depend on the pool table only through the entries that its instructions name: proved as `lines_pool`
abbrev pub LinesPool : Type 0
LinesPool =
    (code pool other : List ℕ)
    → ((at : CodeOffset) → Reached code pool at → (i : ℕ) → In i (names_at code at) → entry_at pool i ≡ entry_at other i)
    → lines_of code pool ≡ lines_of code other
