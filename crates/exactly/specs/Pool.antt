-- Of the pool table only the entries count that instructions name. The proofs are in proofs/Pool.antt.
use Rattle.std.specs.Prelude.{ℕ, ◌≤◌, List, ◌≡◌, length}
use Rattle.laws.specs.Bytes.{In}
use Rattle.read.specs.declared.CodeOffset.{CodeOffset}
use Rattle.pool.specs.Entries.{entry_at}
use Rattle.instruction.specs.Names.{names_at}
use Rattle.lines.specs.Lines.{Reached}
use Rattle.bytecode.specs.Decoding.{pool_limit, decoding, records_after, entries_after}

-- Two tables within the limit that agree on the entries that the code's instructions name
pub record PoolsAgree (code pool other : List ℕ) : Type 0 where
  pub short_pool : length pool ≤ pool_limit
  pub short_other : length other ≤ pool_limit
  pub same : (at : CodeOffset) → Reached code pool at → (i : ℕ) → In i (names_at code at) → entry_at pool i ≡ entry_at other i

-- give the same answer: proved as `decoding_pool`
abbrev pub DecodingPool : Type 0
DecodingPool =
    (code pool other : List ℕ) (room_of_records room_of_entries : ℕ) → PoolsAgree code pool other
    → decoding code pool room_of_records room_of_entries ≡ decoding code other room_of_records room_of_entries

-- and the same stores: proved as `stores_pool`
abbrev pub StoresPool : Type 0
StoresPool =
    (code pool other records entries : List ℕ) → PoolsAgree code pool other
    → (records_after code pool records entries ≡ records_after code other records entries)
    × (entries_after code pool records entries ≡ entries_after code other records entries)
