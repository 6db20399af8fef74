-- Of the pool table only the entries count that instructions name.
use Prim.Native.Nat.{ℕ}
use mathlib.Core.List.{List}
use mathlib.Core.Path.{◌≡◌, refl, sym, ap, ap₂, ◌∙◌}
use native.Mathlib.Omega.{arith}
use Rattle.lines.specs.Lines.{Lines}
use Rattle.lines.proofs.Pool.{lines_pool}
use Rattle.records.specs.Records.{record_room, entry_room}
use Rattle.bytecode.specs.Decoding.{Decision, fitting, records_from, entries_from, answer_of, limited, decoding, store_after}
use Rattle.bytecode.proofs.Limits.{over_code, both_within, Limits, by_limits}
use Rattle.exactly.specs.Pool.{PoolsAgree, DecodingPool, StoresPool}

-- of two tables within the limit neither is refused
module _ (code pool other : List ℕ) (a : PoolsAgree code pool other) (answer : Decision) where
  same_limits : Limits code pool answer (limited code pool answer) → limited code pool answer ≡ limited code other answer
  same_limits (Limits.within c p e) = e ∙ sym (both_within code other answer c a.short_other)
  same_limits (Limits.long_pool c p e) = absurd (omega (arith, a.short_pool))
  same_limits (Limits.long_code c e) = e ∙ sym (over_code code other answer c)

pub decoding_pool : DecodingPool
unfolding decoding
decoding_pool code pool other room_of_records room_of_entries a =
    ap (λ (ls : Lines). limited code pool (answer_of code (fitting room_of_records room_of_entries ls))) (lines_pool code pool other a.same)
    ∙ same_limits code pool other a _ (by_limits code pool _ refl)

pub stores_pool : StoresPool
stores_pool code pool other records entries a =
    let same = lines_pool code pool other a.same in
    let answer = decoding_pool code pool other (record_room records) (entry_room entries) a in (
      ap₂ (λ (d : Decision) (ls : Lines). store_after 0 d records (records_from 0 0 (fitting (record_room records) (entry_room entries) ls) records)) answer same,
      ap₂ (λ (d : Decision) (ls : Lines). store_after 0 d entries (entries_from code 0 (fitting (record_room records) (entry_room entries) ls) entries)) answer same,
    )
