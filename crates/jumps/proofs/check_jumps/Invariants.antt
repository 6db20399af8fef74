-- What is left decides as the whole.
use Prim.Native.Nat.{ℕ}
use Rattle.records.specs.Records.{index, record_at}
use Rattle.jumps.specs.Jumps.{starts_of, all_check}
use Rattle.jumps.specs.Stored.{stored_jumps, jumps_in}
use Rattle.jumps.proofs.Laws.{Left}
use Rattle.jumps.proofs.check_jumps.Given as goal

abbrev pub invariant-loop-i : goal.invariant-loop-i
invariant-loop-i l =
    let records = l.sorted.records.now in
    Left (λ (k : ℕ). all_check (starts_of (jumps_in records l.sorted.count l.entries))) (λ (j : ℕ). stored_jumps l.entries (record_at records (index j))) 0 l.sorted.count l.i
