use mathlib.Core.Path.{refl}
use Rattle.pool.specs.Entries.{entry_at, of_kind}
use Rattle.pool.specs.Examples.{EntriesCompute}

pub entries_compute : EntriesCompute
unfolding entry_at of_kind
entries_compute = refl
