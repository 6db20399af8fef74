use mathlib.Core.Path.{refl}
use Rattle.read.specs.Reads.{big_endian}
use Rattle.switches.specs.Entries.{table_from, pairs_from}
use Rattle.switches.specs.Examples.{EntriesCompute}

pub entries_compute : EntriesCompute
unfolding big_endian table_from pairs_from
entries_compute = refl
