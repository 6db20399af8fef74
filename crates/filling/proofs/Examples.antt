use mathlib.Core.Path.{refl}
use Rattle.filling.specs.Examples.{RecordsCompute}

pub records_compute : RecordsCompute
records_compute = refl
