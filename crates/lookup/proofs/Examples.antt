use mathlib.Core.Path.{refl}
use Rattle.laws.specs.Bytes.{every}
use Rattle.laws.specs.Listed.{listed}
use Rattle.lookup.specs.Lookup.{first_from, lookup_of}
use Rattle.lookup.specs.Examples.{LookupsCompute, OffsetsCompute, RisesCompute}

pub lookups_compute : LookupsCompute
unfolding every listed first_from lookup_of
lookups_compute = refl

pub offsets_compute : OffsetsCompute
unfolding listed
offsets_compute = refl

pub rises_compute : RisesCompute
unfolding every listed
rises_compute = refl
