use mathlib.Core.Path.{refl}
use Rattle.read.specs.Reads.{big_endian, bytes_of, read_of}
use Rattle.bundle.specs.Reading.{bytes_from, after_length, then_section, method_of, next_of}
use Rattle.bundle.specs.Examples.{BundlesCompute, PictureComputes}

pub bundles_compute : BundlesCompute
unfolding big_endian read_of bytes_from after_length then_section method_of next_of
bundles_compute = refl

pub picture_computes : PictureComputes
unfolding bytes_of
picture_computes = refl
