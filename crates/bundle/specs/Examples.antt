-- Worked bundles: the bytes and an offset, and what stands there. Proved in proofs/Examples.antt.
use Rattle.std.specs.Prelude.{ℕ, List, [], ◌∷◌, ◌++◌, Some, None, Ok}
use Rattle.laws.specs.Bytes.{ascii}
use Rattle.laws.specs.Examples.{Computes}
use Rattle.bundle.specs.declared.Section.{Section}
use Rattle.bundle.specs.declared.Sections.{Sections}
use Rattle.bundle.specs.Reading.{cut_at, next_of}
use Rattle.bundle.specs.Picture.{method_bytes}

-- the method `run` of descriptor `()V`, a pool table of one unused byte, and a code that returns: 18 bytes
abbrev run : List ℕ
run = 0 ∷ 3 ∷ ascii "run" ++ 0 ∷ 3 ∷ ascii "()V" ++ 0 ∷ 1 ∷ 0 ∷ 0 ∷ 0 ∷ 0 ∷ 1 ∷ 0xb1 ∷ []

-- the method whose four sections are empty
abbrev empty : List ℕ
empty = 0 ∷ 0 ∷ 0 ∷ 0 ∷ 0 ∷ 0 ∷ 0 ∷ 0 ∷ 0 ∷ 0 ∷ []

abbrev from : ℕ → ℕ → Section
from start end = record { start = start; end = end }

abbrev at : Section → Section → Section → Section → Sections
at name descriptor pool code = record { name = name; descriptor = descriptor; pool = pool; code = code }

-- proved as `bundles_compute`
abbrev pub BundlesCompute : Type 0
BundlesCompute =
    Computes (λ (e : List ℕ × ℕ). next_of e.0 e.1) (
    (([], 0), Ok None)
    ∷ ((run, 0), Ok (Some (at (from 2 5) (from 7 10) (from 12 13) (from 17 18))))
    ∷ ((run, 18), Ok None)
    ∷ ((run ++ run, 18), Ok (Some (at (from 20 23) (from 25 28) (from 30 31) (from 35 36))))
    ∷ ((run ++ empty, 18), Ok (Some (at (from 20 20) (from 22 22) (from 24 24) (from 28 28))))
    -- a length that is cut short: of the name, the descriptor, the pool table, the code
    ∷ ((0 ∷ [], 0), cut_at 0)
    ∷ ((0 ∷ 0 ∷ 0 ∷ [], 0), cut_at 2)
    ∷ ((0 ∷ 0 ∷ 0 ∷ 0 ∷ [], 0), cut_at 4)
    ∷ ((0 ∷ 0 ∷ 0 ∷ 0 ∷ 0 ∷ 0 ∷ 0 ∷ 0 ∷ 0 ∷ [], 0), cut_at 6)
    -- the bytes of a name, of a code
    ∷ ((0 ∷ 2 ∷ 0x61 ∷ [], 0), cut_at 2)
    ∷ ((0 ∷ 0 ∷ 0 ∷ 0 ∷ 0 ∷ 0 ∷ 0xff ∷ 0xff ∷ 0xff ∷ 0xff ∷ 0xb1 ∷ [], 0), cut_at 10)
    -- an offset past the end
    ∷ ((run, 19), cut_at 19)
    ∷ [])

-- the picture of `run`: proved as `picture_computes`
abbrev pub PictureComputes : Type 0
PictureComputes = Computes (λ (code : List ℕ). method_bytes (ascii "run") (ascii "()V") (0 ∷ []) code) ((0xb1 ∷ [], run) ∷ [])
