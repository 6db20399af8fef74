-- What is shown of a text. The proofs are in proofs/Apart.antt.
use Rattle.std.specs.Prelude.{ℕ, Bool, ◌&&◌, List, ◌≡◌, leb}
use Rattle.std.proofs.Math.Bool.{So}
use Rattle.laws.specs.Bytes.{AreBytes, every}
use Rattle.listing.specs.Escapes.{shown_text}

abbrev pub is_printable : ℕ → Bool
is_printable b = leb 0x20 b && leb b 0x7e

-- It is printable ASCII alone: proved as `shown_printable`
abbrev pub ShownPrintable : Type 0
ShownPrintable = (text : List ℕ) → AreBytes text → So (every is_printable (shown_text text))

-- Two texts that are shown alike are the same: proved as `shown_apart`
abbrev pub ShownApart : Type 0
ShownApart = (s t : List ℕ) → AreBytes s → AreBytes t → shown_text s ≡ shown_text t → s ≡ t
