-- JVMS 4.2 as rules on texts, written apart from any check. A text is a list of bytes.
use Rattle.std.specs.Prelude.{ℕ, ◌≤◌, ◌<◌, Bool, List, [], ◌∷◌, ◌++◌, ◌≡◌, length}
use Rattle.std.proofs.Math.Bool.{So}
use Rattle.laws.specs.Bytes.{byte, ascii, In}

-- JVMS 4.2.2: "must contain at least one" and "must not contain any of" these
pub record Name (barred s : List ℕ) : Type 0 where
  pub some : 0 < length s
  pub none : (b : ℕ) → In b s → In b barred → ⊥

abbrev pub UnqualifiedName : List ℕ → Type 0
UnqualifiedName = Name (ascii ".;[/")

-- JVMS 4.2.2: a method's name holds no < or > either, but for the two special names, each where its flag allows it
pub data MethodName (init clinit : Bool) (s : List ℕ) : Type 0 where
  plain : Name (ascii ".;[/<>") s → MethodName init clinit s
  instance_initializer : So init → s ≡ ascii "<init>" → MethodName init clinit s
  class_initializer : So clinit → s ≡ ascii "<clinit>" → MethodName init clinit s

-- names with a / between each two
pub data Joined (barred : List ℕ) : List ℕ → Type 0 where
  last : {s : List ℕ} → Name barred s → Joined barred s
  more : {s w t : List ℕ} → Name barred w → Joined barred t → s ≡ w ++ byte "/" ∷ t → Joined barred s

-- JVMS 4.2.1: its identifiers are unqualified names
abbrev pub BinaryName : List ℕ → Type 0
BinaryName = Joined (ascii ".;[/")

-- JVMS 4.2.3: what stands by itself is none of 00 to 1f and none of : @ \
pub record PlainModuleByte (b : ℕ) : Type 0 where
  pub printable : 0x20 ≤ b
  pub unreserved : In b (ascii ":@\\") → ⊥

-- JVMS 4.2.3: a \ stands only before \ : or @ , in pairs from the left
pub data ModuleName : List ℕ → Type 0 where
  empty : ModuleName []
  plain : {b : ℕ} {s : List ℕ} → PlainModuleByte b → ModuleName s → ModuleName (b ∷ s)
  pair : {e b : ℕ} {s : List ℕ} → e ≡ byte "\\" → In b (ascii "\\:@") → ModuleName s → ModuleName (e ∷ b ∷ s)
