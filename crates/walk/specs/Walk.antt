-- Walks through a code, over plain lists. Positions are whole numbers, since a jump may lead below 0.
use Rattle.std.specs.Prelude.{ℕ, ◌<◌, ◌⊎◌, ◌↔◌, ◌≡◌, ℤ, pos}
use mathlib.Core.List.{List, [], ◌∷◌, ◌++◌, Memᴰ}
use Rattle.laws.specs.Bytes.{In}
use Rattle.jumps.specs.Jumps.{Jumps, target_of}

-- an instruction as a walk sees it: its offset with its jumps, and the offset after it
pub record Node : Type 0 where
  pub jumps : Jumps
  pub next : ℕ

abbrev pub start : Node → ℕ
start n = n.jumps.at.0

-- The nodes cover the bytes from an offset to an end with no gap and no overlap: each starts where the one before it ends,
-- the last ends at the end, and none is empty
abbrev pub Tiles : ℕ → List Node → ℕ → Type 0
Tiles from [] end = from ≡ end
Tiles from (n ∷ nodes) end = (start n ≡ from) × (start n < n.next) × Tiles n.next nodes end

-- a position where a node starts
pub record On (nodes : List Node) (p : ℤ) : Type 0 where
  pub node : Node
  pub listed : Memᴰ node nodes
  pub starts : p ≡ pos (start node)

-- One step: to what follows the instruction, or along one of its jumps
pub record Following (nodes : List Node) (p q : ℤ) : Type 0 where
  pub on : On nodes p
  pub ends : q ≡ pos on.node.next

pub record Along (nodes : List Node) (p q : ℤ) : Type 0 where
  pub on : On nodes p
  pub word : ℕ
  pub listed : In word on.node.jumps.words
  pub leads : q ≡ target_of on.node.jumps.at word

-- A step to what follows, or one of any other kind. For demand 3 the other kind is `Along`; handlers can join it later
pub data Step (nodes : List Node) (Other : ℤ → ℤ → Type 0) (p q : ℤ) : Type 0 where
  on : Following nodes p q → Step nodes Other p q
  by : Other p q → Step nodes Other p q

-- Any number of steps
pub data Walk (nodes : List Node) (Other : ℤ → ℤ → Type 0) (p : ℤ) : ℤ → Type 0 where
  begin : Walk nodes Other p p
  then : {q r : ℤ} → Walk nodes Other p q → Step nodes Other q r → Walk nodes Other p r

-- The last node, which ends at the end
pub record Last (nodes : List Node) (end : ℕ) (p : ℤ) : Type 0 where
  pub before : List Node
  pub node : Node
  pub split : nodes ≡ before ++ (node ∷ [])
  pub starts : p ≡ pos (start node)
  pub ends : node.next ≡ end

-- What demand 3 asks of walks from offset 0
pub record Safe (nodes : List Node) (Other : ℤ → ℤ → Type 0) (end : ℕ) : Type 0 where
  -- a walk of any length stands on an instruction or at the end
  pub stays : (p : ℤ) → Walk nodes Other (pos 0) p → On nodes p ⊎ (p ≡ pos end)
  -- the end is reached only past the last instruction, and by no step of the other kind
  pub past_last : (p : ℤ) → Step nodes Other p (pos end) → Last nodes end p
  pub by_no_other : (p : ℤ) → Other p (pos end) → ⊥
  -- and at once exactly if there is no instruction
  pub at_once : (end ≡ 0) ↔ (nodes ≡ [])
