-- The answers of the four name checks, as tests that compute. A text is a list of bytes, and a byte of 128 or more is
-- an ordinary name byte. specs/Rules.antt has JVMS 4.2 itself, and specs/Theorems.antt says that the two agree.
use Rattle.std.specs.Prelude.{ℕ, Bool, true, false, not, ◌&&◌, ◌||◌, List, [], ◌∷◌, eqb, ltb}
use Rattle.laws.specs.Bytes.{byte, ascii, one_of, every, same_text, within_limit}

-- JVMS 4.2.2: none of . ; [ / stands in an unqualified name, and no < or > in a method's
abbrev pub name_byte : Bool → ℕ → Bool
name_byte in_method b = not (one_of (ascii ".;[/") b || (in_method && one_of (ascii "<>") b))

-- at least one byte, and each may stand in a name
unfoldable pub name_text : Bool → List ℕ → Bool
name_text in_method [] = false
name_text in_method (b ∷ s) = every (name_byte in_method) (b ∷ s)

-- JVMS 4.2.2
unfoldable pub is_unqualified_name : List ℕ → Bool
is_unqualified_name s = within_limit s && name_text false s

-- JVMS 4.2.2, with a flag for each special name: is it allowed here?
unfoldable pub is_method_name : Bool → Bool → List ℕ → Bool
is_method_name init clinit s =
    within_limit s
    && (init && same_text s (ascii "<init>") || clinit && same_text s (ascii "<clinit>") || name_text true s)

-- a byte put in front of the first segment
unfoldable pub before : ℕ → List (List ℕ) → List (List ℕ)
before b [] = (b ∷ []) ∷ []
before b (w ∷ ws) = (b ∷ w) ∷ ws

-- the segments of a text, which / parts
unfoldable pub segments : List ℕ → List (List ℕ)
segments [] = [] ∷ []
segments (b ∷ s) = elim (eqb b (byte "/")) [ true ↦ [] ∷ segments s | false ↦ before b (segments s) ]

-- JVMS 4.2.1: each segment is an unqualified name
unfoldable pub is_binary_name : List ℕ → Bool
is_binary_name s = within_limit s && every (name_text false) (segments s)

-- JVMS 4.2.3: what stands in a module's name by itself is none of 00 to 1f, and none of : @ \
abbrev pub plain_module_byte : ℕ → Bool
plain_module_byte b = not (ltb b 0x20 || one_of (ascii ":@\\") b)

-- what may follow the \ that opens a pair
abbrev pub escapable : ℕ → Bool
escapable b = one_of (ascii "\\:@") b

-- the rest of a module's name, where the byte before it may have opened a pair
unfoldable pub module_rest : Bool → List ℕ → Bool
module_rest escaped [] = not escaped
module_rest true (b ∷ s) = escapable b && module_rest false s
module_rest false (b ∷ s) = elim (eqb b (byte "\\")) [ true ↦ module_rest true s | false ↦ plain_module_byte b && module_rest false s ]

-- JVMS 4.2.3
unfoldable pub is_module_name : List ℕ → Bool
is_module_name s = within_limit s && module_rest false s
