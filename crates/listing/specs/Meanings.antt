-- Document 01: what each refusal means.
use Rattle.std.specs.Prelude.{ℕ, List, [], ◌∷◌, map, get_or}
use Prim.Native.String.{String}
use Rattle.laws.specs.Bytes.{ascii}
use Rattle.wording.specs.Names.{or_else}

-- the refusals by their numbers, 1 to 15 and 21 to 35
unfoldable pub meanings : List String
meanings =
    ""
    -- 1 to 5
    ∷ "the code is over 65,535 bytes"
    ∷ "the pool table is over 4,096 entries"
    ∷ "the code ends within an instruction"
    ∷ "no instruction has this byte"
    ∷ "wide does not modify this instruction"
    -- 6 to 10
    ∷ "the pool has no entry with this index"
    ∷ "the pool's entry is of a wrong kind"
    ∷ "bytes that must be zero are not"
    ∷ "newarray has no such type of elements"
    ∷ "low is above high, or there are too many entries"
    -- 11 to 15
    ∷ "the number of pairs is negative"
    ∷ "a jump's target lies before the code"
    ∷ "a jump's target is not an instruction's offset"
    ∷ "no room is left for the entries of this switch"
    ∷ "no room is left for this instruction"
    -- 16 to 20
    ∷ "" ∷ "" ∷ "" ∷ "" ∷ ""
    -- 21 to 25
    ∷ "the text is over 65,535 bytes"
    ∷ "the text ends where a type is due"
    ∷ "no type has this letter"
    ∷ "an array has more than 255 dimensions"
    ∷ "a part of a class name is empty"
    -- 26 to 30
    ∷ "a class name holds a byte that it may not hold"
    ∷ "the text ends within a class name"
    ∷ "a class name holds a semicolon"
    ∷ "a method's descriptor starts with no parenthesis"
    ∷ "no room is left for this parameter"
    -- 31 to 35
    ∷ "bytes are left over"
    ∷ "the method's name is not valid"
    ∷ "the output is too short"
    ∷ "the parts break the rules of a descriptor"
    ∷ "the records are not all there, or not in order"
    ∷ []

unfoldable pub meaning_of : ℕ → List ℕ
meaning_of number = get_or (map ascii meanings) number []

-- what is shown for a number
unfoldable pub meaning_or_none : ℕ → List ℕ
meaning_or_none number = or_else (meaning_of number) (ascii "a number without a meaning")
