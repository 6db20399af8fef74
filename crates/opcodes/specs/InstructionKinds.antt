-- Document 01, "Instructions as records": the kind of an instruction is its opcode, but short and wide forms share one.
-- A form after wide has its own byte for a kind.
use Rattle.std.specs.Prelude.{ℕ, zero, suc, ◌+◌, List, [], ◌∷◌, ◌++◌, get_or, replicate}

-- so many bytes, from one on, that are their own kinds
abbrev own : ℕ → ℕ → List ℕ
own from zero = []
own from (suc n) = from ∷ own (from + 1) n

-- the kinds of the bytes 00 to ff in order, equal neighbours together
unfoldable pub instruction_kinds : List ℕ
instruction_kinds =
    -- 00 nop to 19 aload
    own 0x00 26
    -- 1a iload_0 to 1d iload_3: iload
    ++ replicate 4 0x15
    -- 1e lload_0 to 21 lload_3: lload
    ++ replicate 4 0x16
    -- 22 fload_0 to 25 fload_3: fload
    ++ replicate 4 0x17
    -- 26 dload_0 to 29 dload_3: dload
    ++ replicate 4 0x18
    -- 2a aload_0 to 2d aload_3: aload
    ++ replicate 4 0x19
    -- 2e iaload to 3a astore
    ++ own 0x2e 13
    -- 3b istore_0 to 3e istore_3: istore
    ++ replicate 4 0x36
    -- 3f lstore_0 to 42 lstore_3: lstore
    ++ replicate 4 0x37
    -- 43 fstore_0 to 46 fstore_3: fstore
    ++ replicate 4 0x38
    -- 47 dstore_0 to 4a dstore_3: dstore
    ++ replicate 4 0x39
    -- 4b astore_0 to 4e astore_3: astore
    ++ replicate 4 0x3a
    -- 4f iastore to c7 ifnonnull
    ++ own 0x4f 121
    -- c8 goto_w: goto
    ++ replicate 1 0xa7
    -- c9 jsr_w: jsr
    ++ replicate 1 0xa8
    -- ca breakpoint to ff impdep2; cb to fd are no instructions
    ++ own 0xca 54

unfoldable pub kind_of : ℕ → ℕ
kind_of byte = get_or instruction_kinds byte 0
