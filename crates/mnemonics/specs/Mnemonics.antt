-- JVMS 6.5 and 7: the mnemonic of each byte.
use Rattle.std.specs.Prelude.{ℕ, List, [], ◌∷◌, ◌++◌, map, get_or, replicate}
use Prim.Native.String.{String}
use Rattle.laws.specs.Bytes.{ascii}

-- in the order of the bytes, and none for a byte that is no instruction
unfoldable pub mnemonics : List String
mnemonics =
    -- 00 to 08
    "nop" ∷ "aconst_null" ∷ "iconst_m1" ∷ "iconst_0" ∷ "iconst_1" ∷ "iconst_2" ∷ "iconst_3" ∷ "iconst_4" ∷ "iconst_5"
    -- 09 to 0f
    ∷ "lconst_0" ∷ "lconst_1" ∷ "fconst_0" ∷ "fconst_1" ∷ "fconst_2" ∷ "dconst_0" ∷ "dconst_1"
    -- 10 to 14
    ∷ "bipush" ∷ "sipush" ∷ "ldc" ∷ "ldc_w" ∷ "ldc2_w"
    -- 15 to 19
    ∷ "iload" ∷ "lload" ∷ "fload" ∷ "dload" ∷ "aload"
    -- 1a to 21
    ∷ "iload_0" ∷ "iload_1" ∷ "iload_2" ∷ "iload_3" ∷ "lload_0" ∷ "lload_1" ∷ "lload_2" ∷ "lload_3"
    -- 22 to 29
    ∷ "fload_0" ∷ "fload_1" ∷ "fload_2" ∷ "fload_3" ∷ "dload_0" ∷ "dload_1" ∷ "dload_2" ∷ "dload_3"
    -- 2a to 2d
    ∷ "aload_0" ∷ "aload_1" ∷ "aload_2" ∷ "aload_3"
    -- 2e to 35
    ∷ "iaload" ∷ "laload" ∷ "faload" ∷ "daload" ∷ "aaload" ∷ "baload" ∷ "caload" ∷ "saload"
    -- 36 to 3a
    ∷ "istore" ∷ "lstore" ∷ "fstore" ∷ "dstore" ∷ "astore"
    -- 3b to 42
    ∷ "istore_0" ∷ "istore_1" ∷ "istore_2" ∷ "istore_3" ∷ "lstore_0" ∷ "lstore_1" ∷ "lstore_2" ∷ "lstore_3"
    -- 43 to 4a
    ∷ "fstore_0" ∷ "fstore_1" ∷ "fstore_2" ∷ "fstore_3" ∷ "dstore_0" ∷ "dstore_1" ∷ "dstore_2" ∷ "dstore_3"
    -- 4b to 4e
    ∷ "astore_0" ∷ "astore_1" ∷ "astore_2" ∷ "astore_3"
    -- 4f to 56
    ∷ "iastore" ∷ "lastore" ∷ "fastore" ∷ "dastore" ∷ "aastore" ∷ "bastore" ∷ "castore" ∷ "sastore"
    -- 57 to 5f
    ∷ "pop" ∷ "pop2" ∷ "dup" ∷ "dup_x1" ∷ "dup_x2" ∷ "dup2" ∷ "dup2_x1" ∷ "dup2_x2" ∷ "swap"
    -- 60 to 6b
    ∷ "iadd" ∷ "ladd" ∷ "fadd" ∷ "dadd" ∷ "isub" ∷ "lsub" ∷ "fsub" ∷ "dsub" ∷ "imul" ∷ "lmul" ∷ "fmul" ∷ "dmul"
    -- 6c to 77
    ∷ "idiv" ∷ "ldiv" ∷ "fdiv" ∷ "ddiv" ∷ "irem" ∷ "lrem" ∷ "frem" ∷ "drem" ∷ "ineg" ∷ "lneg" ∷ "fneg" ∷ "dneg"
    -- 78 to 83
    ∷ "ishl" ∷ "lshl" ∷ "ishr" ∷ "lshr" ∷ "iushr" ∷ "lushr" ∷ "iand" ∷ "land" ∷ "ior" ∷ "lor" ∷ "ixor" ∷ "lxor"
    -- 84
    ∷ "iinc"
    -- 85 to 93
    ∷ "i2l" ∷ "i2f" ∷ "i2d" ∷ "l2i" ∷ "l2f" ∷ "l2d" ∷ "f2i" ∷ "f2l" ∷ "f2d" ∷ "d2i" ∷ "d2l" ∷ "d2f" ∷ "i2b" ∷ "i2c" ∷ "i2s"
    -- 94 to 98
    ∷ "lcmp" ∷ "fcmpl" ∷ "fcmpg" ∷ "dcmpl" ∷ "dcmpg"
    -- 99 to 9e
    ∷ "ifeq" ∷ "ifne" ∷ "iflt" ∷ "ifge" ∷ "ifgt" ∷ "ifle"
    -- 9f to a6
    ∷ "if_icmpeq" ∷ "if_icmpne" ∷ "if_icmplt" ∷ "if_icmpge" ∷ "if_icmpgt" ∷ "if_icmple" ∷ "if_acmpeq" ∷ "if_acmpne"
    -- a7 to ab
    ∷ "goto" ∷ "jsr" ∷ "ret" ∷ "tableswitch" ∷ "lookupswitch"
    -- ac to b1
    ∷ "ireturn" ∷ "lreturn" ∷ "freturn" ∷ "dreturn" ∷ "areturn" ∷ "return"
    -- b2 to b5
    ∷ "getstatic" ∷ "putstatic" ∷ "getfield" ∷ "putfield"
    -- b6 to ba
    ∷ "invokevirtual" ∷ "invokespecial" ∷ "invokestatic" ∷ "invokeinterface" ∷ "invokedynamic"
    -- bb to c1
    ∷ "new" ∷ "newarray" ∷ "anewarray" ∷ "arraylength" ∷ "athrow" ∷ "checkcast" ∷ "instanceof"
    -- c2 to c5
    ∷ "monitorenter" ∷ "monitorexit" ∷ "wide" ∷ "multianewarray"
    -- c6 to ca
    ∷ "ifnull" ∷ "ifnonnull" ∷ "goto_w" ∷ "jsr_w" ∷ "breakpoint"
    -- cb to fd: no instruction
    ∷ replicate 51 ""
    -- fe, ff
    ++ "impdep1" ∷ "impdep2" ∷ []

unfoldable pub mnemonic_of : ℕ → List ℕ
mnemonic_of byte = get_or (map ascii mnemonics) byte []
