-- JVMS 6.5: the operand format of each byte.
use Rattle.std.specs.Prelude.{ℕ, List, [], ◌∷◌, ◌++◌, get_or, replicate}
use Rattle.pool.specs.declared.Kinds.{Kinds}
use Rattle.pool.specs.declared.Kinds.TheVariants as kinds
use Rattle.opcodes.specs.declared.Follow.TheVariants as follow
use Rattle.opcodes.specs.declared.Format.{Format}
use Rattle.opcodes.specs.declared.Format.TheVariants as format

-- a pool index of two bytes alone
abbrev index : Kinds → Format
index kinds = format.Index2 kinds follow.Nothing

-- the short forms of five instructions: five times the locals 0 to 3
abbrev four : List Format
four = format.ImpliedLocal 0 ∷ format.ImpliedLocal 1 ∷ format.ImpliedLocal 2 ∷ format.ImpliedLocal 3 ∷ []

abbrev implied_locals : List Format
implied_locals = four ++ four ++ four ++ four ++ four

-- the formats of the bytes 00 to ff in order, equal neighbours together
unfoldable pub formats : List Format
formats =
    -- 00 nop to 0f dconst_1
    replicate 16 format.Plain
    -- 10 bipush, 11 sipush
    ++ replicate 1 format.SignedByte
    ++ replicate 1 format.SignedShort
    -- 12 ldc, 13 ldc_w, 14 ldc2_w
    ++ replicate 1 (format.Index1 kinds.Loadable)
    ++ replicate 2 (index kinds.Loadable)
    -- 15 iload to 19 aload, 1a iload_0 to 2d aload_3
    ++ replicate 5 format.Local
    ++ implied_locals
    -- 2e iaload to 35 saload
    ++ replicate 8 format.Plain
    -- 36 istore to 3a astore, 3b istore_0 to 4e astore_3
    ++ replicate 5 format.Local
    ++ implied_locals
    -- 4f iastore to 83 lxor
    ++ replicate 53 format.Plain
    -- 84 iinc
    ++ replicate 1 format.Increment
    -- 85 i2l to 98 dcmpg
    ++ replicate 20 format.Plain
    -- 99 ifeq to a8 jsr
    ++ replicate 16 format.Jump2
    -- a9 ret
    ++ replicate 1 format.Local
    -- aa tableswitch, ab lookupswitch
    ++ replicate 1 format.TableSwitch
    ++ replicate 1 format.LookupSwitch
    -- ac ireturn to b1 return
    ++ replicate 6 format.Plain
    -- b2 getstatic to b5 putfield
    ++ replicate 4 (index kinds.Field)
    -- b6 invokevirtual, b7 invokespecial, b8 invokestatic
    ++ replicate 1 (index kinds.Method)
    ++ replicate 2 (index kinds.MethodOrInterfaceMethod)
    -- b9 invokeinterface, ba invokedynamic
    ++ replicate 1 (format.Index2 kinds.InterfaceMethod follow.CountAndZero)
    ++ replicate 1 (format.Index2 kinds.InvokeDynamic follow.TwoZeros)
    -- bb new, bc newarray, bd anewarray
    ++ replicate 1 (index kinds.Class)
    ++ replicate 1 format.ArrayTag
    ++ replicate 1 (index kinds.Class)
    -- be arraylength, bf athrow
    ++ replicate 2 format.Plain
    -- c0 checkcast, c1 instanceof
    ++ replicate 2 (index kinds.Class)
    -- c2 monitorenter, c3 monitorexit
    ++ replicate 2 format.Plain
    -- c4 wide, c5 multianewarray
    ++ replicate 1 format.Wide
    ++ replicate 1 (format.Index2 kinds.Class follow.Count)
    -- c6 ifnull, c7 ifnonnull
    ++ replicate 2 format.Jump2
    -- c8 goto_w, c9 jsr_w
    ++ replicate 2 format.Jump4
    -- ca breakpoint
    ++ replicate 1 format.Plain
    -- cb to fd: no instruction
    ++ replicate 51 format.NoInstruction
    -- fe impdep1, ff impdep2
    ++ replicate 2 format.Plain

unfoldable pub format_of : ℕ → Format
format_of byte = get_or formats byte format.NoInstruction
