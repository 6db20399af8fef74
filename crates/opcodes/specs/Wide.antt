-- JVMS 6.5 wide: which instructions it modifies, and to what.
use Rattle.std.specs.Prelude.{ℕ, List, ◌++◌, get_or, replicate}
use Rattle.opcodes.specs.declared.WideForm.{WideForm}
use Rattle.opcodes.specs.declared.WideForm.TheVariants as wide

-- the forms that wide gives the bytes 00 to a9 in order, equal neighbours together
unfoldable pub wide_forms : List WideForm
wide_forms =
    -- 00 nop to 14 ldc2_w
    replicate 21 wide.NoInstruction
    -- 15 iload to 19 aload
    ++ replicate 5 wide.Local
    -- 1a iload_0 to 35 saload
    ++ replicate 28 wide.NoInstruction
    -- 36 istore to 3a astore
    ++ replicate 5 wide.Local
    -- 3b istore_0 to 83 lxor
    ++ replicate 73 wide.NoInstruction
    -- 84 iinc
    ++ replicate 1 wide.Increment
    -- 85 i2l to a8 jsr
    ++ replicate 36 wide.NoInstruction
    -- a9 ret
    ++ replicate 1 wide.Local

-- wide modifies no byte past ret
unfoldable pub wide_form_of : ℕ → WideForm
wide_form_of byte = get_or wide_forms byte wide.NoInstruction
