-- JVMS 6.5 from the other side: the bytes of a switch after its opcode, as its format draws them, with its entries. Nothing
-- here is read, and nothing has a refusal's number or a place. Document 01's limit on the number of entries stands here too,
-- as `few`.
use Rattle.std.specs.Prelude.{ℕ, ◌+◌, ◌%◌, ◌≤◌, ◌<◌, List, [], ◌∷◌, ◌++◌, ◌≡◌, ℤ, pos, ◌+ℤ◌, ◌-ℤ◌, length}
use Rattle.read.specs.declared.CodeOffset.{CodeOffset}
use Rattle.read.specs.Reads.{big_endian, after}
use Rattle.operands.specs.Signed.{signed_of, word_of}
use Rattle.records.specs.declared.SwitchEntry.{SwitchEntry}
use Rattle.ordinary.specs.declared.Instruction.{Instruction}
use Rattle.ordinary.specs.declared.Instruction.TheVariants as instruction
use Rattle.switches.specs.Switches.{most_entries}

-- no to three bytes of padding, any values, up to an offset divisible by 4 from the start of the code
pub record Padding (at : CodeOffset) (bytes : List ℕ) : Type 0 where
  pub few : length bytes < 4
  pub aligned : (at.0 + length bytes) % 4 ≡ 0

-- four bytes, the high byte first, and the word that they make
pub record WordDrawn (word : ℕ) (bytes : List ℕ) : Type 0 where
  pub four : length bytes ≡ 4
  pub is : word ≡ big_endian bytes

-- the entries of a table have an offset each. The first has this key, as a signed number, and each the next
pub data TableEntries : ℤ → List SwitchEntry → List ℕ → Type 0 where
  none : {key : ℤ} → TableEntries key [] []
  more :
      {key : ℤ} {e : SwitchEntry} {es : List SwitchEntry} {bytes : List ℕ} (jump rest : List ℕ) → e.key ≡ word_of key
      → WordDrawn e.jump jump → TableEntries (key +ℤ pos 1) es rest → bytes ≡ jump ++ rest
      → TableEntries key (e ∷ es) bytes

-- those of a lookup are pairs: a key, and then its offset
pub data LookupEntries : List SwitchEntry → List ℕ → Type 0 where
  none : LookupEntries [] []
  more :
      {e : SwitchEntry} {es : List SwitchEntry} {bytes : List ℕ} (key jump rest : List ℕ) → WordDrawn e.key key
      → WordDrawn e.jump jump → LookupEntries es rest → bytes ≡ key ++ (jump ++ rest)
      → LookupEntries (e ∷ es) bytes

-- tableswitch: padding, default, low, high, and the offsets; high - low + 1 of them, as signed numbers
pub record TablePicture (at : CodeOffset) (i : Instruction) (bytes : List ℕ) : Type 0 where
  pub padding : List ℕ
  pub default : List ℕ
  pub low : List ℕ
  pub high : List ℕ
  pub offsets : List ℕ
  pub drawn : bytes ≡ padding ++ (default ++ (low ++ (high ++ offsets)))
  pub pads : Padding at padding
  pub default_word : length default ≡ 4
  pub low_word : length low ≡ 4
  pub high_word : length high ≡ 4
  pub entries : List SwitchEntry
  pub entries_drawn : TableEntries (signed_of (big_endian low)) entries offsets
  pub counted : signed_of (big_endian high) -ℤ signed_of (big_endian low) +ℤ pos 1 ≡ pos (length entries)
  pub some : 1 ≤ length entries
  pub few : length entries ≤ most_entries
  pub is : i ≡ instruction.TableSwitch (big_endian default) (big_endian low) (big_endian high) (after (length padding + 12) at) (length entries)

-- lookupswitch: padding, default, npairs, and the pairs; npairs of them, as a signed number
pub record LookupPicture (at : CodeOffset) (i : Instruction) (bytes : List ℕ) : Type 0 where
  pub padding : List ℕ
  pub default : List ℕ
  pub npairs : List ℕ
  pub pairs : List ℕ
  pub drawn : bytes ≡ padding ++ (default ++ (npairs ++ pairs))
  pub pads : Padding at padding
  pub default_word : length default ≡ 4
  pub npairs_word : length npairs ≡ 4
  pub entries : List SwitchEntry
  pub entries_drawn : LookupEntries entries pairs
  pub counted : signed_of (big_endian npairs) ≡ pos (length entries)
  pub is : i ≡ instruction.LookupSwitch (big_endian default) (after (length padding + 8) at) (length entries)
