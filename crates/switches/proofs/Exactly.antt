-- A switch is decoded exactly where its picture stands.
use Prim.Native.Nat.{ℕ, zero, suc, ◌+◌, ◌-◌, ◌*◌, ◌%◌, ◌^◌, ◌≤◌, ◌<◌}
use mathlib.Core.Bool.{Bool, true, false}
use mathlib.Core.List.{List, [], ◌∷◌, ◌++◌}
use mathlib.Core.Path.{◌≡◌, refl, sym, ap, ap₂, ◌∙◌, subst}
use native.Mathlib.Omega.{arith}
use borrow.Author.Tests.{leb-true, leb-false}
use lib.Dec.{leb}
use lib.IntN.{ℤ, pos, negsuc, ◌+ℤ◌, ◌-ℤ◌, +ℤ_assoc, +ℤ_idr, pos-+ℤ-pos}
use lib.ListN.{length, length-append}
use Rattle.read.specs.declared.CodeOffset.{CodeOffset}
use Rattle.std.specs.Prelude.{Option, Some, None, Result, Ok, Err}
use Rattle.refusals.specs.declared.Refusal.{Refusal}
use Rattle.read.specs.Reads.{big_endian, bytes_at, after, read_of}
use Rattle.operands.specs.Signed.{signed_of, word_of}
use Rattle.operands.specs.Pictures.{Stand}
use Rattle.operands.proofs.Parts.{clash, same_value, same_first, same_end}
use Rattle.operands.proofs.Exactly.{finds, found}
use Rattle.operands.proofs.Standing.{stand_here, stand_join, stand_part}
use Rattle.records.specs.declared.SwitchEntry.{SwitchEntry}
use Rattle.ordinary.specs.declared.Instruction.{Instruction}
use Rattle.ordinary.specs.declared.Instruction.TheVariants as instruction
use Rattle.ordinary.proofs.Exactly.{decoded, then_found}
use Rattle.switches.specs.Switches.{padded, words_from, most_entries, entry_count, ended, table_of, table_entries, table_step, lookup_of, lookup_entries, lookup_step}
use Rattle.switches.specs.Entries.{word_at, table_from, pairs_from, entries_in}
use Rattle.switches.specs.Pictures.{Padding, WordDrawn, TableEntries, LookupEntries, TablePicture, LookupPicture}
use Rattle.switches.specs.Theorems.{TableExactly, LookupExactly, TableEntriesDrawn, LookupEntriesDrawn}
use Rattle.switches.proofs.Laws.{at_place, words_fit, words_short}
use Rattle.switches.proofs.Counts.{counts, counts_as, word_further}

-- the length of a switch's bytes
length_3 : (a b c : List ℕ) → length (a ++ (b ++ c)) ≡ length a + (length b + length c)
length_3 a b c = length-append a (b ++ c) ∙ ap (λ (n : ℕ). length a + n) (length-append b c)

length_4 : (a b c d : List ℕ) → length (a ++ (b ++ (c ++ d))) ≡ length a + (length b + (length c + length d))
length_4 a b c d = length-append a (b ++ (c ++ d)) ∙ ap (λ (n : ℕ). length a + n) (length_3 b c d)

length_5 : (a b c d e : List ℕ) → length (a ++ (b ++ (c ++ (d ++ e)))) ≡ length a + (length b + (length c + (length d + length e)))
length_5 a b c d e = length-append a (b ++ (c ++ (d ++ e))) ∙ ap (λ (n : ℕ). length a + n) (length_4 b c d e)

-- an entry of a table has four bytes, one of a lookup eight
table_bytes : {key : ℤ} {es : List SwitchEntry} {bytes : List ℕ} → TableEntries key es bytes → length bytes ≡ 4 * length es
table_bytes TableEntries.none = refl
table_bytes (TableEntries.more {es = es} jump rest key word t drawn) =
    let four : length jump ≡ 4 = word.four in
    ap length drawn ∙ length-append jump rest ∙ ap₂ (λ (x y : ℕ). x + y) four (table_bytes t) ∙ (let all : 4 + 4 * length es ≡ 4 * suc (length es) = omega arith in all)

pair_bytes : {es : List SwitchEntry} {bytes : List ℕ} → LookupEntries es bytes → length bytes ≡ 8 * length es
pair_bytes LookupEntries.none = refl
pair_bytes (LookupEntries.more {es = es} key jump rest first second t drawn) =
    ap length drawn ∙ length_3 key jump rest ∙ ap₂ (λ (x y : ℕ). x + y) first.four (ap₂ (λ (x y : ℕ). x + y) second.four (pair_bytes t))
    ∙ (let all : 4 + (4 + 8 * length es) ≡ 8 * suc (length es) = omega arith in all)

pub table_length : {at : CodeOffset} {i : Instruction} {bytes : List ℕ} (t : TablePicture at i bytes) → length bytes ≡ length t.padding + (4 + (4 + (4 + 4 * length t.entries)))
table_length t =
    ap length t.drawn
    ∙ length_5 t.padding t.default t.low t.high t.offsets
    ∙ ap₂ (λ (x y : ℕ). length t.padding + (x + y)) t.default_word (ap₂ (λ (x y : ℕ). x + y) t.low_word (ap₂ (λ (x y : ℕ). x + y) t.high_word (table_bytes t.entries_drawn)))

pub lookup_length : {at : CodeOffset} {i : Instruction} {bytes : List ℕ} (t : LookupPicture at i bytes) → length bytes ≡ length t.padding + (4 + (4 + 8 * length t.entries))
lookup_length t =
    ap length t.drawn
    ∙ length_4 t.padding t.default t.npairs t.pairs
    ∙ ap₂ (λ (x y : ℕ). length t.padding + (x + y)) t.default_word (ap₂ (λ (x y : ℕ). x + y) t.npairs_word (pair_bytes t.entries_drawn))

-- as many entries are read as are asked for
pub length_table : (code : List ℕ) (key : ℕ) (at : CodeOffset) (n : ℕ) → length (table_from code key at n) ≡ n
unfolding table_from
length_table code key at zero = refl
length_table code key at (suc n) = ap suc (length_table code (key + 1) (after 4 at) n)

pub length_pairs : (code : List ℕ) (at : CodeOffset) (n : ℕ) → length (pairs_from code at n) ≡ n
unfolding pairs_from
length_pairs code at zero = refl
length_pairs code at (suc n) = ap suc (length_pairs code (after 8 at) n)

module _ (code : List ℕ) where
  part : {n : ℕ} (at : CodeOffset) (first rest : List ℕ) → length first ≡ n → Stand code at (first ++ rest) → Stand code at first × Stand code (after n at) rest
  part at first rest e s =
      let parts = stand_part code at first rest s in
      (parts.0, subst (λ (k : ℕ). Stand code (after k at) rest) e parts.1)

  -- a word that was read, and one that stands to be read
  record Word (at : CodeOffset) (v : ℕ) (next : CodeOffset) : Type 0 where
    bytes : List ℕ
    four : length bytes ≡ 4
    number : v ≡ big_endian bytes
    stand : Stand code at bytes
    place : next ≡ after 4 at

  after_word : {at next : CodeOffset} {v : ℕ} (w : Word at v next) {rest : List ℕ} → Stand code next rest → Stand code at (w.bytes ++ rest)
  after_word {at} {next} w {rest} s = stand_join code at w.bytes rest w.stand (subst (λ (o : CodeOffset). Stand code o rest) (w.place ∙ ap (λ (k : ℕ). after k at) (sym w.four)) s)

  word_there : (at : CodeOffset) (v : ℕ) (next : CodeOffset) → read_of 4 code at ≡ Ok (v, next) → Word at v next
  word_there at v next e =
      let f = finds 4 code at v next e in
      let s = stand_here code 4 at f.within in
      record { bytes = bytes_at 4 code at.0; four = s.0; number = f.number; stand = s.1; place = f.place }

  word_read : (at : CodeOffset) (bytes : List ℕ) → length bytes ≡ 4 → Stand code at bytes → read_of 4 code at ≡ Ok (big_endian bytes, after 4 at)
  word_read at bytes four s =
      found 4 code at (big_endian bytes) (after 4 at)
      (record { within = rw (sym four) s.within; number = ap big_endian (sym (ap (λ (k : ℕ). bytes_at k code at.0) (sym four) ∙ s.there)); place = refl })

  within_4 : (at : CodeOffset) (bytes : List ℕ) → length bytes ≡ 4 → Stand code at bytes → at.0 + 4 ≤ length code
  within_4 at bytes four s = rw (sym four) s.within

  -- the entries of a table that stand from an offset on, whose keys go up from a word
  abbrev Keyed : ℕ → ℤ → Type 0
  Keyed word key = (i : ℕ) → (word + i) % 2 ^ 32 ≡ word_of (key +ℤ pos i)

  next_keyed : (word : ℕ) (key : ℤ) → Keyed word key → Keyed (word + 1) (key +ℤ pos 1)
  next_keyed word key k i =
      let same : word + 1 + i ≡ word + (1 + i) = omega arith in
      ap (λ (n : ℕ). n % 2 ^ 32) same ∙ k (1 + i) ∙ ap word_of (sym (+ℤ_assoc key (pos 1) (pos i) ∙ ap (λ (z : ℤ). key +ℤ z) (pos-+ℤ-pos 1 i)))

  record EntriesStand (Entries : List SwitchEntry → List ℕ → Type 0) (es : List SwitchEntry) (at : CodeOffset) : Type 0 where
    bytes : List ℕ
    drawn : Entries es bytes
    stand : Stand code at bytes

  no_bytes : (at : CodeOffset) → at.0 ≤ length code → Stand code at []
  no_bytes at h = record { within = omega arith; there = refl }

  word_drawn : (at : CodeOffset) → at.0 + 4 ≤ length code → WordDrawn (word_at code at) (bytes_at 4 code at.0) × ((rest : List ℕ) → Stand code (after 4 at) rest → Stand code at (bytes_at 4 code at.0 ++ rest))
  word_drawn at h =
      let s = stand_here code 4 at h in (
        record { four = s.0; is = refl },
        λ rest r. stand_join code at (bytes_at 4 code at.0) rest s.1 (subst (λ (k : ℕ). Stand code (after k at) rest) (sym s.0) r),
      )

  table_there : (count word : ℕ) (key : ℤ) (at : CodeOffset) → at.0 + 4 * count ≤ length code → Keyed word key → EntriesStand (TableEntries key) (table_from code word at count) at
  unfolding table_from
  table_there zero word key at h k = record { bytes = []; drawn = TableEntries.none; stand = no_bytes at (omega arith) }
  table_there (suc count) word key at h k =
      let one = word_drawn at (omega arith) in
      let more = table_there count (word + 1) (key +ℤ pos 1) (after 4 at) (omega arith) (next_keyed word key k) in
      let first : word % 2 ^ 32 ≡ word_of key = ap (λ (n : ℕ). n % 2 ^ 32) (let same : word ≡ word + 0 = omega arith in same) ∙ k 0 ∙ ap word_of (+ℤ_idr key) in
      record {
        bytes = bytes_at 4 code at.0 ++ more.bytes;
        drawn = TableEntries.more (bytes_at 4 code at.0) more.bytes first one.0 more.drawn refl;
        stand = one.1 more.bytes more.stand;
      }

  pairs_there : (count : ℕ) (at : CodeOffset) → at.0 + 8 * count ≤ length code → EntriesStand LookupEntries (pairs_from code at count) at
  unfolding pairs_from
  pairs_there zero at h = record { bytes = []; drawn = LookupEntries.none; stand = no_bytes at (omega arith) }
  pairs_there (suc count) at h =
      let key = word_drawn at (omega arith) in
      let jump = word_drawn (after 4 at) (omega arith) in
      let further : after 8 at ≡ after 4 (after 4 at) = at_place (omega arith) in
      let more = pairs_there count (after 8 at) (omega arith) in
      record {
        bytes = bytes_at 4 code at.0 ++ (bytes_at 4 code (at.0 + 4) ++ more.bytes);
        drawn = LookupEntries.more (bytes_at 4 code at.0) (bytes_at 4 code (at.0 + 4)) more.bytes key.0 jump.0 more.drawn refl;
        stand = key.1 _ (jump.1 _ (subst (λ (o : CodeOffset). Stand code o more.bytes) further more.stand));
      }

  -- and that entries which stand are the ones that are read
  word_is : (at : CodeOffset) {word : ℕ} {bytes : List ℕ} (rest : List ℕ) → WordDrawn word bytes → Stand code at (bytes ++ rest) → (word_at code at ≡ word) × Stand code (after 4 at) rest
  word_is at {bytes = bytes} rest w s =
      let parts = part at bytes rest w.four s in
      (ap big_endian (sym (ap (λ (k : ℕ). bytes_at k code at.0) w.four) ∙ parts.0.there) ∙ sym w.is, parts.1)

  table_read : {key : ℤ} {es : List SwitchEntry} {bytes : List ℕ} (word : ℕ) (at : CodeOffset) → TableEntries key es bytes → Keyed word key → Stand code at bytes → table_from code word at (length es) ≡ es
  unfolding table_from
  table_read word at TableEntries.none k s = refl
  table_read {key = key} word at (TableEntries.more {e = e} jump rest is drawn others bytes) k s =
      let w = word_is at rest drawn (subst (Stand code at) bytes s) in
      let first : word % 2 ^ 32 ≡ e.key = ap (λ (n : ℕ). n % 2 ^ 32) (let same : word ≡ word + 0 = omega arith in same) ∙ k 0 ∙ ap word_of (+ℤ_idr key) ∙ sym is in
      ap₂ (λ (x : SwitchEntry) (xs : List SwitchEntry). x ∷ xs)
      (ap₂ (λ (x y : ℕ). record { key = x; jump = y }) first w.0)
      (table_read (word + 1) (after 4 at) others (next_keyed word key k) w.1)

  pairs_read : {es : List SwitchEntry} {bytes : List ℕ} (at : CodeOffset) → LookupEntries es bytes → Stand code at bytes → pairs_from code at (length es) ≡ es
  unfolding pairs_from
  pairs_read at LookupEntries.none s = refl
  pairs_read at (LookupEntries.more key jump rest first second others bytes) s =
      let k = word_is at (jump ++ rest) first (subst (Stand code at) bytes s) in
      let j = word_is (after 4 at) rest second k.1 in
      let further : after 4 (after 4 at) ≡ after 8 at = at_place (omega arith) in
      ap₂ (λ (x : SwitchEntry) (xs : List SwitchEntry). x ∷ xs)
      (ap₂ (λ (x y : ℕ). record { key = x; jump = y }) k.0 j.0)
      (pairs_read (after 8 at) others (subst (λ (o : CodeOffset). Stand code o rest) further j.1))

  -- so many words that were read fit, and the next offset is past them
  words_there : (count : ℕ) (at : CodeOffset) → at.0 ≤ length code → (next : CodeOffset) → words_from count code at ≡ Ok next → (at.0 + 4 * count ≤ length code) × (next ≡ after (4 * count) at)
  words_there count at h next e = go (leb (4 * count) (length code - at.0)) refl
    where
      go : (t : Bool) → leb (4 * count) (length code - at.0) ≡ t → (at.0 + 4 * count ≤ length code) × (next ≡ after (4 * count) at)
      go true q =
          let some : 4 * count ≤ length code - at.0 = leb-true _ _ q in
          let fits : at.0 + 4 * count ≤ length code = omega arith in
          (fits, same_value (sym e ∙ words_fit code count at fits))
      go false q =
          let less : length code - at.0 < 4 * count = leb-false _ _ q in
          absurd (clash (sym (words_short code count at less) ∙ e))

  -- a switch whose words were read
  ended_found : (made : Instruction) (r : Result CodeOffset (Refusal CodeOffset)) (i : Instruction) (next : CodeOffset) → ended made r ≡ Ok (i, next) → (r ≡ Ok next) × (made ≡ i)
  ended_found made (Ok end) i next e = (ap (λ (m : CodeOffset). Ok m) (same_end e), same_first e)
  ended_found made (Err r) i next e = absurd (clash e)

  -- the padding
  record Padded (at : CodeOffset) : Type 0 where
    bytes : List ℕ
    pads : Padding at bytes
    stand : Stand code at bytes
    place : padded at ≡ after (length bytes) at

  after_padding : {at : CodeOffset} (p : Padded at) {rest : List ℕ} → Stand code (padded at) rest → Stand code at (p.bytes ++ rest)
  after_padding {at} p {rest} s = stand_join code at p.bytes rest p.stand (subst (λ (o : CodeOffset). Stand code o rest) p.place s)

  pads_to : (at : CodeOffset) (bytes : List ℕ) → Padding at bytes → padded at ≡ after (length bytes) at
  pads_to at bytes p =
      let few : length bytes < 4 = p.few in
      let aligned : (at.0 + length bytes) % 4 ≡ 0 = p.aligned in
      at_place (omega arith)

  padding_there : (at : CodeOffset) → (padded at).0 ≤ length code → Padded at
  padding_there at h =
      let n : ℕ = (padded at).0 - at.0 in
      let s = stand_here code n at (omega arith) in
      let all : length (bytes_at n code at.0) ≡ n = s.0 in
      let pads : Padding at (bytes_at n code at.0) = record { few = rw all (omega arith); aligned = rw all (omega arith) } in
      record { bytes = bytes_at n code at.0; pads = pads; stand = s.1; place = pads_to at (bytes_at n code at.0) pads }

  record Decoding (Picture : CodeOffset → Instruction → List ℕ → Type 0) (at : CodeOffset) (i : Instruction) (next : CodeOffset) : Type 0 where
    bytes : List ℕ
    picture : Picture at i bytes
    stand : Stand code at bytes
    place : next ≡ after (length bytes) at

  -- the words of a table, read one after the other, are its picture
  table_drawn : (at : CodeOffset) (i : Instruction) (next : CodeOffset) (p : Padded at) {default low high : ℕ} {low_at high_at entries : CodeOffset} (count : ℕ)
      → Word (padded at) default low_at → Word low_at low high_at → Word high_at high entries → entries.0 + 4 * count ≤ length code → next ≡ after (4 * count) entries
      → signed_of high -ℤ signed_of low +ℤ pos 1 ≡ pos count → 1 ≤ count → count ≤ most_entries → i ≡ instruction.TableSwitch default low high entries count
      → Decoding TablePicture at i next
  table_drawn at i next p {default} {low} {high} {low_at} {high_at} {entries} count d l h fits ends counted some few is =
      let n : ℕ = length p.bytes in
      let w = table_there count low (signed_of low) entries fits (word_further low) in
      let all : length (table_from code low entries count) ≡ count = length_table code low entries count in
      let bytes = p.bytes ++ (d.bytes ++ (l.bytes ++ (h.bytes ++ w.bytes))) in
      let there : entries ≡ after (n + 12) at = h.place ∙ ap (after 4) (l.place ∙ ap (after 4) (d.place ∙ ap (after 4) p.place)) ∙ at_place (omega arith) in
      let picture : TablePicture at i bytes = record {
        padding = p.bytes;
        default = d.bytes;
        low = l.bytes;
        high = h.bytes;
        offsets = w.bytes;
        drawn = refl;
        pads = p.pads;
        default_word = d.four;
        low_word = l.four;
        high_word = h.four;
        entries = table_from code low entries count;
        entries_drawn = subst (λ (v : ℕ). TableEntries (signed_of v) (table_from code low entries count) w.bytes) l.number w.drawn;
        counted = ap₂ (λ (x y : ℕ). signed_of x -ℤ signed_of y +ℤ pos 1) (sym h.number) (sym l.number) ∙ counted ∙ ap pos (sym all);
        some = rw all some;
        few = rw all few;
        is = is ∙ rw (all, d.number, l.number, h.number, there);
      } in
      record {
        bytes = bytes;
        picture = picture;
        stand = after_padding p (after_word d (after_word l (after_word h w.stand)));
        place = ends ∙ ap (after (4 * count)) there ∙ at_place (omega (arith, table_length picture, all));
      }

  table_to : (at : CodeOffset) (i : Instruction) (next : CodeOffset) → table_step code at ≡ Ok (i, next) → Decoding TablePicture at i next
  table_to at i next e =
      let d = then_found (read_of 4 code (padded at)) _ i next e in
      let l = then_found (read_of 4 code d.mid) _ i next d.decodes in
      let h = then_found (read_of 4 code l.mid) _ i next l.decodes in
      counted (entry_count l.value h.value) refl (word_there _ _ _ d.reads) (word_there _ _ _ l.reads) (word_there _ _ _ h.reads) h.decodes
    where
      counted : {default low high : ℕ} {low_at high_at entries : CodeOffset} (count : Option ℕ) → entry_count low high ≡ count
          → Word (padded at) default low_at → Word low_at low high_at → Word high_at high entries
          → table_entries code high_at default low high entries ≡ Ok (i, next) → Decoding TablePicture at i next
      counted {default} {low} {high} {low_at} {high_at} {entries} None q d l h e =
          absurd (clash (sym (ap (table_of code high_at default low high entries) q) ∙ e))
      counted {default} {low} {high} {low_at} {high_at} {entries} (Some n) q d l h e =
          let w = ended_found (instruction.TableSwitch default low high entries n) (words_from n code entries) i next (sym (ap (table_of code high_at default low high entries) q) ∙ e) in
          let fits : entries.0 ≤ length code = rw h.place (within_4 high_at h.bytes h.four h.stand) in
          let near : (padded at).0 ≤ length code = (let f = within_4 (padded at) d.bytes d.four d.stand in omega arith) in
          let c = counts (signed_of high -ℤ signed_of low) n q in
          let words = words_there n entries fits next w.0 in
          table_drawn at i next (padding_there at near) n d l h words.0 words.1 c.0 c.1 c.2 (sym w.1)

  -- the parts of a table that stands
  record TableParts {at : CodeOffset} {i : Instruction} {bytes : List ℕ} (t : TablePicture at i bytes) : Type 0 where
    default : Stand code (after (length t.padding) at) t.default
    low : Stand code (after 4 (after (length t.padding) at)) t.low
    high : Stand code (after 4 (after 4 (after (length t.padding) at))) t.high
    offsets : Stand code (after 4 (after 4 (after 4 (after (length t.padding) at)))) t.offsets

  table_parts : {at : CodeOffset} {i : Instruction} {bytes : List ℕ} (t : TablePicture at i bytes) → Stand code at bytes → TableParts t
  table_parts {at} t s =
      let start = after (length t.padding) at in
      let padding_part = part at t.padding _ refl (subst (Stand code at) t.drawn s) in
      let default_part = part start t.default _ t.default_word padding_part.1 in
      let low_part = part (after 4 start) t.low _ t.low_word default_part.1 in
      let high_part = part (after 4 (after 4 start)) t.high _ t.high_word low_part.1 in
      record { default = default_part.0; low = low_part.0; high = high_part.0; offsets = high_part.1 }

  table_from_lem : (at : CodeOffset) (i : Instruction) (bytes : List ℕ) → TablePicture at i bytes → Stand code at bytes → table_step code at ≡ Ok (i, after (length bytes) at)
  table_from_lem at i bytes t s =
      let n : ℕ = length t.padding in
      let count : ℕ = length t.entries in
      let start = after n at in
      let parts = table_parts t s in
      let entries = after 4 (after 4 (after 4 start)) in
      let there : entries ≡ after (n + 12) at = at_place (omega arith) in
      let total : length bytes ≡ n + (4 + (4 + (4 + 4 * count))) = table_length t in
      let fits : entries.0 + 4 * count ≤ length code = rw (sym (table_bytes t.entries_drawn)) parts.offsets.within in
      rw (pads_to at t.padding t.pads, word_read start t.default t.default_word parts.default, word_read (after 4 start) t.low t.low_word parts.low, word_read (after 4 (after 4 start)) t.high t.high_word parts.high)
      (table_of_lem (after 4 (after 4 start)) count (counts_as _ count t.counted t.some t.few) fits
      ∙ ap₂ decoded (ap (λ (o : CodeOffset). instruction.TableSwitch (big_endian t.default) (big_endian t.low) (big_endian t.high) o count) there ∙ sym t.is) (at_place (omega (arith, total))))
    where
      table_of_lem : (place : CodeOffset) {entries : CodeOffset} {default low high : ℕ} (count : ℕ) → entry_count low high ≡ Some count → entries.0 + 4 * count ≤ length code
          → table_entries code place default low high entries ≡ Ok (instruction.TableSwitch default low high entries count, after (4 * count) entries)
      table_of_lem place {entries} {default} {low} {high} count q fits =
          ap (table_of code place default low high entries) q ∙ ap (ended (instruction.TableSwitch default low high entries count)) (words_fit code count entries fits)

  lookup_drawn : (at : CodeOffset) (i : Instruction) (next : CodeOffset) (p : Padded at) {default npairs : ℕ} {npairs_at entries : CodeOffset} (count : ℕ)
      → Word (padded at) default npairs_at → Word npairs_at npairs entries → entries.0 + 8 * count ≤ length code → next ≡ after (8 * count) entries
      → signed_of npairs ≡ pos count → i ≡ instruction.LookupSwitch default entries count → Decoding LookupPicture at i next
  lookup_drawn at i next p {default} {npairs} {npairs_at} {entries} count d c fits ends counted is =
      let n : ℕ = length p.bytes in
      let w = pairs_there count entries fits in
      let all : length (pairs_from code entries count) ≡ count = length_pairs code entries count in
      let bytes = p.bytes ++ (d.bytes ++ (c.bytes ++ w.bytes)) in
      let there : entries ≡ after (n + 8) at = c.place ∙ ap (after 4) (d.place ∙ ap (after 4) p.place) ∙ at_place (omega arith) in
      let picture : LookupPicture at i bytes = record {
        padding = p.bytes;
        default = d.bytes;
        npairs = c.bytes;
        pairs = w.bytes;
        drawn = refl;
        pads = p.pads;
        default_word = d.four;
        npairs_word = c.four;
        entries = pairs_from code entries count;
        entries_drawn = w.drawn;
        counted = ap signed_of (sym c.number) ∙ counted ∙ ap pos (sym all);
        is = is ∙ rw (all, d.number, there);
      } in
      record {
        bytes = bytes;
        picture = picture;
        stand = after_padding p (after_word d (after_word c w.stand));
        place = ends ∙ ap (after (8 * count)) there ∙ at_place (omega (arith, lookup_length picture, all));
      }

  lookup_to : (at : CodeOffset) (i : Instruction) (next : CodeOffset) → lookup_step code at ≡ Ok (i, next) → Decoding LookupPicture at i next
  lookup_to at i next e =
      let d = then_found (read_of 4 code (padded at)) _ i next e in
      let c = then_found (read_of 4 code d.mid) _ i next d.decodes in
      counted (signed_of c.value) refl (word_there _ _ _ d.reads) (word_there _ _ _ c.reads) c.decodes
    where
      counted : {default npairs : ℕ} {npairs_at entries : CodeOffset} (z : ℤ) → signed_of npairs ≡ z → Word (padded at) default npairs_at → Word npairs_at npairs entries
          → lookup_entries code npairs_at default npairs entries ≡ Ok (i, next) → Decoding LookupPicture at i next
      counted {default} {npairs} {npairs_at} {entries} (negsuc k) q d c e = absurd (clash (sym (ap (lookup_of code npairs_at default entries) q) ∙ e))
      counted {default} {npairs} {npairs_at} {entries} (pos count) q d c e =
          let w = ended_found (instruction.LookupSwitch default entries count) (words_from (2 * count) code entries) i next (sym (ap (lookup_of code npairs_at default entries) q) ∙ e) in
          let fits : entries.0 ≤ length code = rw c.place (within_4 npairs_at c.bytes c.four c.stand) in
          let near : (padded at).0 ≤ length code = (let f = within_4 (padded at) d.bytes d.four d.stand in omega arith) in
          let words = words_there (2 * count) entries fits next w.0 in
          let eight : 4 * (2 * count) ≡ 8 * count = omega arith in
          lookup_drawn at i next (padding_there at near) count d c (rw (sym eight) words.0) (words.1 ∙ ap (λ (k : ℕ). after k entries) eight) q (sym w.1)

  record LookupParts {at : CodeOffset} {i : Instruction} {bytes : List ℕ} (t : LookupPicture at i bytes) : Type 0 where
    default : Stand code (after (length t.padding) at) t.default
    npairs : Stand code (after 4 (after (length t.padding) at)) t.npairs
    pairs : Stand code (after 4 (after 4 (after (length t.padding) at))) t.pairs

  lookup_parts : {at : CodeOffset} {i : Instruction} {bytes : List ℕ} (t : LookupPicture at i bytes) → Stand code at bytes → LookupParts t
  lookup_parts {at} t s =
      let start = after (length t.padding) at in
      let padding_part = part at t.padding _ refl (subst (Stand code at) t.drawn s) in
      let default_part = part start t.default _ t.default_word padding_part.1 in
      let npairs_part = part (after 4 start) t.npairs _ t.npairs_word default_part.1 in
      record { default = default_part.0; npairs = npairs_part.0; pairs = npairs_part.1 }

  lookup_from : (at : CodeOffset) (i : Instruction) (bytes : List ℕ) → LookupPicture at i bytes → Stand code at bytes → lookup_step code at ≡ Ok (i, after (length bytes) at)
  lookup_from at i bytes t s =
      let n : ℕ = length t.padding in
      let count : ℕ = length t.entries in
      let start = after n at in
      let parts = lookup_parts t s in
      let entries = after 4 (after 4 start) in
      let there : entries ≡ after (n + 8) at = at_place (omega arith) in
      let total : length bytes ≡ n + (4 + (4 + 8 * count)) = lookup_length t in
      let pairs : entries.0 + 8 * count ≤ length code = rw (sym (pair_bytes t.entries_drawn)) parts.pairs.within in
      let fits : entries.0 + 4 * (2 * count) ≤ length code = omega arith in
      rw (pads_to at t.padding t.pads, word_read start t.default t.default_word parts.default, word_read (after 4 start) t.npairs t.npairs_word parts.npairs)
      (ap (lookup_of code (after 4 start) (big_endian t.default) entries) t.counted
      ∙ ap (ended (instruction.LookupSwitch (big_endian t.default) entries count)) (words_fit code (2 * count) entries fits)
      ∙ ap₂ decoded (ap (λ (o : CodeOffset). instruction.LookupSwitch (big_endian t.default) o count) there ∙ sym t.is) (at_place (omega (arith, total))))

pub table_exactly : TableExactly
table_exactly code at i next = (
  λ e.
      let d = table_to code at i next e in
      (d.bytes, d.picture, d.stand, d.place),
  λ t. table_from_lem code at i t.0 t.1 t.2 ∙ ap (decoded i) (sym t.3),
)

pub lookup_exactly : LookupExactly
lookup_exactly code at i next = (
  λ e.
      let d = lookup_to code at i next e in
      (d.bytes, d.picture, d.stand, d.place),
  λ t. lookup_from code at i t.0 t.1 t.2 ∙ ap (decoded i) (sym t.3),
)

pub table_entries_drawn : TableEntriesDrawn
table_entries_drawn code at i bytes t s =
    let there : after 4 (after 4 (after 4 (after (length t.padding) at))) ≡ after (length t.padding + 12) at = at_place (omega arith) in
    ap (entries_in code) t.is
    ∙ table_read code (big_endian t.low) (after (length t.padding + 12) at) t.entries_drawn (word_further (big_endian t.low))
    (subst (λ (o : CodeOffset). Stand code o t.offsets) there (table_parts code t s).offsets)

pub lookup_entries_drawn : LookupEntriesDrawn
lookup_entries_drawn code at i bytes t s =
    let there : after 4 (after 4 (after (length t.padding) at)) ≡ after (length t.padding + 8) at = at_place (omega arith) in
    ap (entries_in code) t.is
    ∙ pairs_read code (after (length t.padding + 8) at) t.entries_drawn
    (subst (λ (o : CodeOffset). Stand code o t.pairs) there (lookup_parts code t s).pairs)
