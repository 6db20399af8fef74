-- A switch is refused exactly for its first fault.
use Prim.Native.Nat.{ℕ, ◌+◌, ◌-◌, ◌*◌, ◌%◌, ◌/◌, ◌≤◌, ◌<◌}
use mathlib.Core.Bool.{Bool, true, false}
use mathlib.Core.List.{List}
use mathlib.Core.Logic.{◌↔◌}
use mathlib.Core.Path.{◌≡◌, refl, sym, ap, ap₂, ◌∙◌, subst}
use native.Mathlib.Omega.{arith}
use borrow.Author.Tests.{leb-true, leb-false}
use lib.Dec.{leb}
use lib.IntN.{ℤ, pos, negsuc, ◌+ℤ◌, ◌-ℤ◌}
use lib.ListN.{length}
use Rattle.read.specs.declared.CodeOffset.{CodeOffset}
use Rattle.std.specs.Prelude.{Option, Some, None, Result, Ok, Err}
use Rattle.refusals.specs.declared.Reason.{Reason}
use Rattle.refusals.specs.declared.Reason.TheVariants as reason
use Rattle.refusals.specs.declared.Refusal.{Refusal}
use Rattle.refusals.specs.Numbers.{refused, number_of}
use Rattle.refusals.proofs.Numbers.{numbers_differ}
use Rattle.read.specs.Reads.{Read, big_endian, bytes_at, after, read_of}
use Rattle.operands.specs.Signed.{signed_of}
use Rattle.operands.proofs.Parts.{clash, same_refusal, same_reason, same_place}
use Rattle.operands.proofs.Exactly.{finds, found}
use Rattle.operands.proofs.Faults.{read_refused}
use Rattle.operands.proofs.Standing.{stand_here}
use Rattle.ordinary.specs.declared.Instruction.{Instruction}
use Rattle.ordinary.specs.declared.Instruction.TheVariants as instruction
use Rattle.ordinary.specs.Ordinary.{Step, then_read}
use Rattle.ordinary.proofs.Exactly.{further}
use Rattle.ordinary.proofs.Faults.{Then, then_refused}
use Rattle.switches.specs.Switches.{padded, words_from, most_entries, count_of, entry_count, ended, table_of, table_entries, table_step, lookup_of, lookup_entries, lookup_step}
use Rattle.switches.specs.Faults.{FirstWord, WordStands, WordShort, WordsShort, TableOpening, counted, BelowZero, BadBounds, TableFault, LookupOpening, LookupFault, TableRefusedExactly, LookupRefusedExactly}
use Rattle.switches.proofs.Laws.{at_place, words_fit, words_short}
use Rattle.switches.proofs.Counts.{count_within, count_below, counts, counts_as, counts_over}

-- no entries are counted exactly where the bounds are bad
bounds : (low high : List ℕ) → (entry_count (big_endian low) (big_endian high) ≡ None) ↔ BadBounds low high
bounds low high = (λ e. to (signed_of (big_endian high) -ℤ signed_of (big_endian low)) refl e, from)
  where
    to : (d : ℤ) → signed_of (big_endian high) -ℤ signed_of (big_endian low) ≡ d → entry_count (big_endian low) (big_endian high) ≡ None → BadBounds low high
    to (negsuc k) q e = BadBounds.crossed (subst BelowZero (sym q) tt)
    to (pos m) q e = many (leb (m + 1) most_entries) refl
      where
        is : counted low high ≡ pos (m + 1)
        is = ap (λ (z : ℤ). z +ℤ pos 1) q

        many : (t : Bool) → leb (m + 1) most_entries ≡ t → BadBounds low high
        many true l = absurd (let z : Some (m + 1) ≡ None = sym (ap count_of q ∙ count_within m (leb-true _ _ l)) ∙ e in cc)
        many false l = BadBounds.too_many (m + 1) is (leb-false _ _ l)

    under : (d : ℤ) → BelowZero d → count_of d ≡ None
    under (pos m) below = absurd below
    under (negsuc k) below = count_below k

    from : BadBounds low high → entry_count (big_endian low) (big_endian high) ≡ None
    from (BadBounds.crossed below) = under (signed_of (big_endian high) -ℤ signed_of (big_endian low)) below
    from (BadBounds.too_many count is over) = counts_over (signed_of (big_endian high) -ℤ signed_of (big_endian low)) count is over

-- where the words start
first_word : (at : CodeOffset) → FirstWord at (padded at)
first_word at = record { from = omega arith; near = omega arith; aligned = omega arith }

padded_is : {at start : CodeOffset} → FirstWord at start → padded at ≡ start
padded_is {at} {start} f =
    let from : at.0 ≤ start.0 = f.from in
    let near : start.0 < at.0 + 4 = f.near in
    let aligned : start.0 % 4 ≡ 0 = f.aligned in
    at_place (omega arith)

module _ (code : List ℕ) (why : Reason) (place : CodeOffset) where
  -- a word and what follows it: the word is short, or it stands and what follows is refused
  data Next (at : CodeOffset) (follows : ℕ → CodeOffset → Step) : Type 0 where
    short : WordShort code at why place → Next at follows
    more : (word : List ℕ) → WordStands code at word → follows (big_endian word) (after 4 at) ≡ Err (refused why place) → Next at follows

  next_to : (at : CodeOffset) (follows : ℕ → CodeOffset → Step) → then_read (read_of 4 code at) follows ≡ Err (refused why place) → Next at follows
  next_to at follows e = go (then_refused (read_of 4 code at) follows why place e)
    where
      go : Then (read_of 4 code at) follows why place → Next at follows
      go (Then.here r) = let f = (read_refused 4 code at why place).0 r in Next.short (record { number = f.0; placed = f.1; past = f.2 })
      go (Then.further_on v mid r d) =
          let f = finds 4 code at v mid r in
          let s = stand_here code 4 at f.within in
          Next.more (bytes_at 4 code at.0) (record { four = s.0; stand = s.1 }) (sym (ap₂ follows f.number f.place) ∙ d)

  short_from : (at : CodeOffset) (follows : ℕ → CodeOffset → Step) → WordShort code at why place → then_read (read_of 4 code at) follows ≡ Err (refused why place)
  short_from at follows s = ap (λ (r : Read). then_read r follows) ((read_refused 4 code at why place).1 (s.number, s.placed, s.past))

  word_from : (at : CodeOffset) (follows : ℕ → CodeOffset → Step) (word : List ℕ) → WordStands code at word → then_read (read_of 4 code at) follows ≡ follows (big_endian word) (after 4 at)
  word_from at follows word w =
      let four : length word ≡ 4 = w.four in
      let there : bytes_at 4 code at.0 ≡ word = ap (λ (k : ℕ). bytes_at k code at.0) (sym four) ∙ w.stand.there in
      ap (λ (r : Read). then_read r follows) (found 4 code at (big_endian word) (after 4 at) (record { within = rw (sym four) w.stand.within; number = ap big_endian (sym there); place = refl }))

  -- the words of a switch are refused, or the switch is decoded
  last_read : (r : Result CodeOffset (Refusal CodeOffset)) (i : Instruction) → ended i r ≡ Err (refused why place) → r ≡ Err (refused why place)
  last_read (Ok next) i e = absurd (clash (sym e))
  last_read (Err r) i e = ap (λ (s : Refusal CodeOffset). Err s) (same_refusal e)

  -- a run of words
  words_to : (count : ℕ) (at : CodeOffset) → at.0 ≤ length code → words_from count code at ≡ Err (refused why place) → WordsShort code at count why place
  words_to count at h e = go (leb (4 * count) (length code - at.0)) refl
    where
      go : (t : Bool) → leb (4 * count) (length code - at.0) ≡ t → WordsShort code at count why place
      go true q =
          let some : 4 * count ≤ length code - at.0 = leb-true _ _ q in
          absurd (clash (sym e ∙ words_fit code count at (omega arith)))
      go false q =
          let less : length code - at.0 < 4 * count = leb-false _ _ q in
          let fit : ℕ = (length code - at.0) / 4 in
          let s = stand_here code (4 * fit) at (omega arith) in
          let same : refused why place ≡ refused reason.PastEnd (after ((length code - at.0) / 4 * 4) at) = same_refusal (sym e ∙ words_short code count at less) in
          let placed : place ≡ after ((length code - at.0) / 4 * 4) at = ap (λ (r : Refusal CodeOffset). r.place) same in
          record {
            fit = fit;
            fewer = omega arith;
            words = bytes_at (4 * fit) code at.0;
            all = s.0;
            stand = s.1;
            short = record { number = ap (λ (r : Refusal CodeOffset). number_of r.reason) same; placed = placed ∙ at_place (omega arith); past = omega arith };
          }

  words_from_lem : (count : ℕ) (at : CodeOffset) → WordsShort code at count why place → words_from count code at ≡ Err (refused why place)
  words_from_lem count at w =
      let fit : ℕ = w.fit in
      let fewer : fit < count = w.fewer in
      let within : at.0 + 4 * fit ≤ length code = rw (sym w.all) w.stand.within in
      let past : length code < at.0 + 4 * fit + 4 = w.short.past in
      words_short code count at (omega arith) ∙ ap₂ (λ (r : Reason) (p : CodeOffset). Err (refused r p)) (sym (numbers_differ why reason.PastEnd w.short.number)) (at_place (omega arith) ∙ sym w.short.placed)

  after_word : {at : CodeOffset} {word : List ℕ} → WordStands code at word → at.0 + 4 ≤ length code
  after_word {word = word} w = let four : length word ≡ 4 = w.four in rw (sym four) w.stand.within

  -- the parts of a table
  abbrev after_high : CodeOffset → ℕ → ℕ → ℕ → CodeOffset → Step
  after_high high_at default low high entries = table_entries code high_at default low high entries

  abbrev after_low : ℕ → ℕ → CodeOffset → Step
  after_low default low high_at = then_read (read_of 4 code high_at) (after_high high_at default low)

  abbrev after_default : ℕ → CodeOffset → Step
  after_default default low_at = then_read (read_of 4 code low_at) (after_low default)

  module _ (at : CodeOffset) where
    entries_to : (o : TableOpening code at) → table_entries code (after 8 o.start) (big_endian o.default) (big_endian o.low) (big_endian o.high) (after 12 o.start) ≡ Err (refused why place) → TableFault code at why place
    entries_to o e = go (entry_count (big_endian o.low) (big_endian o.high)) refl
      where
        go : (count : Option ℕ) → entry_count (big_endian o.low) (big_endian o.high) ≡ count → TableFault code at why place
        go None q =
            let same = sym e ∙ ap (table_of code (after 8 o.start) (big_endian o.default) (big_endian o.low) (big_endian o.high) (after 12 o.start)) q in
            TableFault.bad_bounds o (ap number_of (same_reason same)) (same_place same) ((bounds o.low o.high).0 q)
        go (Some count) q =
            let c = counts (signed_of (big_endian o.high) -ℤ signed_of (big_endian o.low)) count q in
            let within : (after 8 o.start).0 + 4 ≤ length code = after_word o.high_word in
            let r = last_read (words_from count code (after 12 o.start)) (instruction.TableSwitch (big_endian o.default) (big_endian o.low) (big_endian o.high) (after 12 o.start) count) (sym (ap (table_of code (after 8 o.start) (big_endian o.default) (big_endian o.low) (big_endian o.high) (after 12 o.start)) q) ∙ e) in
            TableFault.entry_short o count c.0 c.2 (words_to count (after 12 o.start) (omega arith) r)

    table_to : table_step code at ≡ Err (refused why place) → TableFault code at why place
    table_to e = defaulted (next_to (padded at) after_default e)
      where
        highed : (default low : List ℕ) → WordStands code (padded at) default → WordStands code (after 4 (padded at)) low → Next (after 8 (padded at)) (after_high (after 8 (padded at)) (big_endian default) (big_endian low)) → TableFault code at why place
        highed default low d l (Next.short s) = TableFault.high_short (padded at) (first_word at) default low d l s
        highed default low d l (Next.more high h e) =
            entries_to (record { start = padded at; first = first_word at; default = default; low = low; high = high; default_word = d; low_word = l; high_word = h })
            (sym (ap (λ (p : CodeOffset). table_entries code (after 8 (padded at)) (big_endian default) (big_endian low) (big_endian high) p) (further (padded at) 8 4)) ∙ e)

        lowed : (default : List ℕ) → WordStands code (padded at) default → Next (after 4 (padded at)) (after_low (big_endian default)) → TableFault code at why place
        lowed default d (Next.short s) = TableFault.low_short (padded at) (first_word at) default d s
        lowed default d (Next.more low l e) = highed default low d l (next_to (after 8 (padded at)) (after_high (after 8 (padded at)) (big_endian default) (big_endian low)) (sym (ap (after_low (big_endian default) (big_endian low)) (further (padded at) 4 4)) ∙ e))

        defaulted : Next (padded at) after_default → TableFault code at why place
        defaulted (Next.short s) = TableFault.default_short (padded at) (first_word at) s
        defaulted (Next.more default d e) = lowed default d (next_to (after 4 (padded at)) (after_low (big_endian default)) e)

    -- what is read before a fault
    at_start : {start : CodeOffset} → FirstWord at start → table_step code at ≡ then_read (read_of 4 code start) after_default
    at_start f = ap (λ (p : CodeOffset). then_read (read_of 4 code p) after_default) (padded_is f)

    past_default : {start : CodeOffset} → FirstWord at start → (default : List ℕ) → WordStands code start default → table_step code at ≡ then_read (read_of 4 code (after 4 start)) (after_low (big_endian default))
    past_default {start} f default d = at_start f ∙ word_from start after_default default d

    past_low : {start : CodeOffset} → FirstWord at start → (default low : List ℕ) → WordStands code start default → WordStands code (after 4 start) low → table_step code at ≡ then_read (read_of 4 code (after 8 start)) (after_high (after 8 start) (big_endian default) (big_endian low))
    past_low {start} f default low d l = past_default f default d ∙ word_from (after 4 start) (after_low (big_endian default)) low l ∙ ap (after_low (big_endian default) (big_endian low)) (further start 4 4)

    past_high : (o : TableOpening code at) → table_step code at ≡ table_entries code (after 8 o.start) (big_endian o.default) (big_endian o.low) (big_endian o.high) (after 12 o.start)
    past_high o =
        past_low o.first o.default o.low o.default_word o.low_word
        ∙ word_from (after 8 o.start) (after_high (after 8 o.start) (big_endian o.default) (big_endian o.low)) o.high o.high_word
        ∙ ap (λ (p : CodeOffset). table_entries code (after 8 o.start) (big_endian o.default) (big_endian o.low) (big_endian o.high) p) (further o.start 8 4)

    table_from_lem : TableFault code at why place → table_step code at ≡ Err (refused why place)
    table_from_lem (TableFault.default_short start f s) = at_start f ∙ short_from start after_default s
    table_from_lem (TableFault.low_short start f default d s) = past_default f default d ∙ short_from (after 4 start) (after_low (big_endian default)) s
    table_from_lem (TableFault.high_short start f default low d l s) = past_low f default low d l ∙ short_from (after 8 start) (after_high (after 8 start) (big_endian default) (big_endian low)) s
    table_from_lem (TableFault.bad_bounds o ten there bad) =
        past_high o
        ∙ ap (table_of code (after 8 o.start) (big_endian o.default) (big_endian o.low) (big_endian o.high) (after 12 o.start)) ((bounds o.low o.high).1 bad)
        ∙ rw (numbers_differ why reason.BadBounds ten, there)
    table_from_lem (TableFault.entry_short o count is few w) =
        let fewer : w.fit < count = w.fewer in
        past_high o
        ∙ ap (table_of code (after 8 o.start) (big_endian o.default) (big_endian o.low) (big_endian o.high) (after 12 o.start)) (counts_as (signed_of (big_endian o.high) -ℤ signed_of (big_endian o.low)) count is (omega arith) few)
        ∙ ap (ended (instruction.TableSwitch (big_endian o.default) (big_endian o.low) (big_endian o.high) (after 12 o.start) count)) (words_from_lem count (after 12 o.start) w)

  -- the parts of a lookup
  abbrev after_count : CodeOffset → ℕ → ℕ → CodeOffset → Step
  after_count count_at default count entries = lookup_entries code count_at default count entries

  abbrev after_its_default : ℕ → CodeOffset → Step
  after_its_default default count_at = then_read (read_of 4 code count_at) (after_count count_at default)

  module _ (at : CodeOffset) where
    pairs_to : (o : LookupOpening code at) → lookup_entries code (after 4 o.start) (big_endian o.default) (big_endian o.npairs) (after 8 o.start) ≡ Err (refused why place) → LookupFault code at why place
    pairs_to o e = go (signed_of (big_endian o.npairs)) refl
      where
        go : (z : ℤ) → signed_of (big_endian o.npairs) ≡ z → LookupFault code at why place
        go (pos count) q =
            let within : (after 4 o.start).0 + 4 ≤ length code = after_word o.npairs_word in
            let r = last_read (words_from (2 * count) code (after 8 o.start)) (instruction.LookupSwitch (big_endian o.default) (after 8 o.start) count) (sym (ap (lookup_of code (after 4 o.start) (big_endian o.default) (after 8 o.start)) q) ∙ e) in
            LookupFault.pair_short o count q (words_to (2 * count) (after 8 o.start) (omega arith) r)
        go (negsuc k) q =
            let same = sym e ∙ ap (lookup_of code (after 4 o.start) (big_endian o.default) (after 8 o.start)) q in
            LookupFault.negative o (ap number_of (same_reason same)) (same_place same) (subst BelowZero (sym q) tt)

    lookup_to : lookup_step code at ≡ Err (refused why place) → LookupFault code at why place
    lookup_to e = defaulted (next_to (padded at) after_its_default e)
      where
        counts_pairs : (default : List ℕ) → WordStands code (padded at) default → Next (after 4 (padded at)) (after_count (after 4 (padded at)) (big_endian default)) → LookupFault code at why place
        counts_pairs default d (Next.short s) = LookupFault.npairs_short (padded at) (first_word at) default d s
        counts_pairs default d (Next.more npairs c e) =
            pairs_to (record { start = padded at; first = first_word at; default = default; npairs = npairs; default_word = d; npairs_word = c })
            (sym (ap (λ (p : CodeOffset). lookup_entries code (after 4 (padded at)) (big_endian default) (big_endian npairs) p) (further (padded at) 4 4)) ∙ e)

        defaulted : Next (padded at) after_its_default → LookupFault code at why place
        defaulted (Next.short s) = LookupFault.default_short (padded at) (first_word at) s
        defaulted (Next.more default d e) = counts_pairs default d (next_to (after 4 (padded at)) (after_count (after 4 (padded at)) (big_endian default)) e)

    lookup_at_start : {start : CodeOffset} → FirstWord at start → lookup_step code at ≡ then_read (read_of 4 code start) after_its_default
    lookup_at_start f = ap (λ (p : CodeOffset). then_read (read_of 4 code p) after_its_default) (padded_is f)

    past_its_default : {start : CodeOffset} → FirstWord at start → (default : List ℕ) → WordStands code start default → lookup_step code at ≡ then_read (read_of 4 code (after 4 start)) (after_count (after 4 start) (big_endian default))
    past_its_default {start} f default d = lookup_at_start f ∙ word_from start after_its_default default d

    past_npairs : (o : LookupOpening code at) → lookup_step code at ≡ lookup_entries code (after 4 o.start) (big_endian o.default) (big_endian o.npairs) (after 8 o.start)
    past_npairs o =
        past_its_default o.first o.default o.default_word
        ∙ word_from (after 4 o.start) (after_count (after 4 o.start) (big_endian o.default)) o.npairs o.npairs_word
        ∙ ap (λ (p : CodeOffset). lookup_entries code (after 4 o.start) (big_endian o.default) (big_endian o.npairs) p) (further o.start 4 4)

    lookup_from : LookupFault code at why place → lookup_step code at ≡ Err (refused why place)
    lookup_from (LookupFault.default_short start f s) = lookup_at_start f ∙ short_from start after_its_default s
    lookup_from (LookupFault.npairs_short start f default d s) = past_its_default f default d ∙ short_from (after 4 start) (after_count (after 4 start) (big_endian default)) s
    lookup_from (LookupFault.negative o eleven there below) = past_npairs o ∙ under (signed_of (big_endian o.npairs)) below ∙ rw (numbers_differ why reason.NegativeCount eleven, there)
      where
        under : (z : ℤ) → BelowZero z → lookup_of code (after 4 o.start) (big_endian o.default) (after 8 o.start) z ≡ Err (refused reason.NegativeCount (after 4 o.start))
        under (pos m) below = absurd below
        under (negsuc k) below = refl
    lookup_from (LookupFault.pair_short o count is w) =
        past_npairs o
        ∙ ap (lookup_of code (after 4 o.start) (big_endian o.default) (after 8 o.start)) is
        ∙ ap (ended (instruction.LookupSwitch (big_endian o.default) (after 8 o.start) count)) (words_from_lem (2 * count) (after 8 o.start) w)

pub table_refused_exactly : TableRefusedExactly
table_refused_exactly code at why place = (table_to code why place at, table_from_lem code why place at)

pub lookup_refused_exactly : LookupRefusedExactly
lookup_refused_exactly code at why place = (lookup_to code why place at, lookup_from code why place at)
