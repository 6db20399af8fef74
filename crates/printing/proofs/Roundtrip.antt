-- Reading and printing undo each other: a derivation's parts print its text, and parts that keep the rules have a
-- derivation of the bytes that they print.
use Prim.Native.Nat.{ℕ, zero, suc, ◌+◌, ◌-◌, ◌≤◌}
use mathlib.Core.Bool.{Bool, true, false, So, false≢true}
use mathlib.Core.List.{List, [], ◌∷◌, ◌++◌, append_assoc, append-nil}
use mathlib.Core.Logic.{◌↔◌, inl, inr, ⊎_elim}
use mathlib.Core.Path.{◌≡◌, refl, sym, ap, ap₂, ◌∙◌, subst}
use native.Mathlib.Nat.{add-zero, zero-add}
use native.Mathlib.Numerals.{add-one}
use native.Mathlib.Omega.{arith}
use borrow.Author.Tests.{leb-true, leb-false}
use lib.Dec.{leb}
use lib.ListN.{length, take, drop, replicate, length-append, length-drop}
use lib.Seq.{take_at, drop-drop}
use Rattle.std.specs.Prelude.{Ok, Err}
use Rattle.refusals.specs.declared.Reason.TheVariants as reason
use Rattle.refusals.specs.Numbers.{number_of, refused}
use Rattle.laws.specs.Bytes.{byte, ascii, text_limit}
use Rattle.class_names.specs.Rules.{ClassName}
use Rattle.descriptors.specs.declared.FieldDescriptor.{FieldDescriptor}
use Rattle.descriptors.specs.Texts.{Field, max_dimensions, base, object, void, is_base_type, field_text, return_text}
use Rattle.descriptors.specs.Grammar.{FieldType, dimensions, parts_at}
use Rattle.descriptors.specs.Theorems.{DerivedField}
use Rattle.descriptors.proofs.Entries.{field_text_exactly, return_text_exactly}
use Rattle.output.specs.Output.{Output, writing, output_after}
use Rattle.output.proofs.Writing.{writing_fits, writing_too_short}
use Rattle.printing.specs.Printing.{name_of, type_bytes, part_bytes, is_field_part, is_return_part, printing}
use Rattle.printing.specs.Theorems.{HasName, Agree, PrintsBack, ReadsBack, KeptExactly, FieldPrintsBack, ReturnPrintsBack, FieldReadsBack, ReturnReadsBack, FieldKeptExactly, ReturnKeptExactly, Refused34Exactly}
use Rattle.printing.proofs.Laws.{object_bytes, letter_bytes, FieldPart, ReturnPart, field_part, return_part, print_over, print_broken, print_long, print_within}

-- What stands in a text from a place on.
drop_more : (text : List ℕ) (at b : ℕ) (s : List ℕ) → drop at text ≡ b ∷ s → drop (at + 1) text ≡ s
drop_more text at b s e = sym (drop-drop 1 at text) ∙ ap (drop 1) e

drop_brackets : (text : List ℕ) (n at : ℕ) (s : List ℕ) → drop at text ≡ replicate n (byte "[") ++ s → drop (at + n) text ≡ s
drop_brackets text zero at s e = ap (λ (i : ℕ). drop i text) (add-zero at) ∙ e
drop_brackets text (suc n) at s e =
    let place : at + suc n ≡ at + 1 + n = omega arith in
    ap (λ (i : ℕ). drop i text) place ∙ drop_brackets text n (at + 1) s (drop_more text at (byte "[") (replicate n (byte "[") ++ s) e)

-- a class name between its L and its ; is the one that the parts point to
module _ (text : List ℕ) (at l : ℕ) (name post : List ℕ) (e : drop at text ≡ l ∷ name ++ byte ";" ∷ [] ++ post) where
  after_letter : drop (at + 1) text ≡ name ++ (byte ";" ∷ post)
  after_letter = drop_more text at l (name ++ byte ";" ∷ [] ++ post) e ∙ append_assoc name (byte ";" ∷ []) post

  name_there : take (length name) (drop (at + 1) text) ≡ name
  name_there = ap (take (length name)) after_letter ∙ take_at name (byte ";" ∷ post) (length name) refl

  name_within : at + 1 + length name ≤ length text
  name_within =
      let long : length text - (at + 1) ≡ length name + suc (length post) = sym (length-drop (at + 1) text) ∙ ap length after_letter ∙ length-append name (byte ";" ∷ post) in
      omega arith

replicate_more : (d b : ℕ) (s : List ℕ) → replicate (d + 1) b ++ s ≡ replicate d b ++ (b ∷ s)
replicate_more d b s = rw add-one (go d)
  where
    go : (n : ℕ) → replicate (suc n) b ++ s ≡ replicate n b ++ (b ∷ s)
    go zero = refl
    go (suc n) = ap (λ (l : List ℕ). b ∷ l) (go n)

no_object : {b : ℕ} → So (is_base_type b) → b ≡ byte "L" → ⊥
no_object {b} p e = false≢true (sym (ap is_base_type e) ∙ p)

-- (a) The parts of a derivation keep the rules, and print its text.
pub derived_keeps :
    (text : List ℕ) (d at : ℕ) {s : List ℕ} (t : FieldType s) (post : List ℕ) → drop at text ≡ s ++ post → d + dimensions t ≤ max_dimensions
    → FieldPart text (parts_at d at t) × (part_bytes text (parts_at d at t) ≡ replicate d (byte "[") ++ s)
unfolding dimensions parts_at
derived_keeps text d at (FieldType.base_type {b} p) post e few = (
  FieldPart.base_part (omega arith) (no_object p) p refl refl,
  ap (λ (l : List ℕ). replicate d (byte "[") ++ l) (letter_bytes text (base d b) (no_object p)),
)
derived_keeps text d at (FieldType.object_type {l} {s} name q c r) post e few =
    let there : drop at text ≡ l ∷ name ++ byte ";" ∷ [] ++ post = e ∙ ap (λ (x : List ℕ). l ∷ x ++ post) r in
    let same = name_there text at l name post there in (
      FieldPart.object_part (omega arith) refl (name_within text at l name post there) (subst ClassName (sym same) c),
      ap (λ (x : List ℕ). replicate d (byte "[") ++ x) (object_bytes text (object d (at + 1) (length name)) refl ∙ ap (λ (x : List ℕ). byte "L" ∷ x ++ byte ";" ∷ []) same ∙ ap₂ ◌∷◌ (sym q) (sym r)),
    )
derived_keeps text d at (FieldType.array_type {a} {s} q t) post e few =
    let more = derived_keeps text (d + 1) (at + 1) t post (drop_more text at a (s ++ post) e) (omega arith) in
    (more.0, more.1 ∙ replicate_more d (byte "[") s ∙ ap (λ (b : ℕ). replicate d (byte "[") ++ (b ∷ s)) (sym q))

-- what was read keeps the rules, and prints its own text
record WasRead (Part : List ℕ → FieldDescriptor → Type 0) (s : List ℕ) (f : FieldDescriptor) : Type 0 where
  part : Part s f
  same : part_bytes s f ≡ s
  short : length s ≤ text_limit

derived_read : (s : List ℕ) (f : FieldDescriptor) (used : ℕ) → DerivedField s f used → WasRead FieldPart s f
derived_read s f used d =
    let k = derived_keeps s 0 0 d.tree [] (sym (append-nil s)) (omega (arith, d.few)) in
    subst (WasRead FieldPart s) (sym d.parts) (record { part = k.0; same = k.1; short = d.short })

field_was_read : (s : List ℕ) (f : FieldDescriptor) (used : ℕ) → field_text s ≡ Ok (f, used) → WasRead FieldPart s f
field_was_read s f used h = derived_read s f used ((field_text_exactly s f used).0 h)

pub void_bytes : (text : List ℕ) → part_bytes text void ≡ ascii "V"
void_bytes text = letter_bytes text void (λ e. omega arith)

return_was_read : (s : List ℕ) (f : FieldDescriptor) (used : ℕ) → return_text s ≡ Ok (f, used) → WasRead ReturnPart s f
return_was_read s f used h =
    ⊎_elim
    (λ v. record { part = inl v.1; same = ap (part_bytes s) v.1 ∙ void_bytes s ∙ sym v.0; short = rw v.0 (omega arith) })
    (λ d. let k = derived_read s f used d in record { part = inr k.part; same = k.same; short = k.short })
    ((return_text_exactly s f used).0 h)

-- What keeps the rules is printed, where there is room.
pub prints : (s : List ℕ) (kept : Bool) (bytes out : List ℕ) → So kept → bytes ≡ s → length s ≤ text_limit → length s ≤ length out
    → (printing s kept bytes (length out) ≡ Ok (length s)) × (output_after (printing s kept bytes (length out)) bytes out ≡ s ++ drop (length s) out)
unfolding output_after
prints s kept bytes out k same short room =
    let answer : printing s kept bytes (length out) ≡ Ok (length s) =
    print_within s kept bytes (length out) short k (rw same short) ∙ ap (λ (b : List ℕ). writing b (length out)) same ∙ writing_fits s (length out) room in
    (answer, ap₂ (λ (a : Output) (b : List ℕ). output_after a b out) answer same)

-- (b) Parts that keep the rules have a derivation of their bytes, whose parts agree with them wherever the bytes stand.
arrays : (n : ℕ) {s : List ℕ} → FieldType s → FieldType (replicate n (byte "[") ++ s)
arrays zero t = t
arrays (suc n) t = FieldType.array_type refl (arrays n t)

arrays_dimensions : (n : ℕ) {s : List ℕ} (t : FieldType s) → dimensions (arrays n t) ≡ n + dimensions t
unfolding dimensions arrays
arrays_dimensions zero t = sym (zero-add (dimensions t))
arrays_dimensions (suc n) t = omega (arith, arrays_dimensions n t)

arrays_parts : (n d at : ℕ) {s : List ℕ} (t : FieldType s) → parts_at d at (arrays n t) ≡ parts_at (d + n) (at + n) t
unfolding parts_at arrays
arrays_parts zero d at t = ap₂ (λ (i j : ℕ). parts_at i j t) (sym (add-zero d)) (sym (add-zero at))
arrays_parts (suc n) d at t =
    let more : d + 1 + n ≡ d + suc n = omega arith in
    let next : at + 1 + n ≡ at + suc n = omega arith in
    arrays_parts n (d + 1) (at + 1) t ∙ ap₂ (λ (i j : ℕ). parts_at i j t) more next

pub record FieldTree (text : List ℕ) (f : FieldDescriptor) : Type 0 where
  pub bytes : List ℕ
  pub same : part_bytes text f ≡ bytes
  pub tree : FieldType bytes
  pub few : dimensions tree ≤ max_dimensions
  pub agrees : (other : List ℕ) (at : ℕ) (post : List ℕ) → drop at other ≡ bytes ++ post → Agree text f other (parts_at 0 at tree)

module _ (text : List ℕ) (f : FieldDescriptor) where
  base_tree : f.dimensions ≤ max_dimensions → (f.letter ≡ byte "L" → ⊥) → So (is_base_type f.letter) → f.start ≡ 0 → f.length ≡ 0 → FieldTree text f
  unfolding dimensions parts_at
  base_tree few n b s l =
      record {
        bytes = replicate f.dimensions (byte "[") ++ f.letter ∷ [];
        same = ap (λ (t : List ℕ). replicate f.dimensions (byte "[") ++ t) (letter_bytes text f n);
        tree = arrays f.dimensions type;
        few = omega (arith, few, arrays_dimensions f.dimensions type);
        agrees = λ other at post e. subst (Agree text f other) (sym (arrays_parts f.dimensions 0 at type)) (agree other);
      }
    where
      type : FieldType (f.letter ∷ [])
      type = FieldType.base_type b

      agree : (other : List ℕ) → Agree text f other (base (0 + f.dimensions) f.letter)
      agree other =
          record { dimensions = sym (zero-add f.dimensions); letter = refl; name = []; first = HasName.unnamed n s l refl; second = HasName.unnamed n refl refl refl }

  object_tree : f.dimensions ≤ max_dimensions → f.letter ≡ byte "L" → f.start + f.length ≤ length text → ClassName (name_of text f) → FieldTree text f
  unfolding dimensions parts_at
  object_tree few l r c =
      record {
        bytes = replicate f.dimensions (byte "[") ++ object_text;
        same = ap (λ (t : List ℕ). replicate f.dimensions (byte "[") ++ t) (object_bytes text f l);
        tree = arrays f.dimensions type;
        few = omega (arith, few, arrays_dimensions f.dimensions type);
        agrees = λ other at post e. subst (Agree text f other) (sym (arrays_parts f.dimensions 0 at type)) (agree other at post e);
      }
    where
      object_text : List ℕ
      object_text = byte "L" ∷ name_of text f ++ byte ";" ∷ []

      type : FieldType object_text
      type = FieldType.object_type (name_of text f) refl c refl

      agree : (other : List ℕ) (at : ℕ) (post : List ℕ) → drop at other ≡ replicate f.dimensions (byte "[") ++ object_text ++ post → Agree text f other (object (0 + f.dimensions) (at + f.dimensions + 1) (length (name_of text f)))
      agree other at post e =
          let there = drop_brackets other f.dimensions at (object_text ++ post) (e ∙ append_assoc (replicate f.dimensions (byte "[")) object_text post) in
          record {
            dimensions = sym (zero-add f.dimensions);
            letter = l;
            name = name_of text f;
            first = HasName.named l r refl;
            second = HasName.named refl (name_within other (at + f.dimensions) (byte "L") (name_of text f) post there) (name_there other (at + f.dimensions) (byte "L") (name_of text f) post there);
          }

  pub field_tree : FieldPart text f → FieldTree text f
  field_tree (FieldPart.base_part few n b s l) = base_tree few n b s l
  field_tree (FieldPart.object_part few l r c) = object_tree few l r c

-- What is printed is the bytes of parts that keep the rules, within the limit.
pub record Printed (text : List ℕ) (kept : Bool) (bytes out : List ℕ) (n : ℕ) : Type 0 where
  pub keeps : So kept
  pub short : length bytes ≤ text_limit
  pub all : n ≡ length bytes
  pub front : take n (output_after (printing text kept bytes (length out)) bytes out) ≡ bytes

pub printed : (text : List ℕ) (kept : Bool) (bytes out : List ℕ) (n : ℕ) → printing text kept bytes (length out) ≡ Ok n → Printed text kept bytes out n
unfolding output_after
printed text kept bytes out n h = go (leb (length text) text_limit) refl kept refl (leb (length bytes) text_limit) refl (leb (length bytes) (length out)) refl
  where
    go :
        (t : Bool) → leb (length text) text_limit ≡ t → (k : Bool) → kept ≡ k → (u : Bool) → leb (length bytes) text_limit ≡ u → (v : Bool) → leb (length bytes) (length out) ≡ v
        → Printed text kept bytes out n
    go false p k q u r v w = absurd (cc (sym (print_over text kept bytes (length out) (leb-false _ _ p)) ∙ h))
    go true p false q u r v w = absurd (cc (sym (print_broken text kept bytes (length out) (leb-true _ _ p) q) ∙ h))
    go true p true q false r v w = absurd (cc (sym (print_long text kept bytes (length out) (leb-true _ _ p) q (leb-false _ _ r)) ∙ h))
    go true p true q true r false w = absurd (cc (sym (print_within text kept bytes (length out) (leb-true _ _ p) q (leb-true _ _ r) ∙ writing_too_short bytes (length out) (leb-false _ _ w)) ∙ h))
    go true p true q true r true w =
        let is : ◌≡◌ {A = Output} (Ok (length bytes)) (Ok n) = sym (print_within text kept bytes (length out) (leb-true _ _ p) q (leb-true _ _ r) ∙ writing_fits bytes (length out) (leb-true _ _ w)) ∙ h in
        let all : length bytes ≡ n = cc in
        record {
          keeps = q;
          short = leb-true _ _ r;
          all = sym all;
          front = ap (λ (a : Output). take n (output_after a bytes out)) h ∙ take_at bytes (drop n out) n all;
        }

tree_derived : (text : List ℕ) (f : FieldDescriptor) (t : FieldTree text f) → length (part_bytes text f) ≤ text_limit → DerivedField t.bytes (parts_at 0 0 t.tree) (length t.bytes)
tree_derived text f t short = record { short = rw t.same at short; tree = t.tree; few = t.few; parts = refl; all = refl }

abbrev ReadTo : (List ℕ → Field) → List ℕ → FieldDescriptor → List ℕ → Type 0
ReadTo reads text f bytes = (g : FieldDescriptor) × (reads bytes ≡ Ok (g, length bytes)) × Agree text f bytes g

pub void_agrees : (text other : List ℕ) → Agree text void other void
void_agrees text other = record { dimensions = refl; letter = refl; name = []; first = HasName.unnamed no_letter refl refl refl; second = HasName.unnamed no_letter refl refl refl }
  where
    no_letter : void.letter ≡ byte "L" → ⊥
    no_letter e = omega arith

module _ (text : List ℕ) (f : FieldDescriptor) (short : length (part_bytes text f) ≤ text_limit) where
  field_reads : FieldPart text f → ReadTo field_text text f (part_bytes text f)
  field_reads p =
      let t = field_tree text f p in
      subst (ReadTo field_text text f) (sym t.same)
      (parts_at 0 0 t.tree, (field_text_exactly _ _ _).1 (tree_derived text f t short), t.agrees t.bytes 0 [] (sym (append-nil t.bytes)))

  return_reads : ReturnPart text f → ReadTo return_text text f (part_bytes text f)
  return_reads (inl v) = subst (ReadTo return_text text f) (sym (ap (part_bytes text) v ∙ void_bytes text)) (void, (return_text_exactly _ _ _).1 (inl (refl, refl, refl)), subst (λ (g : FieldDescriptor). Agree text g (ascii "V") void) (sym v) (void_agrees text (ascii "V")))
  return_reads (inr p) =
      let t = field_tree text f p in
      subst (ReadTo return_text text f) (sym t.same)
      (parts_at 0 0 t.tree, (return_text_exactly _ _ _).1 (inr (tree_derived text f t short)), t.agrees t.bytes 0 [] (sym (append-nil t.bytes)))

-- Parts that agree have the same bytes, and keep the rules together.
module _ (text : List ℕ) (f : FieldDescriptor) (other : List ℕ) (g : FieldDescriptor) (a : Agree text f other g) where
  same_type : HasName text f a.name → HasName other g a.name → type_bytes text f ≡ type_bytes other g
  same_type (HasName.named l r e) (HasName.named m q i) = object_bytes text f l ∙ ap (λ (n : List ℕ). byte "L" ∷ n ++ byte ";" ∷ []) (e ∙ sym i) ∙ sym (object_bytes other g m)
  same_type (HasName.named l r e) (HasName.unnamed m q i j) = absurd (m (sym a.letter ∙ l))
  same_type (HasName.unnamed l r e i) (HasName.named m q j) = absurd (l (a.letter ∙ m))
  same_type (HasName.unnamed l r e i) (HasName.unnamed m q j k) = letter_bytes text f l ∙ ap (λ (b : ℕ). b ∷ []) a.letter ∙ sym (letter_bytes other g m)

  pub agree_bytes : part_bytes text f ≡ part_bytes other g
  agree_bytes = ap₂ (λ (n : ℕ) (t : List ℕ). replicate n (byte "[") ++ t) a.dimensions (same_type a.first a.second)

  pub agree_field : FieldPart other g → FieldPart text f
  agree_field (FieldPart.base_part few n b s l) = go a.first
    where
      go : HasName text f a.name → FieldPart text f
      go (HasName.named m r e) = absurd (n (sym a.letter ∙ m))
      go (HasName.unnamed m r e i) = FieldPart.base_part (rw a.dimensions few) m (rw a.letter b) r e
  agree_field (FieldPart.object_part few l r c) = go a.first a.second
    where
      go : HasName text f a.name → HasName other g a.name → FieldPart text f
      go (HasName.unnamed m q e i) second = absurd (m (a.letter ∙ l))
      go (HasName.named m q e) (HasName.unnamed k i j z) = absurd (k l)
      go (HasName.named m q e) (HasName.named k i j) = FieldPart.object_part (rw a.dimensions few) m q (subst ClassName (j ∙ sym e) c)

  agree_void : g ≡ void → f ≡ void
  agree_void v = go a.first
    where
      letter : f.letter ≡ byte "V"
      letter = a.letter ∙ ap (λ (x : FieldDescriptor). x.letter) v

      dimensions_none : f.dimensions ≡ 0
      dimensions_none = a.dimensions ∙ ap (λ (x : FieldDescriptor). x.dimensions) v

      go : HasName text f a.name → f ≡ void
      go (HasName.named m r e) = absurd (omega (arith, m, letter))
      go (HasName.unnamed m r e i) = λ j. record { dimensions = dimensions_none j; letter = letter j; start = r j; length = e j }

  pub agree_return : ReturnPart other g → ReturnPart text f
  agree_return (inl v) = inl (agree_void v)
  agree_return (inr p) = inr (agree_field p)

-- The theorems, for any rule and any reading where what was read keeps the rule, what keeps it is read, and parts that
-- agree keep it together.
module _
    (kept : List ℕ → FieldDescriptor → Bool) (reads : List ℕ → Field) (Part : List ℕ → FieldDescriptor → Type 0)
    (rule : (text : List ℕ) (f : FieldDescriptor) → So (kept text f) ↔ Part text f)
    (was_read : (s : List ℕ) (f : FieldDescriptor) (used : ℕ) → reads s ≡ Ok (f, used) → WasRead Part s f)
    (is_read : (text : List ℕ) (f : FieldDescriptor) → length (part_bytes text f) ≤ text_limit → Part text f → ReadTo reads text f (part_bytes text f))
    (agree : (text : List ℕ) (f : FieldDescriptor) (s : List ℕ) (g : FieldDescriptor) → Agree text f s g → Part s g → Part text f)
  where
    abbrev answers : List ℕ → FieldDescriptor → ℕ → Output
    answers text f room = printing text (kept text f) (part_bytes text f) room

    abbrev outputs : List ℕ → FieldDescriptor → List ℕ → List ℕ
    outputs text f out = output_after (answers text f (length out)) (part_bytes text f) out

    prints_back : PrintsBack reads answers outputs
    prints_back s out f used h room =
        let w = was_read s f used h in
        prints s (kept s f) (part_bytes s f) out ((rule s f).1 w.part) w.same w.short room

    reads_back : ReadsBack reads answers outputs
    reads_back text out f n h =
        let p = printed text (kept text f) (part_bytes text f) out n h in
        let r = is_read text f p.short ((rule text f).0 p.keeps) in
        (r.0, ap reads p.front ∙ r.1 ∙ ap (λ (n : ℕ). Ok (r.0, n)) (sym p.all), rw p.front r.2)

    kept_exactly : KeptExactly kept reads
    kept_exactly text f = (
      λ h.
          let r = is_read text f h.1 ((rule text f).0 h.0) in
          (part_bytes text f, r.0, length (part_bytes text f), r.1, r.2),
      λ h.
          let w = was_read h.0 h.1 h.2 h.3 in
          ((rule text f).1 (agree text f h.0 h.1 h.4 w.part), rw (agree_bytes text f h.0 h.1 h.4 ∙ w.same) w.short),
    )

pub field_prints_back : FieldPrintsBack
field_prints_back = prints_back is_field_part field_text FieldPart field_part field_was_read field_reads agree_field

pub return_prints_back : ReturnPrintsBack
return_prints_back = prints_back is_return_part return_text ReturnPart return_part return_was_read return_reads agree_return

pub field_reads_back : FieldReadsBack
field_reads_back = reads_back is_field_part field_text FieldPart field_part field_was_read field_reads agree_field

pub return_reads_back : ReturnReadsBack
return_reads_back = reads_back is_return_part return_text ReturnPart return_part return_was_read return_reads agree_return

pub field_kept_exactly : FieldKeptExactly
field_kept_exactly = kept_exactly is_field_part field_text FieldPart field_part field_was_read field_reads agree_field

pub return_kept_exactly : ReturnKeptExactly
return_kept_exactly = kept_exactly is_return_part return_text ReturnPart return_part return_was_read return_reads agree_return

-- 34. The number of an answer's refusal tells it from the others.
abbrev number_in : Output → ℕ
number_in (Ok n) = 0
number_in (Err r) = number_of r.reason

pub refused_34_exactly : Refused34Exactly
refused_34_exactly text kept bytes room = (
  λ h. go h (leb (length text) text_limit) refl kept refl (leb (length bytes) text_limit) refl (leb (length bytes) room) refl,
  λ h. print_broken text kept bytes room h.0 h.1,
)
  where
    go :
        printing text kept bytes room ≡ Err (refused reason.BrokenParts 0) → (t : Bool) → leb (length text) text_limit ≡ t → (k : Bool) → kept ≡ k → (u : Bool) → leb (length bytes) text_limit ≡ u
        → (v : Bool) → leb (length bytes) room ≡ v → (length text ≤ text_limit) × (kept ≡ false)
    go h false p k q u r v w = absurd (omega (arith, ap number_in (sym (print_over text kept bytes room (leb-false _ _ p)) ∙ h)))
    go h true p false q u r v w = (leb-true _ _ p, q)
    go h true p true q false r v w = absurd (omega (arith, ap number_in (sym (print_long text kept bytes room (leb-true _ _ p) q (leb-false _ _ r)) ∙ h)))
    go h true p true q true r false w = absurd (omega (arith, ap number_in (sym (print_within text kept bytes room (leb-true _ _ p) q (leb-true _ _ r) ∙ writing_too_short bytes room (leb-false _ _ w)) ∙ h)))
    go h true p true q true r true w = absurd (omega (arith, ap number_in (sym (print_within text kept bytes room (leb-true _ _ p) q (leb-true _ _ r) ∙ writing_fits bytes room (leb-true _ _ w)) ∙ h)))
