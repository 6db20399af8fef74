-- Reading and printing a method's parts undo each other: the parts of a derivation print its text, and parts that keep
-- the rules have a derivation of the bytes that they print.
use Prim.Native.Nat.{ℕ, zero, suc, ◌+◌, ◌*◌, ◌≤◌}
use mathlib.Core.Bool.{So, ◌&&◌, and-eq-true_iff}
use mathlib.Core.List.{List, [], ◌∷◌, ◌++◌, append_assoc, append-nil}
use mathlib.Core.Logic.{◌↔◌, inl, inr}
use mathlib.Core.Path.{◌≡◌, refl, sym, ap, ap₂, ◌∙◌, subst}
use native.Mathlib.Nat.{zero-add}
use native.Mathlib.Omega.{arith}
use borrow.Author.Tests.{leb-true, le-leb}
use lib.Dec.{leb}
use lib.ListN.{length, drop, length-append}
use lib.Seq.{drop_at, drop-drop}
use Rattle.laws.specs.Bytes.{byte, ascii, every, text_limit}
use Rattle.descriptors.specs.declared.FieldDescriptor.{FieldDescriptor}
use Rattle.descriptors.specs.Texts.{void}
use Rattle.descriptors.specs.Grammar.{ReturnDescriptor, parts_at}
use Rattle.methods.specs.Texts.{part_words, room_of, parsed, method_text, text_store}
use Rattle.methods.specs.Grammar.{Parameters, MethodDescriptor, FewDimensions, FewInReturn, FewInMethod, number, list_at, return_at, parameter_count, parameter_parts, return_parts}
use Rattle.methods.specs.Theorems.{all_words}
use Rattle.methods.proofs.Entries.{method_text_exactly, accepted_store}
use Rattle.printing.specs.Printing.{part_bytes, is_field_part, is_return_part}
use Rattle.printing.specs.Theorems.{Agree}
use Rattle.printing.proofs.Laws.{ReturnPart, field_part, return_part}
use Rattle.printing.proofs.Roundtrip.{derived_keeps, void_bytes, prints, field_tree, printed, void_agrees, agree_bytes, agree_field, agree_return}
use Rattle.method_printing.specs.Printing.{all_bytes, method_bytes, parts_in, are_method_parts}
use Rattle.method_printing.specs.Theorems.{AllAgree, MethodPrintsBack, ReadsAlike, MethodReadsBack, MethodKeptExactly}

-- What follows, in a text from a place on.
drop_past : (text : List ℕ) (at : ℕ) (p rest : List ℕ) → drop at text ≡ p ++ rest → drop (at + length p) text ≡ rest
drop_past text at p rest e = sym (drop-drop (length p) at text) ∙ ap (drop (length p)) e ∙ drop_at p rest (length p) refl

-- (a) The parts of a derivation keep the rules, and print its text.
list_keeps :
    (text : List ℕ) (at : ℕ) {s : List ℕ} (ts : Parameters s) (post : List ℕ) → drop at text ≡ s ++ post → FewDimensions ts
    → So (every (is_field_part text) (list_at at ts)) × (all_bytes text (list_at at ts) ≡ s)
unfolding list_at every all_bytes
list_keeps text at Parameters.none post e few = (refl, refl)
list_keeps text at (Parameters.more p rest t ts q) post e few =
    let there : drop at text ≡ p ++ (rest ++ post) = e ∙ ap (λ (l : List ℕ). l ++ post) q ∙ append_assoc p rest post in
    let first = derived_keeps text 0 at t (rest ++ post) there (rw zero-add few.0) in
    let more = list_keeps text (at + length p) ts post (drop_past text at p (rest ++ post) there) few.1 in (
      (and-eq-true_iff (is_field_part text (parts_at 0 at t)) (every (is_field_part text) (list_at (at + length p) ts))).1 ((field_part text (parts_at 0 at t)).1 first.0, more.0),
      ap₂ ◌++◌ first.1 more.1 ∙ sym q,
    )

return_keeps :
    (text : List ℕ) (at : ℕ) {s : List ℕ} (t : ReturnDescriptor s) → drop at text ≡ s → FewInReturn t
    → ReturnPart text (return_at at t) × (part_bytes text (return_at at t) ≡ s)
unfolding return_at
return_keeps text at {s} (ReturnDescriptor.value t) e few =
    let k = derived_keeps text 0 at t [] (e ∙ sym (append-nil s)) (rw zero-add few) in
    (inr k.0, k.1)
return_keeps text at (ReturnDescriptor.void q) e few = (inl refl, void_bytes text ∙ sym q)

-- the records of parts are those parts again
parts_in_words : (fs : List FieldDescriptor) (rest : List ℕ) → parts_in (length fs) (all_words fs ++ rest) ≡ fs
unfolding parts_in all_words
parts_in_words [] rest = refl
parts_in_words (f ∷ fs) rest = ap (λ (gs : List FieldDescriptor). f ∷ gs) (parts_in_words fs rest)

number_length : (at : ℕ) {s : List ℕ} (ts : Parameters s) → length (list_at at ts) ≡ number ts
unfolding list_at number
number_length at Parameters.none = refl
number_length at (Parameters.more p rest t ts e) = ap suc (number_length (at + length p) ts)

-- a derivation's parts keep the rules, and print its text
record KeptMethod (s : List ℕ) (tree : MethodDescriptor s) : Type 0 where
  parameters : So (every (is_field_part s) (parameter_parts tree))
  return : ReturnPart s (return_parts tree)
  bytes : method_bytes s (parameter_parts tree) (return_parts tree) ≡ s
  counted : length (parameter_parts tree) ≡ parameter_count tree

kept_method : (s : List ℕ) (tree : MethodDescriptor s) → FewInMethod tree → KeptMethod s tree
unfolding parameter_parts return_parts parameter_count
kept_method s (MethodDescriptor.method p r ps t e) few =
    let opens : drop 1 s ≡ p ++ byte ")" ∷ r = ap (drop 1) e in
    let closes : drop (1 + length p + 1) s ≡ r = drop_past s (1 + length p) (byte ")" ∷ []) r (drop_past s 1 p (byte ")" ∷ r) opens) in
    let list = list_keeps s 1 ps (byte ")" ∷ r) opens few.0 in
    let last = return_keeps s (1 + length p + 1) t closes few.1 in
    record {
      parameters = list.0;
      return = last.0;
      bytes = ap₂ (λ (l m : List ℕ). byte "(" ∷ l ++ byte ")" ∷ m) list.1 last.1 ∙ sym e;
      counted = number_length 1 ps;
    }

words_length : (fs : List FieldDescriptor) → length (all_words fs) ≡ length fs * part_words
unfolding all_words
words_length [] = refl
words_length (f ∷ fs) = omega (arith, words_length fs)

-- The store after a reading: the records of the derivation's parameters.
module _ (store s : List ℕ) (count : ℕ) (r : FieldDescriptor) (used : ℕ) (h : method_text (room_of store) s ≡ parsed count r used) (tree : MethodDescriptor s) (counted : count ≡ length (parameter_parts tree)) where
  parts_stored : parts_in count (text_store store s) ≡ parameter_parts tree
  parts_stored =
      ap₂ parts_in counted (accepted_store store s count r used h tree) ∙ parts_in_words (parameter_parts tree) (drop (count * part_words) store)

  records_there : count ≤ room_of (text_store store s)
  records_there =
      let long : length (text_store store s) ≡ length (parameter_parts tree) * part_words + length (drop (count * part_words) store) =
      ap length (accepted_store store s count r used h tree) ∙ length-append (all_words (parameter_parts tree)) (drop (count * part_words) store) ∙ ap (λ (n : ℕ). n + length (drop (count * part_words) store)) (words_length (parameter_parts tree)) in
      omega (arith, long, counted)

-- the rules of a method's parts, one by one
module _ (text store : List ℕ) (count : ℕ) (r : FieldDescriptor) where
  method_parts : So (are_method_parts text store count r) ↔ ((count ≤ room_of store) × ReturnPart text r × So (every (is_field_part text) (parts_in count store)))
  method_parts = (
    λ h.
        let both = (and-eq-true_iff (leb count (room_of store)) (is_return_part text r && every (is_field_part text) (parts_in count store))).0 h in
        let parts = (and-eq-true_iff (is_return_part text r) (every (is_field_part text) (parts_in count store))).0 both.1 in
        (leb-true _ _ both.0, (return_part text r).0 parts.0, parts.1),
    λ h.
        (and-eq-true_iff (leb count (room_of store)) (is_return_part text r && every (is_field_part text) (parts_in count store))).1
        (le-leb _ _ h.0, (and-eq-true_iff (is_return_part text r) (every (is_field_part text) (parts_in count store))).1 ((return_part text r).1 h.1, h.2)),
  )

pub method_prints_back : MethodPrintsBack
method_prints_back store s out count r used h room =
    let d = (method_text_exactly (room_of store) s count r used).0 h in
    let k = kept_method s d.tree d.few in
    let counted = d.counted ∙ sym k.counted in
    let parts = parts_stored store s count r used h d.tree counted in
    let kept = (method_parts s (text_store store s) count r).1 (
      records_there store s count r used h d.tree counted,
      subst (ReturnPart s) (sym d.parts) k.return,
      ap (every (is_field_part s)) parts ∙ k.parameters,
    ) in
    prints s (are_method_parts s (text_store store s) count r) (method_bytes s (parts_in count (text_store store s)) r) out kept (ap₂ (method_bytes s) parts d.parts ∙ k.bytes) d.short room

-- (b) Parts that keep the rules have a derivation of their bytes, whose parts agree with them.
record ListTree (text : List ℕ) (fs : List FieldDescriptor) : Type 0 where
  bytes : List ℕ
  same : all_bytes text fs ≡ bytes
  trees : Parameters bytes
  few : FewDimensions trees
  counted : number trees ≡ length fs
  agrees : (other : List ℕ) (at : ℕ) (post : List ℕ) → drop at other ≡ bytes ++ post → AllAgree text other fs (list_at at trees)

list_tree : (text : List ℕ) (fs : List FieldDescriptor) → So (every (is_field_part text) fs) → ListTree text fs
unfolding every all_bytes number list_at
list_tree text [] k = record { bytes = []; same = refl; trees = Parameters.none; few = tt; counted = refl; agrees = λ other at post e. AllAgree.none }
list_tree text (f ∷ fs) k =
    let both = (and-eq-true_iff (is_field_part text f) (every (is_field_part text) fs)).0 k in
    let first = field_tree text f ((field_part text f).0 both.0) in
    let rest = list_tree text fs both.1 in
    record {
      bytes = first.bytes ++ rest.bytes;
      same = ap₂ ◌++◌ first.same rest.same;
      trees = Parameters.more first.bytes rest.bytes first.tree rest.trees refl;
      few = (first.few, rest.few);
      counted = ap suc rest.counted;
      agrees = λ other at post e.
          let there = e ∙ append_assoc first.bytes rest.bytes post in
          AllAgree.more (first.agrees other at (rest.bytes ++ post) there) (rest.agrees other (at + length first.bytes) post (drop_past other at first.bytes (rest.bytes ++ post) there));
    }

record ReturnTree (text : List ℕ) (f : FieldDescriptor) : Type 0 where
  bytes : List ℕ
  same : part_bytes text f ≡ bytes
  tree : ReturnDescriptor bytes
  few : FewInReturn tree
  agrees : (other : List ℕ) (at : ℕ) → drop at other ≡ bytes → Agree text f other (return_at at tree)

return_tree : (text : List ℕ) (f : FieldDescriptor) → ReturnPart text f → ReturnTree text f
unfolding return_at
return_tree text f (inl v) =
    record {
      bytes = ascii "V";
      same = ap (part_bytes text) v ∙ void_bytes text;
      tree = ReturnDescriptor.void refl;
      few = tt;
      agrees = λ other at e. subst (λ (g : FieldDescriptor). Agree text g other void) (sym v) (void_agrees text other);
    }
return_tree text f (inr p) =
    let t = field_tree text f p in
    record { bytes = t.bytes; same = t.same; tree = ReturnDescriptor.value t.tree; few = t.few; agrees = λ other at e. t.agrees other at [] (e ∙ sym (append-nil t.bytes)) }

parts_count : (count : ℕ) (store : List ℕ) → length (parts_in count store) ≡ count
unfolding parts_in
parts_count zero store = refl
parts_count (suc count) store = ap suc (parts_count count (drop part_words store))

module _ (text : List ℕ) (fs : List FieldDescriptor) (r : FieldDescriptor) (list : ListTree text fs) (last : ReturnTree text r) where
  printed_text : List ℕ
  printed_text = byte "(" ∷ list.bytes ++ byte ")" ∷ last.bytes

  printed_tree : MethodDescriptor printed_text
  unfolding printed_text
  printed_tree = MethodDescriptor.method list.bytes last.bytes list.trees last.tree refl

  printed_same : method_bytes text fs r ≡ printed_text
  unfolding printed_text
  printed_same = ap₂ (λ (l m : List ℕ). byte "(" ∷ l ++ byte ")" ∷ m) list.same last.same

  reads_printed : (count : ℕ) → count ≡ length fs → length printed_text ≤ text_limit → (other : List ℕ) → count ≤ room_of other → ReadsAlike text fs count r other printed_text
  unfolding printed_text printed_tree parameter_count parameter_parts return_parts
  reads_printed count counted short other room =
      let read = (method_text_exactly (room_of other) printed_text count (return_parts printed_tree) (length printed_text)).1 (
      record { short = short; tree = printed_tree; few = (list.few, last.few); counted = counted ∙ sym list.counted; fits = room; parts = refl; all = refl }) in
      let parts = parts_stored other printed_text count (return_parts printed_tree) (length printed_text) read printed_tree (counted ∙ sym list.counted ∙ sym (number_length 1 list.trees)) in
      let closes : drop (1 + length list.bytes + 1) printed_text ≡ last.bytes =
      drop_past printed_text (1 + length list.bytes) (byte ")" ∷ []) last.bytes (drop_past printed_text 1 list.bytes (byte ")" ∷ last.bytes) refl) in
      record {
        return = return_parts printed_tree;
        reads = read;
        returns = last.agrees printed_text (1 + length list.bytes + 1) closes;
        alike = subst (AllAgree text printed_text fs) (sym parts) (list.agrees printed_text 1 (byte ")" ∷ last.bytes) refl);
      }

reads_alike :
    (text : List ℕ) (fs : List FieldDescriptor) (r : FieldDescriptor) → So (every (is_field_part text) fs) → ReturnPart text r → (count : ℕ) → count ≡ length fs
    → length (method_bytes text fs r) ≤ text_limit → (other : List ℕ) → count ≤ room_of other → ReadsAlike text fs count r other (method_bytes text fs r)
reads_alike text fs r k p count counted short other room =
    let list = list_tree text fs k in
    let last = return_tree text r p in
    let same = printed_same text fs r list last in
    subst (ReadsAlike text fs count r other) (sym same) (reads_printed text fs r list last count counted (subst (λ (l : List ℕ). length l ≤ text_limit) same short) other room)

pub method_reads_back : MethodReadsBack
method_reads_back text store out count r n h other room =
    let p = printed text (are_method_parts text store count r) (method_bytes text (parts_in count store) r) out n h in
    let k = (method_parts text store count r).0 p.keeps in
    subst (ReadsAlike text (parts_in count store) count r other) (sym p.front)
    (reads_alike text (parts_in count store) r k.2 k.1 count (sym (parts_count count store)) p.short other room)

-- Parts that agree have the same bytes, and keep the rules together.
all_bytes_lem : (text other : List ℕ) {fs gs : List FieldDescriptor} → AllAgree text other fs gs → all_bytes text fs ≡ all_bytes other gs
unfolding all_bytes
all_bytes_lem text other AllAgree.none = refl
all_bytes_lem text other (AllAgree.more {f} {g} a rest) = ap₂ ◌++◌ (agree_bytes text f other g a) (all_bytes_lem text other rest)

all_keep : (text other : List ℕ) {fs gs : List FieldDescriptor} → AllAgree text other fs gs → So (every (is_field_part other) gs) → So (every (is_field_part text) fs)
unfolding every
all_keep text other AllAgree.none k = refl
all_keep text other (AllAgree.more {f} {g} {fs} {gs} a rest) k =
    let both = (and-eq-true_iff (is_field_part other g) (every (is_field_part other) gs)).0 k in
    (and-eq-true_iff (is_field_part text f) (every (is_field_part text) fs)).1
    ((field_part text f).1 (agree_field text f other g a ((field_part other g).0 both.0)), all_keep text other rest both.1)

pub method_kept_exactly : MethodKeptExactly
method_kept_exactly text store count r = (
  λ h.
      let k = (method_parts text store count r).0 h.0 in
      (k.0, (store, method_bytes text (parts_in count store) r, reads_alike text (parts_in count store) r k.2 k.1 count (sym (parts_count count store)) h.1 store k.0)),
  λ h. from h.0 h.1.0 h.1.1 h.1.2,
)
  where
    from : count ≤ room_of store → (other s : List ℕ) → ReadsAlike text (parts_in count store) count r other s → So (are_method_parts text store count r) × (length (method_bytes text (parts_in count store) r) ≤ text_limit)
    from there other s a =
        let d = (method_text_exactly (room_of other) s count a.return (length s)).0 a.reads in
        let k = kept_method s d.tree d.few in
        let parts = parts_stored other s count a.return (length s) a.reads d.tree (d.counted ∙ sym k.counted) in
        let alike = subst (AllAgree text s (parts_in count store)) parts a.alike in
        let bytes : method_bytes text (parts_in count store) r ≡ s =
        ap₂ (λ (l m : List ℕ). byte "(" ∷ l ++ byte ")" ∷ m) (all_bytes_lem text s alike) (agree_bytes text r s a.return a.returns) ∙ ap (method_bytes s (parameter_parts d.tree)) d.parts ∙ k.bytes in
        ((method_parts text store count r).1 (there, agree_return text r s a.return a.returns (subst (ReturnPart s) (sym d.parts) k.return), all_keep text s alike k.parameters), subst (λ (l : List ℕ). length l ≤ text_limit) (sym bytes) d.short)
