-- The theorems on whole texts and on the store, from those on what begins a text.
use Prim.Native.Nat.{ℕ, zero, suc, ◌+◌, ◌*◌, ◌≤◌, ◌<◌}
use mathlib.Core.Bool.{Bool, true, false, So, false≢true}
use mathlib.Core.List.{List, [], ◌∷◌, ◌++◌, append_assoc, append-nil}
use mathlib.Core.Logic.{◌↔◌, inl, inr, ⊎_elim}
use mathlib.Core.Path.{◌≡◌, refl, sym, ap, ap₂, ◌∙◌, subst}
use native.Mathlib.Nat.{zero-add}
use native.Mathlib.Omega.{arith}
use borrow.Author.Tests.{leb-true, leb-false}
use lib.Dec.{leb}
use lib.ListN.{length, take, drop, replicate, length-append, take-append-drop}
use lib.Seq.{sets, length-sets}
use Rattle.std.specs.Prelude.{Ok, Err, is_ok}
use Rattle.refusals.specs.declared.Reason.TheVariants as reason
use Rattle.refusals.specs.declared.Refusal.{Refusal}
use Rattle.refusals.specs.Numbers.{refused}
use Rattle.laws.specs.Bytes.{byte, ascii}
use Rattle.store.proofs.Records.{then_record}
use Rattle.descriptors.specs.declared.FieldDescriptor.{FieldDescriptor}
use Rattle.descriptors.specs.Texts.{whole}
use Rattle.descriptors.proofs.Laws.{clash, same_read, same_place, none_left, whole_read, whole_is}
use Rattle.descriptors.specs.Grammar.{ReturnDescriptor, parts_at}
use Rattle.descriptors.proofs.Grammar.{begins_within, begins_all, some_text}
use Rattle.methods.specs.declared.MethodDescriptor.{MethodDescriptor as MethodParts}
use Rattle.methods.specs.Texts.{Method, parsed, Reading, method_reading, part_words, words, room_of, within, answer_from, store_from, method_prefix, method_text, method_check, filled, store_after}
use Rattle.methods.specs.Grammar.{Parameters, MethodDescriptor, FewInReturn, FewInMethod, number, reading_at, list_at, return_at, parameter_count, parameter_parts, return_parts}
use Rattle.methods.specs.Theorems.{accepted, BeginsReturn, BeginsRest, BeginsMethod, DerivedMethod, MethodTextExactly, all_words, AcceptedStore, RefusedStore, WholeIsPrefix, CheckAgrees, DerivedBeginning, PrefixDerived, FewParameters, AcceptedPrefixStore, RefusedPrefixStore}
use Rattle.methods.proofs.Grammar.{method_exactly, one_derivation}

same_parsed : {a b : ℕ} {f g : FieldDescriptor} {m n : ℕ} → a ≡ b → f ≡ g → m ≡ n → parsed a f m ≡ parsed b g n
same_parsed p q r = λ i. parsed (p i) (q i) (r i)

-- and back
module _ {a b : ℕ} {f g : FieldDescriptor} {m n : ℕ} (h : parsed a f m ≡ parsed b g n) where
  same_count : a ≡ b
  same_count = ap (λ (d : MethodParts). d.parameters) (same_read h)

  same_return : f ≡ g
  same_return = ap (λ (d : MethodParts). d.returned) (same_read h)

-- The answer of a reading: accepted only if the reading is, and of a run of parameters their number.
parsed_accepted : (r : Reading) (k room : ℕ) {count : ℕ} {f : FieldDescriptor} {used : ℕ} → answer_from k (within room r) ≡ parsed count f used → So (accepted r)
unfolding answer_from within
parsed_accepted (Reading.ended g u) k room h = refl
parsed_accepted (Reading.refused x) k room h = clash h
parsed_accepted (Reading.parameter at g r) k zero h = clash h
parsed_accepted (Reading.parameter at g r) k (suc room) h = parsed_accepted r (k + 1) room h

module _ (f : FieldDescriptor) (used : ℕ) where
  run_fits : (k at room : ℕ) {p : List ℕ} (trees : Parameters p) → number trees ≤ room → answer_from k (within room (reading_at at trees (Reading.ended f used))) ≡ parsed (k + number trees) f used
  unfolding answer_from within reading_at number
  run_fits k at room Parameters.none h = ap (λ (n : ℕ). parsed n f used) (omega arith)
  run_fits k at zero (Parameters.more p rest t ts e) h = absurd (omega arith)
  run_fits k at (suc room) (Parameters.more p rest t ts e) h = run_fits (k + 1) (at + length p) room ts (omega arith) ∙ ap (λ (n : ℕ). parsed n f used) (omega arith)

  run_full : (k at room : ℕ) {p : List ℕ} (trees : Parameters p) → room < number trees → (q : ℕ) × (answer_from k (within room (reading_at at trees (Reading.ended f used))) ≡ Err (refused reason.NoPartLeft q))
  unfolding answer_from within reading_at number
  run_full k at room Parameters.none h = absurd (omega arith)
  run_full k at zero (Parameters.more p rest t ts e) h = (at, refl)
  run_full k at (suc room) (Parameters.more p rest t ts e) h = run_full (k + 1) (at + length p) room ts (omega arith)

  run_open : (k at : ℕ) {p : List ℕ} (trees : Parameters p) → answer_from k (reading_at at trees (Reading.ended f used)) ≡ parsed (k + number trees) f used
  unfolding answer_from reading_at number
  run_open k at Parameters.none = ap (λ (n : ℕ). parsed n f used) (omega arith)
  run_open k at (Parameters.more p rest t ts e) = run_open (k + 1) (at + length p) ts ∙ ap (λ (n : ℕ). parsed n f used) (omega arith)

-- An accepted prefix reading, as what begins the text.
record PrefixRead (room : ℕ) (s : List ℕ) (count : ℕ) (f : FieldDescriptor) (used : ℕ) : Type 0 where
  begins : BeginsMethod s (method_reading s)
  counted : count ≡ number begins.begins.trees
  fits : count ≤ room
  parts : f ≡ begins.begins.return
  place : used ≡ begins.begins.used

module _ (room : ℕ) (s : List ℕ) (count : ℕ) (f : FieldDescriptor) (used : ℕ) where
  prefix_read : method_prefix room s ≡ parsed count f used → PrefixRead room s count f used
  prefix_read h = go (leb (number m.trees) room) refl
    where
      b : BeginsMethod s (method_reading s)
      b = (method_exactly s (method_reading s)).0 (refl, parsed_accepted (method_reading s) 0 room h)

      m : BeginsRest 1 b.rest (method_reading s)
      m = b.begins

      is : answer_from 0 (within room (reading_at 1 m.trees (Reading.ended m.return m.used))) ≡ parsed count f used
      is = ap (λ (r : Reading). answer_from 0 (within room r)) (sym m.reading) ∙ h

      go : (t : Bool) → leb (number m.trees) room ≡ t → PrefixRead room s count f used
      go true e =
          let fits = leb-true (number m.trees) room e in
          let same : parsed (0 + number m.trees) m.return m.used ≡ parsed count f used = sym (run_fits m.return m.used 0 1 room m.trees fits) ∙ is in
          let counted = same_count same in
          record { begins = b; counted = omega arith; fits = omega arith; parts = sym (same_return same); place = sym (same_place same) }
      go false e = clash (sym (run_full m.return m.used 0 1 room m.trees (leb-false _ _ e)).1 ∙ is)

  -- and back
  read_prefix : (b : BeginsMethod s (method_reading s)) → count ≡ number b.begins.trees → count ≤ room → f ≡ b.begins.return → used ≡ b.begins.used → method_prefix room s ≡ parsed count f used
  read_prefix b counted fits parts place =
      let m = b.begins in
      ap (λ (r : Reading). answer_from 0 (within room r)) m.reading
      ∙ run_fits m.return m.used 0 1 room m.trees (omega arith)
      ∙ same_parsed (zero-add _ ∙ sym counted) (sym parts) (sym place)

-- The return part: it ends in what is left, and if it ends there, it is all of it.
record DerivedReturn (at : ℕ) (s : List ℕ) (f : FieldDescriptor) : Type 0 where
  tree : ReturnDescriptor s
  few : FewInReturn tree
  parts : f ≡ return_at at tree

module _ (at : ℕ) (s : List ℕ) (f : FieldDescriptor) (used : ℕ) where
  return_bound : BeginsReturn at s f used → used ≤ at + length s
  return_bound = ⊎_elim
      (λ v. rw v.0 (omega (arith, v.2)))
      begins_within

  return_all : BeginsReturn at s f used → used ≡ at + length s → DerivedReturn at s f
  unfolding return_at
  return_all (inl v) all = record { tree = ReturnDescriptor.void v.0; few = tt; parts = v.1 }
  return_all (inr b) all =
      subst (λ (l : List ℕ). DerivedReturn at l f) (sym (begins_all b all))
      (record { tree = ReturnDescriptor.value b.tree; few = rw zero-add at b.few; parts = b.parts })

  derived_return : (tree : ReturnDescriptor s) → FewInReturn tree → f ≡ return_at at tree → used ≡ at + length s → BeginsReturn at s f used
  unfolding return_at
  derived_return (ReturnDescriptor.value t) few parts all = inr (record { text = s; rest = []; tree = t; split = sym (append-nil s); few = rw zero-add few; parts = parts; place = all })
  derived_return (ReturnDescriptor.void e) few parts all = inl (e, parts, all ∙ ap (λ (l : List ℕ). at + length l) e)

-- what begins with a return part: a derived text, and the rest
record ReturnBeginning (at : ℕ) (s : List ℕ) (f : FieldDescriptor) (used : ℕ) : Type 0 where
  text : List ℕ
  rest : List ℕ
  split : s ≡ text ++ rest
  tree : ReturnDescriptor text
  parts : f ≡ return_at at tree
  place : used ≡ at + length text

return_beginning : (at : ℕ) (s : List ℕ) (f : FieldDescriptor) (used : ℕ) → BeginsReturn at s f used → ReturnBeginning at s f used
unfolding return_at
return_beginning at s f used (inl v) = record { text = ascii "V"; rest = []; split = v.0; tree = ReturnDescriptor.void refl; parts = v.1; place = v.2 }
return_beginning at s f used (inr b) = record { text = b.text; rest = b.rest; split = b.split; tree = ReturnDescriptor.value b.tree; parts = b.parts; place = b.place }

beginning_of : (room : ℕ) (s : List ℕ) (count : ℕ) (f : FieldDescriptor) (used : ℕ) → PrefixRead room s count f used → DerivedBeginning s count f used
unfolding parameter_count return_parts
beginning_of room s count f used p =
    let m = p.begins.begins in
    let r = return_beginning _ m.follows m.return m.used m.returns in
    record {
      text = byte "(" ∷ m.parameters ++ byte ")" ∷ r.text;
      rest = r.rest;
      split = p.begins.opens ∙ ap (λ (l : List ℕ). byte "(" ∷ l) (m.split ∙ ap (λ (l : List ℕ). m.parameters ++ byte ")" ∷ l) r.split ∙ sym (append_assoc m.parameters (byte ")" ∷ r.text) r.rest));
      tree = MethodDescriptor.method m.parameters r.text m.trees r.tree refl;
      counted = p.counted;
      parts = p.parts ∙ r.parts;
      place = p.place ∙ r.place ∙ rw (length-append (byte "(" ∷ m.parameters) (byte ")" ∷ r.text)) (omega arith);
    }

pub prefix_derived : PrefixDerived
prefix_derived room s count f used h = beginning_of room s count f used (prefix_read room s count f used h)

abbrev tree_of : {s : List ℕ} {r : Reading} (b : BeginsMethod s r) → ReturnDescriptor b.begins.follows → MethodDescriptor s
tree_of b t =
    MethodDescriptor.method b.begins.parameters b.begins.follows b.begins.trees t (b.opens ∙ ap (λ (l : List ℕ). byte "(" ∷ l) b.begins.split)

-- The text has a ( before its parameters, a ) after them, and then the return part.
text_length : {s : List ℕ} {r : Reading} (b : BeginsMethod s r) → length s ≡ 1 + length b.begins.parameters + 1 + length b.begins.follows
text_length b =
    let m = b.begins in
    let rest : length b.rest ≡ length m.parameters + suc (length m.follows) = ap length m.split ∙ length-append m.parameters (byte ")" ∷ m.follows) in
    ap length b.opens ∙ omega arith

-- Each parameter has a byte at least.
number_within : {p : List ℕ} (trees : Parameters p) → number trees ≤ length p
unfolding number
number_within Parameters.none = omega arith
number_within (Parameters.more p rest t ts e) = omega (arith, some_text t, number_within ts, ap length e ∙ length-append p rest)

pub few_parameters : FewParameters
few_parameters room s count f used h =
    let p = prefix_read room s count f used h in
    omega (arith, p.counted, number_within p.begins.begins.trees, text_length p.begins, p.begins.short)

module _ (room : ℕ) (s : List ℕ) (count : ℕ) (f : FieldDescriptor) (used : ℕ) where
  used_within : method_prefix room s ≡ parsed count f used → used ≤ length s
  used_within h =
      let p = prefix_read room s count f used h in
      let m = p.begins.begins in
      omega (arith, p.place, return_bound _ m.follows m.return m.used m.returns, text_length p.begins)

  whole_prefix : (method_text room s ≡ parsed count f used) ↔ ((method_prefix room s ≡ parsed count f used) × (used ≡ length s))
  whole_prefix = whole_is (length s) _ used used_within

  -- an accepted text: what begins it, and the return part that ends it
  text_read : method_text room s ≡ parsed count f used → (p : PrefixRead room s count f used) × (used ≡ length s) × DerivedReturn (1 + length p.begins.begins.parameters + 1) p.begins.begins.follows p.begins.begins.return
  text_read h =
      let w = whole_prefix.0 h in
      let p = prefix_read room s count f used w.0 in
      let m = p.begins.begins in
      (p, w.1, return_all _ m.follows m.return m.used m.returns (sym p.place ∙ w.1 ∙ text_length p.begins))

  text_derived : method_text room s ≡ parsed count f used → DerivedMethod room s count f used
  unfolding parameter_count return_parts
  text_derived h =
      let t = text_read h in
      let p = t.0 in
      record {
        short = p.begins.short;
        tree = tree_of p.begins t.2.tree;
        few = (p.begins.begins.few, t.2.few);
        counted = p.counted;
        fits = p.fits;
        parts = p.parts ∙ t.2.parts;
        all = t.1;
      }

  derived_text : DerivedMethod room s count f used → method_text room s ≡ parsed count f used
  unfolding parameter_count return_parts
  derived_text d = go d.tree d.few d.counted d.parts
    where
      go : (tree : MethodDescriptor s) → FewInMethod tree → count ≡ parameter_count tree → f ≡ return_parts tree → method_text room s ≡ parsed count f used
      go (MethodDescriptor.method p r ps t e) few counted parts =
          let long : length s ≡ 1 + length p + 1 + length r = ap length e ∙ ap suc (length-append p (byte ")" ∷ r)) ∙ omega arith in
          let read = (method_exactly s (reading_at 1 ps (Reading.ended f used))).1 (
          record {
            short = d.short;
            rest = p ++ byte ")" ∷ r;
            opens = e;
            begins = record {
              parameters = p;
              follows = r;
              trees = ps;
              few = few.0;
              split = refl;
              return = f;
              used = used;
              returns = derived_return (1 + length p + 1) r f used t few.1 parts (d.all ∙ long);
              reading = refl;
            };
          }) in
          whole_prefix.1 (
            ap (λ (x : Reading). answer_from 0 (within room x)) read.0 ∙ run_fits f used 0 1 room ps (omega (arith, d.fits)) ∙ ap (λ (n : ℕ). parsed n f used) (omega arith),
            d.all,
          )

pub whole_is_prefix : WholeIsPrefix
whole_is_prefix = whole_prefix

pub method_text_exactly : MethodTextExactly
method_text_exactly room s count f used = (text_derived room s count f used, derived_text room s count f used)

-- With no store, the same answer wherever there is room.
pub check_is_text : (room : ℕ) (s : List ℕ) (count : ℕ) (f : FieldDescriptor) (used : ℕ) → method_text room s ≡ parsed count f used → method_check s ≡ parsed count f used
check_is_text room s count f used h =
    let w = (whole_prefix room s count f used).0 h in
    let p = prefix_read room s count f used w.0 in
    let m = p.begins.begins in
    let same : answer_from 0 (method_reading s) ≡ parsed count f used = ap (answer_from 0) m.reading ∙ run_open m.return m.used 0 1 m.trees ∙ same_parsed (zero-add _ ∙ sym p.counted) (sym p.parts) (sym p.place) in
    ap (whole (length s)) same ∙ none_left (length s) _ used (omega (arith, w.1))

accepted_answer : (r : Reading) (k : ℕ) {count : ℕ} {f : FieldDescriptor} {used : ℕ} → answer_from k r ≡ parsed count f used → So (accepted r)
unfolding answer_from
accepted_answer (Reading.ended g u) k h = refl
accepted_answer (Reading.refused x) k h = clash h
accepted_answer (Reading.parameter at g r) k h = accepted_answer r (k + 1) h

pub text_is_check : (s : List ℕ) (count : ℕ) (f : FieldDescriptor) (used : ℕ) → method_check s ≡ parsed count f used → method_text count s ≡ parsed count f used
text_is_check s count f used h =
    let w = whole_read (length s) (answer_from 0 (method_reading s)) _ used h in
    let b = (method_exactly s (method_reading s)).0 (refl, accepted_answer (method_reading s) 0 w.0) in
    let m = b.begins in
    let same : parsed (0 + number m.trees) m.return m.used ≡ parsed count f used = sym (run_open m.return m.used 0 1 m.trees) ∙ ap (answer_from 0) (sym m.reading) ∙ w.0 in
    let counted = same_count same in
    ap (whole (length s)) (read_prefix count s count f used b (omega arith) (omega arith) (sym (same_return same)) (sym (same_place same))) ∙ none_left (length s) _ used w.1

pub check_agrees : CheckAgrees
check_agrees s = (λ h. to (method_check s) refl h, λ h. ap is_ok (check_is_text h.0 s h.1 h.2 h.3 h.4))
  where
    to : (r : Method) → method_check s ≡ r → So (is_ok r) → (room : ℕ) × (count : ℕ) × (f : FieldDescriptor) × (used : ℕ) × (method_text room s ≡ parsed count f used)
    to (Ok r) e h = (r.0.parameters, r.0.parameters, r.0.returned, r.1, text_is_check s r.0.parameters r.0.returned r.1 e)
    to (Err r) e h = absurd (false≢true h)

-- The store.
length_filled : (r : Reading) (store : List ℕ) (k : ℕ) → length (store_from store k r) ≡ length store
unfolding store_from
length_filled (Reading.parameter at f r) store k = length_filled r (sets store (k * part_words) (words f)) (k + 1) ∙ length-sets store (k * part_words) (words f)
length_filled (Reading.ended f used) store k = refl
length_filled (Reading.refused x) store k = refl

store_cleared : (store s : List ℕ) {answer : Method} {r : Refusal ℕ} → answer ≡ Err r → store_after answer (filled store s) ≡ replicate (length store) 0
unfolding store_after
store_cleared store s h = ap (λ (a : Method). store_after a (filled store s)) h ∙ ap (λ (i : ℕ). replicate i 0) (length_filled (within (room_of store) (method_reading s)) store 0)

pub refused_store : RefusedStore
refused_store store s r h = store_cleared store s h

pub refused_prefix_store : RefusedPrefixStore
refused_prefix_store store s r h = store_cleared store s h

-- the records of parameters, written from the record k on
store_run :
    (f : FieldDescriptor) (used k at room : ℕ) {p : List ℕ} (trees : Parameters p) (store : List ℕ) → number trees ≤ room → (k + number trees) * part_words ≤ length store
    → store_from store k (within room (reading_at at trees (Reading.ended f used))) ≡ take (k * part_words) store ++ (all_words (list_at at trees) ++ drop ((k + number trees) * part_words) store)
unfolding store_from within reading_at number list_at all_words
store_run f used k at room Parameters.none store h fits =
    let here : (k + 0) * part_words ≡ k * part_words = omega arith in
    rw here (sym (take-append-drop (k * part_words) store))
store_run f used k at zero (Parameters.more p rest t ts e) store h fits = absurd (omega arith)
store_run f used k at (suc room) (Parameters.more p rest t ts e) store h fits =
    store_run f used (k + 1) (at + length p) room ts put (omega arith) (rw (length-sets store (k * part_words) (words part)) (omega arith))
    ∙ ap₂ (λ (i n : ℕ). take i put ++ (all_words (list_at (at + length p) ts) ++ drop n put)) four same
    ∙ then_record store (k * part_words) (words part) (omega arith) (all_words (list_at (at + length p) ts)) ((k + suc (number ts)) * part_words) (omega arith)
  where
    four : (k + 1) * part_words ≡ k * part_words + 4
    four = omega arith

    same : (k + 1 + number ts) * part_words ≡ (k + suc (number ts)) * part_words
    same = omega arith

    part : FieldDescriptor
    part = parts_at 0 at t

    put : List ℕ
    put = sets store (k * part_words) (words part)

-- accepted, the store has the parameters' records in front, and the rest of it after them
store_kept :
    (store s : List ℕ) {answer : Method} {count : ℕ} {f : FieldDescriptor} {used : ℕ} → answer ≡ parsed count f used → (p : PrefixRead (room_of store) s count f used)
    → store_after answer (filled store s) ≡ all_words (list_at 1 p.begins.begins.trees) ++ drop (count * part_words) store
unfolding store_after
store_kept store s {count = count} h p =
    let m = p.begins.begins in
    let run = store_run m.return m.used 0 1 (room_of store) m.trees store (omega (arith, p.counted, p.fits)) (omega (arith, p.counted, p.fits)) in
    let counted : 0 + number m.trees ≡ count = zero-add _ ∙ sym p.counted in
    ap (λ (a : Method). store_after a (filled store s)) h
    ∙ ap (λ (x : Reading). store_from store 0 (within (room_of store) x)) m.reading
    ∙ run
    ∙ ap (λ (n : ℕ). all_words (list_at 1 m.trees) ++ drop (n * part_words) store) counted

pub accepted_store : AcceptedStore
unfolding parameter_parts
accepted_store store s count f used h tree =
    let t = text_read (room_of store) s count f used h in
    let same : list_at 1 t.0.begins.begins.trees ≡ parameter_parts tree = ap parameter_parts (one_derivation s (tree_of t.0.begins t.2.tree) tree) in
    store_kept store s h t.0 ∙ ap (λ (l : List FieldDescriptor). all_words l ++ drop (count * part_words) store) same

pub accepted_prefix_store : AcceptedPrefixStore
unfolding parameter_parts beginning_of list_at
accepted_prefix_store store s count f used h =
    let p = prefix_read (room_of store) s count f used h in
    (beginning_of (room_of store) s count f used p, store_kept store s h p)
