-- The clauses of the readings by their tests, and the loop over the parameters.
use Prim.Native.Nat.{ℕ, suc, ◌+◌, ◌-◌, ◌*◌, ◌≤◌, ◌<◌}
use mathlib.Core.Bool.{Bool, true, false, false≢true}
use mathlib.Core.List.{List, [], ◌∷◌}
use mathlib.Core.Path.{◌≡◌, refl, sym, ap, ◌∙◌}
use native.Mathlib.Nat.{sub-zero}
use native.Mathlib.Omega.{arith}
use borrow.Author.Tests.{ltb-true, ltb-false, le-leb, lt-leb, leb-true, leb-false}
use lib.Dec.{leb}
use lib.ListN.{length, drop, replicate}
use lib.Seq.{sets, drop-drop}
use Rattle.std.specs.Prelude.{Option, Some, None, Result, Ok, Err, is_err}
use Rattle.refusals.specs.declared.Reason.TheVariants as reason
use Rattle.refusals.specs.declared.Refusal.{Refusal}
use Rattle.refusals.specs.Numbers.{refused}
use Rattle.laws.specs.Bytes.{byte, begins_with, text_limit}
use Rattle.laws.proofs.Lists.{begins_in, begins_cons}
use Rattle.descriptors.specs.declared.FieldDescriptor.{FieldDescriptor}
use Rattle.descriptors.specs.Texts.{Field, field_from, return_from}
use Rattle.descriptors.proofs.Laws.{clash}
use Rattle.descriptors.proofs.Grammar.{field_ends_in}
use Rattle.methods.specs.declared.Next.{Next}
use Rattle.methods.specs.declared.Next.TheVariants as next
use Rattle.methods.specs.Texts.{Method, parsed, parameter_of, return_of, next_from, Reading, rest_from, rest_reading, opening, method_reading, part_words, words, within, within_room, has_room, answer_from, store_from, store_after}

module _ (at : ℕ) (s : List ℕ) where
  pub next_return : begins_with (byte ")") s ≡ true → next_from at s ≡ return_of (return_from (at + 1) (drop 1 s))
  unfolding next_from
  next_return e = rw (e, next_from)

  pub next_parameter : begins_with (byte ")") s ≡ false → next_from at s ≡ parameter_of (field_from 0 at s)
  unfolding next_from
  next_parameter e = rw (e, next_from)

  module _ (most : ℕ) where
    pub rest_parameter : (f : FieldDescriptor) (after : ℕ) → next_from at s ≡ Ok (next.Parameter f after) → rest_from (suc most) at s ≡ Reading.parameter at f (rest_from most after (drop (after - at) s))
    unfolding rest_from
    rest_parameter f after e = rw (e, rest_from)

    pub rest_return : (f : FieldDescriptor) (used : ℕ) → next_from at s ≡ Ok (next.Return f used) → rest_from (suc most) at s ≡ Reading.ended f used
    unfolding rest_from
    rest_return f used e = rw (e, rest_from)

    pub rest_refused : (r : Refusal ℕ) → next_from at s ≡ Err r → rest_from (suc most) at s ≡ Reading.refused r
    unfolding rest_from
    rest_refused r e = rw (e, rest_from)

pub rest_none : (at : ℕ) (s : List ℕ) → rest_from 0 at s ≡ Reading.refused (refused reason.TypeDue at)
unfolding rest_from
rest_none at s = refl

-- The next part, by what was read at the place.
module _ (t : List ℕ) (at : ℕ) where
  module _ (e : begins_with (byte ")") (drop at t) ≡ true) where
    return_there : {r : Field} → r ≡ return_from (at + 1) (drop (at + 1) t) → return_of r ≡ next_from at (drop at t)
    return_there q = ap return_of (q ∙ ap (return_from (at + 1)) (sym (drop-drop 1 at t))) ∙ sym (next_return at (drop at t) e)

    pub return_read : {f : FieldDescriptor} {used : ℕ} → Ok (f, used) ≡ return_from (at + 1) (drop (at + 1) t) → Ok (next.Return f used) ≡ next_from at (drop at t)
    return_read q = return_there q

    pub return_refused : {r : Refusal ℕ} → Err r ≡ return_from (at + 1) (drop (at + 1) t) → {a : Result Next (Refusal ℕ)} → a ≡ Err r → a ≡ next_from at (drop at t)
    return_refused q e = e ∙ return_there q

  module _ (e : begins_with (byte ")") (drop at t) ≡ false) where
    parameter_there : {r : Field} → r ≡ field_from 0 at (drop at t) → parameter_of r ≡ next_from at (drop at t)
    parameter_there q = ap parameter_of q ∙ sym (next_parameter at (drop at t) e)

    pub parameter_read : {f : FieldDescriptor} {after : ℕ} → Ok (f, after) ≡ field_from 0 at (drop at t) → Ok (next.Parameter f after) ≡ next_from at (drop at t)
    parameter_read q = parameter_there q

    pub parameter_refused : {r : Refusal ℕ} → Err r ≡ field_from 0 at (drop at t) → {a : Result Next (Refusal ℕ)} → a ≡ Err r → a ≡ next_from at (drop at t)
    parameter_refused q e = e ∙ parameter_there q

module _ (s : List ℕ) where
  pub opening_over : text_limit < length s → opening s ≡ Err (refused reason.OverTheLimit 0)
  unfolding opening
  opening_over h = rw (lt-leb _ _ h, opening)

  module _ (short : length s ≤ text_limit) where
    pub opening_good : begins_with (byte "(") s ≡ true → opening s ≡ Ok tt
    unfolding opening
    opening_good e = rw (le-leb _ _ short, e, opening)

    pub opening_bad : begins_with (byte "(") s ≡ false → opening s ≡ Err (refused reason.NoParenthesis 0)
    unfolding opening
    opening_bad e = rw (le-leb _ _ short, e, opening)

-- the opening, by what was found of the bytes t of the text s
module _ {t s : List ℕ} (same : t ≡ s) (short : length t ≤ text_limit) where
  pub opens : begins_with (byte "(") t ≡ true → opening s ≡ Ok tt
  opens e = ap opening (sym same) ∙ opening_good t short e

  pub opens_not : begins_with (byte "(") t ≡ false → {r : Refusal ℕ} → r ≡ refused reason.NoParenthesis 0 → opening s ≡ Err r
  opens_not e q = ap opening (sym same) ∙ opening_bad t short e ∙ ap Err (sym q)

-- the store beside an answer
pub settled_read : (answer : Method) (store : List ℕ) → is_err answer ≡ false → store ≡ store_after answer store
unfolding store_after
settled_read (Ok m) store e = refl
settled_read (Err r) store e = absurd (false≢true (sym e))

pub settled_refused : (answer : Method) (store : List ℕ) {cleared : List ℕ} → is_err answer ≡ true → cleared ≡ replicate (length store) 0 → cleared ≡ store_after answer store
unfolding store_after
settled_refused (Ok m) store e c = absurd (false≢true e)
settled_refused (Err r) store e c = c

-- What the next part says of the text.
module _ {f : FieldDescriptor} {after : ℕ} where
  was_parameter : (r : Field) → parameter_of r ≡ Ok (next.Parameter f after) → r ≡ Ok (f, after)
  was_parameter (Ok g) e =
      let part : g.0 ≡ f = cc in
      let place : g.1 ≡ after = cc in
      λ i. Ok (part i, place i)
  was_parameter (Err r) e = clash e

  was_return : (r : Field) → return_of r ≡ Ok (next.Return f after) → r ≡ Ok (f, after)
  was_return (Ok g) e =
      let part : g.0 ≡ f = cc in
      let place : g.1 ≡ after = cc in
      λ i. Ok (part i, place i)
  was_return (Err r) e = clash e

  no_parameter : (r : Field) → return_of r ≡ Ok (next.Parameter f after) → ⊥
  no_parameter (Ok g) e = let z : ◌≡◌ {A = ℕ} 0 1 = cc in omega arith
  no_parameter (Err r) e = clash e

  no_return : (r : Field) → parameter_of r ≡ Ok (next.Return f after) → ⊥
  no_return (Ok g) e = let z : ◌≡◌ {A = ℕ} 0 1 = cc in omega arith
  no_return (Err r) e = clash e

module _ (at : ℕ) (s : List ℕ) (f : FieldDescriptor) (after : ℕ) where
  pub is_parameter : next_from at s ≡ Ok (next.Parameter f after) → field_from 0 at s ≡ Ok (f, after)
  is_parameter h = go (begins_with (byte ")") s) refl
    where
      go : (b : Bool) → begins_with (byte ")") s ≡ b → field_from 0 at s ≡ Ok (f, after)
      go true e = absurd (no_parameter (return_from (at + 1) (drop 1 s)) (sym (next_return at s e) ∙ h))
      go false e = was_parameter (field_from 0 at s) (sym (next_parameter at s e) ∙ h)

  pub is_return : next_from at s ≡ Ok (next.Return f after) → (t : List ℕ) × (s ≡ byte ")" ∷ t) × (return_from (at + 1) t ≡ Ok (f, after))
  is_return h = go (begins_with (byte ")") s) refl
    where
      go : (b : Bool) → begins_with (byte ")") s ≡ b → (t : List ℕ) × (s ≡ byte ")" ∷ t) × (return_from (at + 1) t ≡ Ok (f, after))
      go true e =
          let c = (begins_cons (byte ")") s).0 e in
          (c.0, c.1, ap (λ (l : List ℕ). return_from (at + 1) (drop 1 l)) (sym c.1) ∙ was_return (return_from (at + 1) (drop 1 s)) (sym (next_return at s e) ∙ h))
      go false e = absurd (no_return (field_from 0 at s) (sym (next_parameter at s e) ∙ h))

-- a parameter that was read lies past its start and ends in the text
pub parameter_ends_in : (t : List ℕ) (at : ℕ) (f : FieldDescriptor) (after : ℕ) → at ≤ length t → next_from at (drop at t) ≡ Ok (next.Parameter f after) → (at < after) × (after ≤ length t)
parameter_ends_in t at f after h q = field_ends_in t at f after h (is_parameter at (drop at t) f after q)

pub parameter_falls : (t : List ℕ) (at : ℕ) (f : FieldDescriptor) (after : ℕ) → at ≤ length t → Ok (next.Parameter f after) ≡ next_from at (drop at t) → length t - after < length t - at
parameter_falls t at f after h q = omega (arith, parameter_ends_in t at f after h (sym q))

-- what is left of a text at `at`, after `count` parameters
abbrev pub rest_at : List ℕ → ℕ → ℕ → Reading
rest_at text count at = rest_from (length text - count) at (drop at text)

module _ (text : List ℕ) (count at : ℕ) (h : count < length text) where
  one_more : length text - count ≡ suc (length text - (count + 1))
  one_more = omega arith

  pub run_parameter : (f : FieldDescriptor) (after : ℕ) → at < after → next_from at (drop at text) ≡ Ok (next.Parameter f after) → rest_at text count at ≡ Reading.parameter at f (rest_at text (count + 1) after)
  run_parameter f after past e =
      let here : at + (after - at) ≡ after = omega arith in
      rw one_more (rest_parameter at (drop at text) _ f after e)
      ∙ ap (λ (l : List ℕ). Reading.parameter at f (rest_from (length text - (count + 1)) after l)) (drop-drop (after - at) at text ∙ ap (λ (i : ℕ). drop i text) here)

  pub run_return : (f : FieldDescriptor) (used : ℕ) → next_from at (drop at text) ≡ Ok (next.Return f used) → rest_at text count at ≡ Reading.ended f used
  run_return f used e = rw one_more (rest_return at (drop at text) _ f used e)

  pub run_refused : (r : Refusal ℕ) → next_from at (drop at text) ≡ Err r → rest_at text count at ≡ Reading.refused r
  run_refused r e = rw one_more (rest_refused at (drop at text) _ r e)

-- The room that is left after so many parameters.
abbrev room_left : Option ℕ → ℕ → Option ℕ
room_left None count = None
room_left (Some room) count = Some (room - count)

module _ {r : Reading} (count at : ℕ) (f : FieldDescriptor) {rest : Reading} where
  within_next : (room : Option ℕ) → has_room room count ≡ true → r ≡ Reading.parameter at f rest → within_room (room_left room count) r ≡ Reading.parameter at f (within_room (room_left room (count + 1)) rest)
  unfolding within
  within_next None h e = e
  within_next (Some room) h e =
      let some : count < room = ltb-true _ _ h in
      let more : room - count ≡ suc (room - (count + 1)) = omega arith in
      rw (e, more)

  within_full : (room : Option ℕ) → has_room room count ≡ false → r ≡ Reading.parameter at f rest → within_room (room_left room count) r ≡ Reading.refused (refused reason.NoPartLeft at)
  unfolding within
  within_full None h e = absurd (false≢true (sym h))
  within_full (Some room) h e =
      let full : room ≤ count = ltb-false _ _ h in
      let none : room - count ≡ 0 = omega arith in
      rw (e, none)

-- The loop: what is left decides as the whole, and the parts that are still to come fill the store as all of them do.
pub record Fill (text store₀ store : List ℕ) (room : Option ℕ) (count at : ℕ) : Type 0 where
  pub counted : count < at
  pub inside : at ≤ length text
  pub decides : answer_from count (within_room (room_left room count) (rest_at text count at)) ≡ answer_from 0 (within_room room (rest_reading text))
  pub fills : store_from store count (within_room (room_left room count) (rest_at text count at)) ≡ store_from store₀ 0 (within_room room (rest_reading text))

pub fill_start : (text store : List ℕ) (room : Option ℕ) → 1 ≤ length text → Fill text store store room 0 1
fill_start text store None h = record { counted = omega arith; inside = h; decides = rw (sub-zero (length text)) refl; fills = rw (sub-zero (length text)) refl }
fill_start text store (Some room) h =
    record { counted = omega arith; inside = h; decides = rw (sub-zero (length text), sub-zero room) refl; fills = rw (sub-zero (length text), sub-zero room) refl }

module _ (text store₀ store : List ℕ) (room : Option ℕ) (count at : ℕ) (l : Fill text store₀ store room count at) where
  below : count < length text
  below = omega (arith, l.counted, l.inside)

  -- what is left is the reading r
  fill_is :
      {r : Reading} → within_room (room_left room count) (rest_at text count at) ≡ r
      → (answer_from count r ≡ answer_from 0 (within_room room (rest_reading text))) × (store_from store count r ≡ store_from store₀ 0 (within_room room (rest_reading text)))
  fill_is e = (sym (ap (answer_from count) e) ∙ l.decides, sym (ap (store_from store count) e) ∙ l.fills)

  pub fill_return :
      (f : FieldDescriptor) (used : ℕ) → Ok (next.Return f used) ≡ next_from at (drop at text)
      → (parsed count f used ≡ answer_from 0 (within_room room (rest_reading text))) × (store ≡ store_from store₀ 0 (within_room room (rest_reading text)))
  unfolding within answer_from store_from
  fill_return f used e = fill_is (ended room (run_return text count at below f used (sym e)))
    where
      ended : (room : Option ℕ) {r : Reading} → r ≡ Reading.ended f used → within_room (room_left room count) r ≡ Reading.ended f used
      ended None e = e
      ended (Some room) e = ap (within _) e

  pub fill_refused :
      (x : Refusal ℕ) → Err x ≡ next_from at (drop at text)
      → (Err x ≡ answer_from 0 (within_room room (rest_reading text))) × (store ≡ store_from store₀ 0 (within_room room (rest_reading text)))
  unfolding within answer_from store_from
  fill_refused x e = fill_is (stopped room (run_refused text count at below x (sym e)))
    where
      stopped : (room : Option ℕ) {r : Reading} → r ≡ Reading.refused x → within_room (room_left room count) r ≡ Reading.refused x
      stopped None e = e
      stopped (Some room) e = ap (within _) e

  module _ (f : FieldDescriptor) (after : ℕ) (e : Ok (next.Parameter f after) ≡ next_from at (drop at text)) where
    ends : (at < after) × (after ≤ length text)
    ends = parameter_ends_in text at f after l.inside (sym e)

    pub fill_full :
        has_room room count ≡ false
        → (Err (refused reason.NoPartLeft at) ≡ answer_from 0 (within_room room (rest_reading text))) × (store ≡ store_from store₀ 0 (within_room room (rest_reading text)))
    unfolding answer_from store_from
    fill_full full = fill_is (within_full count at f room full (run_parameter text count at below f after ends.0 (sym e)))

    pub fill_next : has_room room count ≡ true → Fill text store₀ (sets store (count * part_words) (words f)) room (count + 1) after
    unfolding answer_from store_from
    fill_next some =
        let step = fill_is (within_next count at f room some (run_parameter text count at below f after ends.0 (sym e))) in
        record { counted = omega (arith, ends, l.counted); inside = ends.1; decides = step.0; fills = step.1 }

-- The opening, and what it leaves to read.
pub opening_facts : (s : List ℕ) → opening s ≡ Ok tt → (length s ≤ text_limit) × (begins_with (byte "(") s ≡ true)
opening_facts s e = go (leb (length s) text_limit) refl (begins_with (byte "(") s) refl
  where
    go : (t : Bool) → leb (length s) text_limit ≡ t → (b : Bool) → begins_with (byte "(") s ≡ b → (length s ≤ text_limit) × (begins_with (byte "(") s ≡ true)
    go true p true q = (leb-true _ _ p, q)
    go true p false q = clash (sym (opening_bad s (leb-true _ _ p) q) ∙ e)
    go false p b q = clash (sym (opening_over s (leb-false _ _ p)) ∙ e)

-- the bytes t of the text s, which opens as it must
module _ {s t : List ℕ} (opens : (t ≡ s) × (opening s ≡ Ok tt)) where
  pub opened_some : 1 ≤ length t
  opened_some = rw opens.0 (begins_in (byte "(") s 0 (opening_facts s opens.1).1)

  pub opened_reading : rest_reading t ≡ method_reading s
  unfolding method_reading
  opened_reading = rw (opens.0, opens.1, method_reading)

module _ (s : List ℕ) where
  pub reading_refused : {r : Refusal ℕ} → opening s ≡ Err r → method_reading s ≡ Reading.refused r
  unfolding method_reading
  reading_refused e = rw (e, method_reading)

  module _ (room : Option ℕ) {r : Refusal ℕ} (e : opening s ≡ Err r) where
    none_opens : within_room room (method_reading s) ≡ Reading.refused r
    unfolding within
    none_opens = ap (within_room room) (reading_refused e) ∙ go room
      where
        go : (room : Option ℕ) → within_room room (Reading.refused r) ≡ Reading.refused r
        go None = refl
        go (Some room) = refl

    pub refused_answer : Err r ≡ answer_from 0 (within_room room (method_reading s))
    unfolding answer_from
    refused_answer = rw none_opens

    pub refused_fills : (store : List ℕ) → store ≡ store_from store 0 (within_room room (method_reading s))
    unfolding store_from
    refused_fills store = rw none_opens

-- a record's words, each compared by its value
pub words_are : (f : FieldDescriptor) {a b c d : ℕ} → a ≡ f.dimensions → b ≡ f.letter → c ≡ f.start → d ≡ f.length → a ∷ b ∷ c ∷ d ∷ [] ≡ words f
words_are f p q r s = rw (p, q, r, s)
