-- The clauses of `name_from` by the tests on the first byte.
use Prim.Native.Nat.{ℕ, ◌+◌, ◌≤◌, ◌<◌}
use mathlib.Core.Bool.{Bool, true, false}
use mathlib.Core.List.{List, ◌∷◌}
use mathlib.Core.Path.{◌≡◌, sym, ap, ◌∙◌}
use borrow.Author.Tests.{eq-eqb, ne_eqb, le-leb, lt-leb}
use lib.ListN.{length, get_or, drop}
use Rattle.laws.specs.Bytes.{byte, text_limit}
use Rattle.laws.proofs.Lists.{here, done}
use Rattle.class_names.specs.Names.{is_separator, is_barred, name_from, alone_of, class_name, is_named_by, is_class_name, ends_in_segment}
use Rattle.std.specs.Prelude.{Result, Ok, Err}
use Rattle.refusals.specs.declared.Reason.TheVariants as reason
use Rattle.refusals.specs.declared.Refusal.{Refusal}
use Rattle.refusals.specs.Numbers.{refused}
use Rattle.class_names.specs.declared.NameEnd.{NameEnd}
use Rattle.class_names.specs.declared.NameEnd.TheVariants as name_end

module _ (started : Bool) (at b : ℕ) (s : List ℕ) where
  pub empty_segment : is_separator b ≡ true → started ≡ false → name_from started at (b ∷ s) ≡ Err (refused reason.EmptySegment at)
  unfolding name_from
  empty_segment p q = rw (p, q, name_from)

  pub semicolon : is_separator b ≡ true → started ≡ true → b ≡ byte ";" → name_from started at (b ∷ s) ≡ Ok (name_end.Semicolon at)
  unfolding name_from
  semicolon p q e = rw (p, q, eq-eqb b (byte ";") e, name_from)

  pub next_segment : is_separator b ≡ true → started ≡ true → (b ≡ byte ";" → ⊥) → name_from started at (b ∷ s) ≡ name_from false (at + 1) s
  unfolding name_from
  next_segment p q n = rw (p, q, ne_eqb b (byte ";") n, name_from)

  pub barred_byte : is_separator b ≡ false → is_barred b ≡ true → name_from started at (b ∷ s) ≡ Err (refused reason.BarredByte at)
  unfolding name_from
  barred_byte p q = rw (p, q, name_from)

  pub name_byte_lem : is_separator b ≡ false → is_barred b ≡ false → name_from started at (b ∷ s) ≡ name_from true (at + 1) s
  unfolding name_from
  name_byte_lem p q = rw (p, q, name_from)

-- The loop: what is left at the place `at` decides as the whole.
module _ (started : Bool) (at : ℕ) (s : List ℕ) {whole : Result NameEnd (Refusal ℕ)} (left : name_from started at (drop at s) ≡ whole) where
  module _ (inside : at < length s) where
    first : {r : Result NameEnd (Refusal ℕ)} → name_from started at (get_or s at 0 ∷ drop (at + 1) s) ≡ r → r ≡ whole
    first e = sym (here (name_from started at) s at inside ∙ e) ∙ left

    pub empty_there : is_separator (get_or s at 0) ≡ true → started ≡ false → {r : Refusal ℕ} → r ≡ refused reason.EmptySegment at → Err r ≡ whole
    empty_there p q e = ap Err e ∙ first (empty_segment started at _ _ p q)

    pub semicolon_there : is_separator (get_or s at 0) ≡ true → started ≡ true → get_or s at 0 ≡ byte ";" → Ok (name_end.Semicolon at) ≡ whole
    semicolon_there p q e = first (semicolon started at _ _ p q e)

    pub slash_there : is_separator (get_or s at 0) ≡ true → started ≡ true → (get_or s at 0 ≡ byte ";" → ⊥) → name_from false (at + 1) (drop (at + 1) s) ≡ whole
    slash_there p q n = first (next_segment started at _ _ p q n)

    pub barred_there : is_separator (get_or s at 0) ≡ false → is_barred (get_or s at 0) ≡ true → {r : Refusal ℕ} → r ≡ refused reason.BarredByte at → Err r ≡ whole
    barred_there p q e = ap Err e ∙ first (barred_byte started at _ _ p q)

    pub name_byte_there : is_separator (get_or s at 0) ≡ false → is_barred (get_or s at 0) ≡ false → name_from true (at + 1) (drop (at + 1) s) ≡ whole
    name_byte_there p q = first (name_byte_lem started at _ _ p q)

  pub end_there : length s ≤ at → {end : ℕ} → end ≡ at → Ok (name_end.TextEnd end) ≡ whole
  unfolding name_from
  end_there past e = ap (λ (n : ℕ). Ok (name_end.TextEnd n)) e ∙ sym (done (name_from started at) s at past) ∙ left

pub alone : (s : List ℕ) (e : Result NameEnd (Refusal ℕ)) → length s ≤ text_limit → e ≡ name_from false 0 s → alone_of e ≡ class_name s
unfolding class_name
alone s e h q = ap alone_of q ∙ rw (le-leb _ _ h, class_name)

pub alone_over : (s : List ℕ) → text_limit < length s → Err (refused reason.OverTheLimit 0) ≡ class_name s
unfolding class_name
alone_over s h = rw (lt-leb _ _ h, class_name)

-- the answers of a class name alone, by what the segments of its bytes t end at
pub over_alone : (s : List ℕ) {r : Refusal ℕ} {a : Result (Unit {0}) (Refusal ℕ)} → a ≡ Err r → r ≡ refused reason.OverTheLimit 0 → text_limit < length s → a ≡ class_name s
over_alone s p q h = p ∙ ap Err q ∙ alone_over s h

module _ {t s : List ℕ} (same : t ≡ s) (short : length t ≤ text_limit) where
  pub semicolon_alone : {p : ℕ} → Ok (name_end.Semicolon p) ≡ name_from false 0 t → {r : Refusal ℕ} → r ≡ refused reason.LoneSemicolon p → Err r ≡ class_name s
  unfolding alone_of
  semicolon_alone q e = ap Err e ∙ alone t _ short q ∙ ap class_name same

  pub end_alone : {p : ℕ} → Ok (name_end.TextEnd p) ≡ name_from false 0 t → Ok tt ≡ class_name s
  unfolding alone_of
  end_alone q = alone t _ short q ∙ ap class_name same

  pub refused_alone : {r : Refusal ℕ} → Err r ≡ name_from false 0 t → {a : Result (Unit {0}) (Refusal ℕ)} → a ≡ Err r → a ≡ class_name s
  unfolding alone_of
  refused_alone q e = e ∙ alone t _ short q ∙ ap class_name same

-- whether a text is a class name, by what its segments end at
module _ (s : List ℕ) where
  pub semicolon_no_name : {e : ℕ} → Ok (name_end.Semicolon e) ≡ name_from false 0 s → false ≡ is_class_name s
  unfolding is_named_by
  semicolon_no_name q = ap (is_named_by s) q

  pub refused_no_name : {r : Refusal ℕ} → Err r ≡ name_from false 0 s → false ≡ is_class_name s
  unfolding is_named_by
  refused_no_name q = ap (is_named_by s) q

  pub end_name : {e : ℕ} → Ok (name_end.TextEnd e) ≡ name_from false 0 s → {t : Bool} → t ≡ ends_in_segment s → t ≡ is_class_name s
  unfolding is_named_by
  end_name q e = e ∙ ap (is_named_by s) q
