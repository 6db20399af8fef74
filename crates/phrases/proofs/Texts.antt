-- A table read text by text.
use Prim.Native.Nat.{ℕ, zero, suc, ◌≤◌}
use mathlib.Core.Bool.{Bool, true, false, So, not, cond, and-eq-true_iff}
use mathlib.Core.List.{List, [], ◌∷◌, ◌++◌}
use mathlib.Core.Path.{◌≡◌, refl, ap, ◌∙◌}
use native.Mathlib.Omega.{arith}
use borrow.Author.Tests.{not-true, leb-true}
use lib.Dec.{leb}
use lib.ListN.{length, get_or}
use Rattle.laws.specs.Bytes.{byte, every}
use Rattle.std.specs.Prelude.{Option, Some, None}
use Rattle.std.specs.List.{slice_get, slice_split, onto_first}
use Rattle.std.specs.Option.{option_map, unwrap_or}
use Rattle.std.proofs.lemmas.Option.{unwrap_or-slice_get}
use denote.Ref.{Bor}
use Rattle.phrases.specs.declared.Line.{Line}
use Rattle.phrases.specs.Wrote.{Wrote}
use Rattle.phrases.specs.Texts.{is_bar, table, has_no_bar, before_bar, after_bar, item}
use Rattle.phrases.proofs.Wrote.{wrote_as}

pub item_none : (n : ℕ) → item n [] ≡ []
unfolding item before_bar after_bar
item_none zero = refl
item_none (suc n) = item_none n

-- the parts between the bars, one byte more in front of them
first_part : (s : List ℕ) → get_or (slice_split is_bar s) 0 [] ≡ before_bar s
unfolding before_bar
first_part [] = refl
first_part (b ∷ s) = go (is_bar b) (slice_split is_bar s) (first_part s)
  where
    go : (t : Bool) (parts : List (List ℕ)) → get_or parts 0 [] ≡ before_bar s → get_or (cond t ([] ∷ parts) (onto_first b parts)) 0 [] ≡ elim t [ true ↦ [] | false ↦ b ∷ before_bar s ]
    go true parts e = refl
    go false [] e = ap (λ (l : List ℕ). b ∷ l) e
    go false (part ∷ parts) e = ap (λ (l : List ℕ). b ∷ l) e

later_part : (s : List ℕ) (n : ℕ) → get_or (slice_split is_bar s) (suc n) [] ≡ get_or (slice_split is_bar (after_bar s)) n []
unfolding after_bar
later_part [] zero = refl
later_part [] (suc n) = refl
later_part (b ∷ s) n = go (is_bar b) (slice_split is_bar s) (later_part s n) refl
  where
    go :
        (t : Bool) (parts : List (List ℕ)) → get_or parts (suc n) [] ≡ get_or (slice_split is_bar (after_bar s)) n [] → parts ≡ slice_split is_bar s
        → get_or (cond t ([] ∷ parts) (onto_first b parts)) (suc n) [] ≡ get_or (slice_split is_bar (elim t [ true ↦ s | false ↦ after_bar s ])) n []
    go true parts e all = ap (λ (l : List (List ℕ)). get_or l n []) all
    go false [] e all = e
    go false (part ∷ parts) e all = e

part_item : (n : ℕ) (s : List ℕ) → get_or (slice_split is_bar s) n [] ≡ item n s
unfolding item
part_item zero s = first_part s
part_item (suc n) s = later_part s n ∙ part_item n (after_bar s)

-- the part with a number, or nothing
pub part_or_nothing :
    (n : ℕ) (s : List ℕ) (found : Option (Bor (List ℕ))) (nothing : Bor (List ℕ)) → nothing.now ≡ [] → option_map (λ x. x.now) found ≡ slice_get (slice_split is_bar s) n
    → (unwrap_or found nothing).now ≡ item n s
part_or_nothing n s None nothing h e = h ∙ ap (λ (o : Option (List ℕ)). unwrap_or o []) e ∙ unwrap_or-slice_get (slice_split is_bar s) n [] ∙ part_item n s
part_or_nothing n s (Some x) nothing h e = ap (λ (o : Option (List ℕ)). unwrap_or o []) e ∙ unwrap_or-slice_get (slice_split is_bar s) n [] ∙ part_item n s

-- a text without a bar, the bar after it, and the rest
module _ (rest : List ℕ) where
  before_first : (text : List ℕ) → So (has_no_bar text) → before_bar (text ++ byte "|" ∷ rest) ≡ text
  unfolding before_bar every
  before_first [] h = refl
  before_first (b ∷ text) h =
      let both = (and-eq-true_iff (not (is_bar b)) (has_no_bar text)).0 h in
      rw (not-true (is_bar b) both.0, before_bar) (ap (λ (s : List ℕ). b ∷ s) (before_first text both.1))

  after_first : (text : List ℕ) → So (has_no_bar text) → after_bar (text ++ byte "|" ∷ rest) ≡ rest
  unfolding after_bar every
  after_first [] h = refl
  after_first (b ∷ text) h =
      let both = (and-eq-true_iff (not (is_bar b)) (has_no_bar text)).0 h in
      rw (not-true (is_bar b) both.0, after_bar) (after_first text both.1)

-- the text with a number in a table is the one with that number in the list of its texts
pub item_table : (texts : List (List ℕ)) (n : ℕ) → So (every has_no_bar texts) → item n (table texts) ≡ get_or texts n []
unfolding item table every
item_table [] n h = item_none n
item_table (text ∷ texts) zero h = before_first (table texts) text ((and-eq-true_iff (has_no_bar text) (every has_no_bar texts)).0 h).0
item_table (text ∷ texts) (suc n) h =
    let both = (and-eq-true_iff (has_no_bar text) (every has_no_bar texts)).0 h in
    ap (item n) (after_first (table texts) text both.0) ∙ item_table texts n both.1

-- none of them is longer than so many bytes
abbrev pub within : ℕ → List ℕ → Bool
within most text = leb (length text) most

pub text_short : (texts : List (List ℕ)) (most n : ℕ) → So (every (within most) texts) → length (get_or texts n []) ≤ most
unfolding every
text_short [] most n h = omega arith
text_short (text ∷ texts) most zero h = leb-true _ _ ((and-eq-true_iff (within most text) (every (within most) texts)).0 h).0
text_short (text ∷ texts) most (suc n) h = text_short texts most n ((and-eq-true_iff (within most text) (every (within most) texts)).0 h).1

-- a table's bytes by its texts
module _ (texts : List (List ℕ)) (most : ℕ) (bars : So (every has_no_bar texts)) (short : So (every (within most) texts)) {bytes : List ℕ} (is : bytes ≡ table texts) (n : ℕ) where
  pub item_is : item n bytes ≡ get_or texts n []
  item_is = ap (item n) is ∙ item_table texts n bars

  pub item_short : length (item n bytes) ≤ most
  item_short = omega (arith, ap length item_is, text_short texts most n short)

  pub wrote_item : {old new : Line} → Wrote (length (item n bytes)) old (item n bytes) new → Wrote most old (get_or texts n []) new
  wrote_item h = wrote_as item_is item_short h
