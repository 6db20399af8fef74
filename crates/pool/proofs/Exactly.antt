-- What an index names, by cases, and which indexes are accepted.
use Prim.Native.Nat.{ℕ, ◌≤◌, ◌<◌}
use mathlib.Core.Bool.{Bool, true, false, false≢true}
use mathlib.Core.List.{List}
use mathlib.Core.Logic.{◌⊎◌, inl, inr}
use mathlib.Core.Path.{◌≡◌, refl, sym, ap, ◌∙◌}
use native.Mathlib.Omega.{arith}
use borrow.Author.Tests.{eq-eqb, ne_eqb, le-leb, lt-leb, leb-true, leb-false}
use lib.Dec.{eqb, leb}
use lib.ListN.{length, get_or}
use Rattle.laws.specs.Bytes.{In}
use Rattle.laws.proofs.Bytes.{one_of_lem}
use Rattle.pool.specs.declared.Kinds.{Kinds}
use Rattle.std.specs.Prelude.{Ok, Err}
use Rattle.refusals.specs.declared.Reason.{Reason}
use Rattle.refusals.specs.declared.Reason.TheVariants as reason
use Rattle.refusals.specs.Numbers.{number_of}
use Rattle.pool.specs.Tags.{tags_of, allows_tag}
use Rattle.pool.specs.Entries.{Entry, entry_at, of_kind, entry_of_kind, HasKind}
use Rattle.pool.specs.Theorems.{EntryFoundExactly, NoEntryExactly, WrongKindExactly, TwoRefusals}

-- the kind check after a lookup that answered e
module _ (kinds : Kinds) {e : Entry} where
  kept : {tag : ℕ} → Ok tag ≡ e → allows_tag kinds tag ≡ true → Ok tag ≡ of_kind kinds e
  unfolding of_kind
  kept {tag} q t = sym (ap (of_kind kinds) (sym q) ∙ rw (t, of_kind))

  turned_away : {tag : ℕ} → Ok tag ≡ e → allows_tag kinds tag ≡ false → Err reason.WrongKind ≡ of_kind kinds e
  unfolding of_kind
  turned_away {tag} q t = sym (ap (of_kind kinds) (sym q) ∙ rw (t, of_kind))

module _ (pool : List ℕ) (index : ℕ) where
  entry_none : (index ≡ 0) ⊎ (length pool ≤ index) → entry_at pool index ≡ Err reason.NoEntry
  unfolding entry_at
  entry_none (inl e) = rw (eq-eqb index 0 e, entry_at)
  entry_none (inr h) = go (eqb index 0) refl
    where
      go : (t : Bool) → eqb index 0 ≡ t → entry_at pool index ≡ Err reason.NoEntry
      go true e = rw (e, entry_at)
      go false e = rw (e, le-leb _ _ h, entry_at)

  entry_there : 0 < index → index < length pool → entry_at pool index ≡ Ok (get_or pool index 0)
  unfolding entry_at
  entry_there p h =
      let n : index ≡ 0 → ⊥ = λ e. omega arith in
      rw (ne_eqb index 0 n, lt-leb _ _ h, entry_at)

  which : ((index ≡ 0) ⊎ (length pool ≤ index)) ⊎ ((0 < index) × (index < length pool))
  which = go (leb 1 index) refl (leb (length pool) index) refl
    where
      go : (t : Bool) → leb 1 index ≡ t → (u : Bool) → leb (length pool) index ≡ u → ((index ≡ 0) ⊎ (length pool ≤ index)) ⊎ ((0 < index) × (index < length pool))
      go false e u f = inl (inl (let h : index < 1 = leb-false _ _ e in omega arith))
      go true e true f = inl (inr (leb-true _ _ f))
      go true e false f = inr (leb-true _ _ e, leb-false _ _ f)

-- what an index gets, by where it lies and whether its entry is of a kind
data Verdict (pool : List ℕ) (kinds : Kinds) (index : ℕ) : Type 0 where
  none : (index ≡ 0) ⊎ (length pool ≤ index) → entry_of_kind pool kinds index ≡ Err reason.NoEntry → Verdict pool kinds index
  wrong : 0 < index → index < length pool → (In (get_or pool index 0) (tags_of kinds) → ⊥) → entry_of_kind pool kinds index ≡ Err reason.WrongKind → Verdict pool kinds index
  right : HasKind pool kinds index → entry_of_kind pool kinds index ≡ Ok (get_or pool index 0) → Verdict pool kinds index

verdict : (pool : List ℕ) (kinds : Kinds) (index : ℕ) → Verdict pool kinds index
unfolding of_kind
verdict pool kinds index = by (which pool index)
  where
    by : ((index ≡ 0) ⊎ (length pool ≤ index)) ⊎ ((0 < index) × (index < length pool)) → Verdict pool kinds index
    by (inl h) = none h (ap (of_kind kinds) (entry_none pool index h))
    by (inr h) = allowed (allows_tag kinds (get_or pool index 0)) refl
      where
        there : entry_at pool index ≡ Ok (get_or pool index 0)
        there = entry_there pool index h.0 h.1

        allowed : (t : Bool) → allows_tag kinds (get_or pool index 0) ≡ t → Verdict pool kinds index
        allowed true a = right (record { positive = h.0; within = h.1; kind = (one_of_lem (tags_of kinds) (get_or pool index 0)).0 a }) (sym (kept kinds (sym there) a))
        allowed false a = wrong h.0 h.1 (λ m. false≢true (sym a ∙ (one_of_lem (tags_of kinds) (get_or pool index 0)).1 m)) (sym (turned_away kinds (sym there) a))

-- two answers of which at most one can be
module _ {e : Entry} where
  not_found : {why : Reason} {tag : ℕ} → e ≡ Err why → e ≡ Ok tag → ⊥
  not_found p q = let z : ◌≡◌ {A = ℕ} 0 1 = cc in omega arith

  one_reason : {why other : Reason} → e ≡ Err why → e ≡ Err other → why ≡ other
  one_reason p q = cc

pub entry_found_exactly : EntryFoundExactly
entry_found_exactly pool kinds index tag = (λ e. to e (verdict pool kinds index), λ h. from h (verdict pool kinds index))
  where
    to : entry_of_kind pool kinds index ≡ Ok tag → Verdict pool kinds index → HasKind pool kinds index × (tag ≡ get_or pool index 0)
    to e (none h q) = absurd (not_found q e)
    to e (wrong p h n q) = absurd (not_found q e)
    to e (right h q) = (h, cc)

    from : HasKind pool kinds index × (tag ≡ get_or pool index 0) → Verdict pool kinds index → entry_of_kind pool kinds index ≡ Ok tag
    from h (none (inl z) q) = absurd (let p : 0 < index = h.0.positive in omega arith)
    from h (none (inr z) q) = absurd (let p : index < length pool = h.0.within in omega arith)
    from h (wrong p w n q) = absurd (n h.0.kind)
    from h (right k q) = q ∙ ap Ok (sym h.1)

pub no_entry_exactly : NoEntryExactly
unfolding of_kind
no_entry_exactly pool kinds index = (λ e. to e (verdict pool kinds index), λ h. ap (of_kind kinds) (entry_none pool index h))
  where
    to : entry_of_kind pool kinds index ≡ Err reason.NoEntry → Verdict pool kinds index → (index ≡ 0) ⊎ (length pool ≤ index)
    to e (none h q) = h
    to e (wrong p h n q) = absurd (let z : reason.WrongKind ≡ reason.NoEntry = one_reason q e in cc)
    to e (right h q) = absurd (not_found e q)

pub wrong_kind_exactly : WrongKindExactly
wrong_kind_exactly pool kinds index = (λ e. to e (verdict pool kinds index), λ h. from h (verdict pool kinds index))
  where
    to : entry_of_kind pool kinds index ≡ Err reason.WrongKind → Verdict pool kinds index → (0 < index) × (index < length pool) × (In (get_or pool index 0) (tags_of kinds) → ⊥)
    to e (none h q) = absurd (let z : reason.NoEntry ≡ reason.WrongKind = one_reason q e in cc)
    to e (wrong p h n q) = (p, h, n)
    to e (right h q) = absurd (not_found e q)

    from : (0 < index) × (index < length pool) × (In (get_or pool index 0) (tags_of kinds) → ⊥) → Verdict pool kinds index → entry_of_kind pool kinds index ≡ Err reason.WrongKind
    from h (none (inl z) q) = absurd (let p : 0 < index = h.0 in omega arith)
    from h (none (inr z) q) = absurd (let p : index < length pool = h.1 in omega arith)
    from h (wrong p w n q) = q
    from h (right k q) = absurd (h.2 k.kind)

pub two_refusals : TwoRefusals
two_refusals pool kinds index why e = by (verdict pool kinds index)
  where
    by : Verdict pool kinds index → (number_of why ≡ 6) ⊎ (number_of why ≡ 7)
    by (none h q) = inl (ap number_of (one_reason e q))
    by (wrong p h w q) = inr (ap number_of (one_reason e q))
    by (right h q) = absurd (not_found e q)
