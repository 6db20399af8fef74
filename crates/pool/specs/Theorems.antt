-- Which indexes are accepted, and for which reason the others are refused. The proofs are in proofs/Exactly.antt.
use Rattle.std.specs.Prelude.{ℕ, ◌≤◌, ◌<◌, List, ◌↔◌, ◌⊎◌, ◌≡◌, length, get_or, Ok, Err}
use Rattle.laws.specs.Bytes.{In}
use Rattle.pool.specs.declared.Kinds.{Kinds}
use Rattle.refusals.specs.declared.Reason.{Reason}
use Rattle.refusals.specs.declared.Reason.TheVariants as reason
use Rattle.refusals.specs.Numbers.{number_of}
use Rattle.pool.specs.Tags.{tags_of}
use Rattle.pool.specs.Entries.{HasKind, entry_of_kind}

-- proved as `entry_found_exactly`
abbrev pub EntryFoundExactly : Type 0
EntryFoundExactly =
    (pool : List ℕ) (kinds : Kinds) (index tag : ℕ)
    → (entry_of_kind pool kinds index ≡ Ok tag) ↔ (HasKind pool kinds index × (tag ≡ get_or pool index 0))

-- proved as `no_entry_exactly`
abbrev pub NoEntryExactly : Type 0
NoEntryExactly =
    (pool : List ℕ) (kinds : Kinds) (index : ℕ)
    → (entry_of_kind pool kinds index ≡ Err reason.NoEntry) ↔ ((index ≡ 0) ⊎ (length pool ≤ index))

-- proved as `wrong_kind_exactly`
abbrev pub WrongKindExactly : Type 0
WrongKindExactly =
    (pool : List ℕ) (kinds : Kinds) (index : ℕ)
    → (entry_of_kind pool kinds index ≡ Err reason.WrongKind)
    ↔ ((0 < index) × (index < length pool) × (In (get_or pool index 0) (tags_of kinds) → ⊥))

-- and there is no other refusal: proved as `two_refusals`
abbrev pub TwoRefusals : Type 0
TwoRefusals =
    (pool : List ℕ) (kinds : Kinds) (index : ℕ) (why : Reason) → entry_of_kind pool kinds index ≡ Err why → (number_of why ≡ 6) ⊎ (number_of why ≡ 7)
