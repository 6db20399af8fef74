-- The pool table of document 01: what an index names, with the reasons of its refusals.
use Rattle.std.specs.Prelude.{ℕ, ◌<◌, true, false, List, eqb, leb, length, get_or, Result, Ok, Err}
use Rattle.laws.specs.Bytes.{In}
use Rattle.pool.specs.declared.Kinds.{Kinds}
use Rattle.refusals.specs.declared.Reason.{Reason}
use Rattle.refusals.specs.declared.Reason.TheVariants as reason
use Rattle.pool.specs.Tags.{tags_of, allows_tag}

-- JVMS 6.5: the index is a valid one, and its entry is of one of the kinds
pub record HasKind (pool : List ℕ) (kinds : Kinds) (index : ℕ) : Type 0 where
  pub positive : 0 < index
  pub within : index < length pool
  pub kind : In (get_or pool index 0) (tags_of kinds)

-- what an index names: the tag of an entry, or why there is none
abbrev pub Entry : Type 0
Entry = Result ℕ Reason

-- 6: the index is 0 or not in the table
unfoldable pub entry_at : List ℕ → ℕ → Entry
entry_at pool index =
    elim (eqb index 0) [
      | true ↦ Err reason.NoEntry
      | false ↦ elim (leb (length pool) index) [ true ↦ Err reason.NoEntry | false ↦ Ok (get_or pool index 0) ]
    ]

-- 7: the entry is of another kind, an unused slot and an unlisted tag among them
unfoldable pub of_kind : Kinds → Entry → Entry
of_kind kinds (Ok tag) = elim (allows_tag kinds tag) [ true ↦ Ok tag | false ↦ Err reason.WrongKind ]
of_kind kinds (Err r) = Err r

abbrev pub entry_of_kind : List ℕ → Kinds → ℕ → Entry
entry_of_kind pool kinds index = of_kind kinds (entry_at pool index)
