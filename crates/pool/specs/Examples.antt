-- Worked lookups: a kind set and an index, and the answer. Proved in proofs/Examples.antt.
use Rattle.std.specs.Prelude.{ℕ, List, [], ◌∷◌, Result, Ok, Err}
use Rattle.laws.specs.Examples.{Computes}
use Rattle.pool.specs.declared.Kinds.{Kinds}
use Rattle.pool.specs.declared.Kinds.TheVariants as kinds
use Rattle.refusals.specs.Numbers.{number_of}
use Rattle.pool.specs.Entries.{Entry, entry_of_kind}

-- an Integer, a Long with its unused slot, a Class, a Methodref, an InterfaceMethodref, an unlisted tag
abbrev table : List ℕ
table = 9 ∷ 3 ∷ 5 ∷ 0 ∷ 7 ∷ 10 ∷ 11 ∷ 2 ∷ []

-- the tag, or document 01's number of the refusal
abbrev by_number : Entry → Result ℕ ℕ
by_number (Ok tag) = Ok tag
by_number (Err why) = Err (number_of why)

-- proved as `entries_compute`
abbrev pub EntriesCompute : Type 0
EntriesCompute =
    Computes (λ (q : Kinds × ℕ). by_number (entry_of_kind table q.0 q.1)) (
    ((kinds.Loadable, 1), Ok 3)
    ∷ ((kinds.Loadable, 2), Ok 5)
    ∷ ((kinds.Loadable, 3), Err 7)
    ∷ ((kinds.Loadable, 4), Ok 7)
    ∷ ((kinds.Loadable, 5), Err 7)
    ∷ ((kinds.Class, 4), Ok 7)
    ∷ ((kinds.Class, 1), Err 7)
    ∷ ((kinds.Method, 5), Ok 10)
    ∷ ((kinds.Method, 6), Err 7)
    ∷ ((kinds.MethodOrInterfaceMethod, 6), Ok 11)
    ∷ ((kinds.InterfaceMethod, 5), Err 7)
    ∷ ((kinds.InvokeDynamic, 7), Err 7)
    ∷ ((kinds.Field, 0), Err 6)
    ∷ ((kinds.Field, 8), Err 6)
    ∷ [])
