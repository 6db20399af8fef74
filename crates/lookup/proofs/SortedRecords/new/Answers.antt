use Rattle.std.proofs.Common.{rules, ltb, arith}
use Rattle.std.proofs.lemmas.List.Sorted.{answers_always}
use Rattle.lookup.proofs.Rows.{offset_in, sorted, not_sorted}
use Rattle.lookup.proofs.SortedRecords.new.Goals as goal

pub invariant_of-result : goal.invariant_of-result
invariant_of-result c =
    let by_offsets = c.is_sorted_by.ensures.cases (λ row next. ltb (offset_in row) (offset_in next)) (answers_always _ _ _ (λ f a r g called. search rules)) in
    record { sorted = sorted _ _ (omega arith) c.as_chunks.ensures.front by_offsets c.if-is_sorted_by.true }

pub returns : goal.returns
returns c =
    let by_offsets = c.is_sorted_by.ensures.cases (λ row next. ltb (offset_in row) (offset_in next)) (answers_always _ _ _ (λ f a r g called. search rules)) in
    (c.at-2.ensures, not_sorted _ _ (omega arith) c.as_chunks.ensures.front by_offsets c.if-is_sorted_by.false)
