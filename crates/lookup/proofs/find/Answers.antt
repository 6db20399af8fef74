use mathlib.Core.Path.{ap₂}
use Rattle.std.proofs.Common.{◌≡◌, ◌∙◌, ap, Ok, Err, rules}
use Rattle.lookup.specs.Lookup.{lookup_of}
use Rattle.lookup.proofs.Answers.{lookup_sorted, lookup_refused}
use Rattle.lookup.proofs.find.Goals as goal

pub returns : goal.returns
returns c =
    let run = c.in_ok-new.field-0 in
    let same = c.in_ok-new.ensures in
    ap (λ found. Ok found) c.index_of.ensures ∙ lookup_sorted run.records.now run.count c.args.offset run.sorted ∙ ap₂ (λ records count. lookup_of records count c.args.offset) same.0 same.1

pub returns-in_err-new : goal.returns-in_err-new
returns-in_err-new c =
    let refusal = c.in_err-new.ensures in
    let is : c.from_residual.result ≡ Err c.in_err-new.field-0.0 = search rules in
    is ∙ ap (λ r. Err r) refusal.0 ∙ lookup_refused _ _ c.args.offset refusal.1
