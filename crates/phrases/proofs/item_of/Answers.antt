use Rattle.std.proofs.Common.{rules, tests, ℕ, List, Bor, refl, ap, ◌∙◌}
use Rattle.std.proofs.lemmas.Iterator.Consumers.{nth_from_yields_List}
use Rattle.std.proofs.lemmas.Iterator.Splits.{YieldsList-from_slice_split}
use Rattle.phrases.specs.Texts.{is_bar}
use Rattle.phrases.proofs.Texts.{part_or_nothing}
use Rattle.phrases.proofs.item_of.Goals as goal

pub returns : goal.returns
returns c =
    let found = nth_from_yields_List c.nth.result c.nth.new.self c.args.n c.nth.ensures.ran (YieldsList-from_slice_split _ is_bar c.args.texts.now c.split.ensures.rest c.split.ensures.done c.split.ensures.closure (λ x b q k. search (rules, tests))) in
    ap (λ (r : Bor (List ℕ)). r.now) c.unwrap_or.ensures ∙ part_or_nothing c.args.n c.args.texts.now c.nth.result _ refl found
