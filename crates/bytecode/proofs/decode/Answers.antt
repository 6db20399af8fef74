use mathlib.Core.Path.{sym, ◌∙◌}
use Rattle.bytecode.proofs.Deciding.{settled_refused, settled_accepted}
use Rattle.bytecode.proofs.decode.Goals as goal

pub returns-then-is_err : goal.returns-then-is_err
returns-then-is_err c =
    let is = sym c.is_err.ensures.value ∙ c.if-is_err.true in
    record {
      answers = c.decide-answer.ensures.answers;
      stores_records = settled_refused c.decide-answer.result c.args.records.now _ _ is c.decide-answer.auto.records c.clear.ensures c.decide-answer.ensures.fills_records;
      stores_entries = settled_refused c.decide-answer.result c.args.entries.now _ _ is c.decide-answer.auto.entries c.clear-then-is_err.ensures c.decide-answer.ensures.fills_entries;
    }

pub returns-else-is_err : goal.returns-else-is_err
returns-else-is_err c =
    let is = sym c.is_err.ensures.value ∙ c.if-is_err.false in
    record {
      answers = c.decide-answer.ensures.answers;
      stores_records = settled_accepted c.decide-answer.result c.args.records.now _ is c.decide-answer.ensures.fills_records;
      stores_entries = settled_accepted c.decide-answer.result c.args.entries.now _ is c.decide-answer.ensures.fills_entries;
    }
