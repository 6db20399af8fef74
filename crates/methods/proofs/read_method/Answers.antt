use Rattle.std.proofs.Common.{rules, ap, ◌∙◌, ◌≡◌, Err}
use Rattle.methods.specs.Texts.{within_room, answer_from, store_from}
use Rattle.methods.proofs.Laws.{opened_some, opened_reading, refused_answer, refused_fills}
use Rattle.methods.proofs.read_method.Goals as goal

pub returns-in_err-opened-clause-answers : goal.returns-in_err-opened-clause-answers
returns-in_err-opened-clause-answers g c =
    let same : c.from_residual.result ≡ Err c.in_err-opened.field-0.0 = search rules in
    same ∙ refused_answer _ _ c.in_err-opened.ensures

pub returns-in_err-opened-clause-fills : goal.returns-in_err-opened-clause-fills
returns-in_err-opened-clause-fills g c = refused_fills _ _ c.in_err-opened.ensures _

pub read_rest-requires : goal.read_rest-requires
read_rest-requires g c = opened_some c.in_ok-opened.ensures

pub returns-clause-answers : goal.returns-clause-answers
returns-clause-answers g c = c.read_rest.ensures.answers ∙ ap (λ r. answer_from 0 (within_room (g.S.PartStore.room c.args.store.now) r)) (opened_reading c.in_ok-opened.ensures)

pub returns-clause-fills : goal.returns-clause-fills
returns-clause-fills g c = c.read_rest.ensures.fills ∙ ap (λ r. store_from (g.S.PartStore.stored c.args.store.now) 0 (within_room (g.S.PartStore.room c.args.store.now) r)) (opened_reading c.in_ok-opened.ensures)
