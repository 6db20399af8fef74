use Rattle.std.proofs.Common.{rules, sym, ap, ◌∙◌, ◌≡◌, Ok, Err}
use Rattle.methods.specs.Texts.{has_room}
use Rattle.methods.proofs.Laws.{fill_return, fill_refused, fill_full, fill_next, parameter_falls}
use Rattle.methods.proofs.read_rest.Goals as goal

pub returns-in_err-returned-clause-answers : goal.returns-in_err-returned-clause-answers
returns-in_err-returned-clause-answers g c =
    let same : c.from_residual.result ≡ Err c.in_err-returned.field-0.0 = search rules in
    same ∙ (fill_refused _ _ _ _ _ _ c.loop-returned.invariant.2 _ c.in_err-returned.ensures).0

pub returns-in_err-returned-clause-fills : goal.returns-in_err-returned-clause-fills
returns-in_err-returned-clause-fills g c = (fill_refused _ _ _ _ _ _ c.loop-returned.invariant.2 _ c.in_err-returned.ensures).1

pub returns-in-Return-clause-answers : goal.returns-in-Return-clause-answers
returns-in-Return-clause-answers g c = (fill_return _ _ _ _ _ _ c.loop-returned.invariant.2 _ _ (ap Ok (sym c.in-Return.is) ∙ c.in_ok-returned.ensures)).0

pub returns-in-Return-clause-fills : goal.returns-in-Return-clause-fills
returns-in-Return-clause-fills g c = (fill_return _ _ _ _ _ _ c.loop-returned.invariant.2 _ _ (ap Ok (sym c.in-Return.is) ∙ c.in_ok-returned.ensures)).1

-- there is room in the store as there was at first
pub returns-then-not-keep-clause-answers : goal.returns-then-not-keep-clause-answers
returns-then-not-keep-clause-answers g c =
    let full = ap (λ room. has_room room c.loop-returned.parameters) (sym c.loop-returned.invariant.0) ∙ sym c.keep.ensures.answer ∙ c.if-not-keep.true in
    ap Err c.at.ensures ∙ (fill_full _ _ _ _ _ _ c.loop-returned.invariant.2 _ _ (ap Ok (sym c.in-Parameter.is) ∙ c.in_ok-returned.ensures) full).0

pub returns-then-not-keep-clause-fills : goal.returns-then-not-keep-clause-fills
returns-then-not-keep-clause-fills g c =
    let full = ap (λ room. has_room room c.loop-returned.parameters) (sym c.loop-returned.invariant.0) ∙ sym c.keep.ensures.answer ∙ c.if-not-keep.true in
    c.keep.ensures.full c.if-not-keep.true ∙ (fill_full _ _ _ _ _ _ c.loop-returned.invariant.2 _ _ (ap Ok (sym c.in-Parameter.is) ∙ c.in_ok-returned.ensures) full).1

pub loop-returned-smaller : goal.loop-returned-smaller
loop-returned-smaller g c = parameter_falls _ _ _ _ c.loop-returned.invariant.2.inside (ap Ok (sym c.in-Parameter.is) ∙ c.in_ok-returned.ensures)

pub loop-returned-preserved : goal.loop-returned-preserved
loop-returned-preserved g c =
    let some = ap (λ room. has_room room c.loop-returned.parameters) (sym c.loop-returned.invariant.0) ∙ sym c.keep.ensures.answer ∙ c.if-not-keep.false in (
      c.keep.ensures.same.0 ∙ c.loop-returned.invariant.0,
      c.keep.ensures.same.1 ∙ c.loop-returned.invariant.1,
      rw (c.keep.ensures.kept c.if-not-keep.false) (fill_next _ _ _ _ _ _ c.loop-returned.invariant.2 _ _ (ap Ok (sym c.in-Parameter.is) ∙ c.in_ok-returned.ensures) some),
    )
