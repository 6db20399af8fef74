use Rattle.std.proofs.Common.{rules}
use Rattle.class_names.proofs.Laws.{semicolon_alone, refused_alone}
use Rattle.class_names.proofs.class_name.Goals as goal

pub returns-in_err-place : goal.returns-in_err-place
returns-in_err-place c = refused_alone c.in_ok-text.ensures c.in_ok-text.text.within c.in_err-place.ensures (search rules)

pub returns-in-Semicolon : goal.returns-in-Semicolon
returns-in-Semicolon c = semicolon_alone c.in_ok-text.ensures c.in_ok-text.text.within (search rules) c.at.ensures
