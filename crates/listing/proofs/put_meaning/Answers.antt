use mathlib.Core.Path.{refl}
use native.Mathlib.Omega.{arith}
use Rattle.phrases.proofs.Wrote.{wrote_as}
use Rattle.wording.proofs.Laws.{wrote_other}
use Rattle.listing.specs.Meanings.{meaning_or_none}
use Rattle.listing.proofs.Tables.{meant, meaning_short}
use Rattle.listing.proofs.put_meaning.Goals as goal

pub returns-then-line-start : goal.returns-then-line-start
unfolding meaning_or_none
returns-then-line-start c = wrote_as refl (omega arith) (wrote_other {m = 50} (wrote_as (meant c.args.number) (meaning_short c.args.number) c.item.ensures) c.if-line-start.true c.text.ensures)
