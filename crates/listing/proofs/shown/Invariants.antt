-- The loop's invariant: the bytes so far are shown.
use Rattle.std.proofs.Common.{◌*◌, take}
use Rattle.phrases.specs.Wrote.{Wrote}
use Rattle.listing.specs.Escapes.{shown_text}
use Rattle.listing.proofs.shown.Given as goal

abbrev pub invariant-loop-byte : goal.invariant-loop-byte
invariant-loop-byte l = Wrote (l.byte-index * 4) l.initial.line (shown_text (take l.byte-index l.text)) l.line
