-- The contract of `decode` settles its answer and both stores. The statement stands here, since specs/ may not name what the
-- checker makes of src/.
use Rattle.laws.specs.Pinned.{Settles}
use Rattle.laws.proofs.Pinned.{result_lent_lent}
use Rattle.bytecode.specs.contracts.decode as decode
use Rattle.bytecode.proofs.decode.Reads as reads

abbrev pub DecodeSettled : Type 0
DecodeSettled = Settles decode.ended reads.Learnt

pub decode_settled : DecodeSettled
decode_settled κs a = result_lent_lent 2 0
