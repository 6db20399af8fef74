-- What `decode` promises is what the theorems on its stores ask.
use Rattle.walk.specs.Promised.{CallDecodes, CallTells, CallSafe}
use Rattle.walk.proofs.Stores.{stores_tell, stores_safe}

pub call_decodes : CallDecodes
call_decodes c k m accepted =
    record { answers = c.learnt.0; stores_records = c.learnt.1.0; stores_entries = c.learnt.1.1; accepted = accepted }

pub call_tells : CallTells
call_tells c k m accepted = stores_tell _ _ _ _ _ _ _ k m (call_decodes c k m accepted)

pub call_safe : CallSafe
call_safe c k m accepted = stores_safe _ _ _ _ _ _ _ k m (call_decodes c k m accepted)
