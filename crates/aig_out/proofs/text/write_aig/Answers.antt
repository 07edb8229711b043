use Rattle.surf_base.proofs.Ended.{GotPrefix-broken, Writes-flushed}
use Rattle.aig_model.specs.Text.{text_of}
use Rattle.aig_out.specs.Forms.{form_of}
use Rattle.aig_out.proofs.text.write_aig.Goals as goal

pub returns-in-Ok-clause-ok : goal.returns-in-Ok-clause-ok
returns-in-Ok-clause-ok g c =
    (Writes-flushed c.flush.result _ c.unbuffered-block.result _ _ _ (text_of (form_of c.args.aig.now)) c.unbuffered-block.ensures c.in-Ok.ensures c.flush.ensures.writes c.flush.ensures.empty).1

pub returns-in-Ok-clause-prefix : goal.returns-in-Ok-clause-prefix
returns-in-Ok-clause-prefix g c =
    (Writes-flushed c.flush.result _ c.unbuffered-block.result _ _ _ (text_of (form_of c.args.aig.now)) c.unbuffered-block.ensures c.in-Ok.ensures c.flush.ensures.writes c.flush.ensures.empty).3

pub returns-clause-prefix : goal.returns-clause-prefix
returns-clause-prefix g c = (GotPrefix-broken _ c.unbuffered-block.result _ _ (text_of (form_of c.args.aig.now)) c.unbuffered-block.ensures c.in-Err.ensures).0
