use Rattle.std.proofs.lemmas.Result.{err_from_is_err_and}
use Rattle.surf_cli.specs.Answers.{text_of}
use Rattle.surf_cli.proofs.Ended.{Delivers-broken, Delivers-flushed}
use Rattle.surf_cli.proofs.answers.Answer.write.Goals as goal

pub returns-in_err-put : goal.returns-in_err-put
returns-in_err-put g c =
    let e = err_from_is_err_and c.from_residual.result c.from_residual.ensures.1 in
    Delivers-broken c.from_residual.result e.0 _ _ _ _ (text_of c.args.self.text) e.1 c.args.self.empty c.in_err-put.ensures

pub returns : goal.returns
returns g c = Delivers-flushed c.flush.result _ _ _ _ _ (text_of c.args.self.text) c.args.self.empty c.in_ok-put.ensures c.flush.ensures.writes c.flush.ensures.empty
