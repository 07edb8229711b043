use Rattle.surf_cli.proofs.Compiled.{compiled-domains-apart}
use Rattle.surf_cli.proofs.laws.compiled_domains_apart.Goals as goal

pub returns : goal.returns
returns c = compiled-domains-apart
