use Rattle.std.proofs.Common.{◌≡◌, ◌++◌, ◌==◌, true, sym, subst, arith}
use Rattle.std.specs.Prelude.{OnOk}
use Rattle.std.proofs.lemmas.Bool.Decides.{nat_tests}
use Rattle.gen_top.specs.Joined.{joins_of}
use Rattle.gen_top.proofs.Rows.{host_here}
use Rattle.gen_top.proofs.joins.joins_at.Goals as goal

pub returns : goal.returns
returns c =
    let here : (c.args.host.tile == c.args.tile) ≡ true = grind (arith, nat_tests, c.if-host-tile.false) in
    subst (λ ts. OnOk c.host_joins.result (c.host_joins.new.joins ≡ c.args.joins.now ++ joins_of ts))
    (sym (host_here c.args.tile c.args.host here)) c.host_joins.ensures
