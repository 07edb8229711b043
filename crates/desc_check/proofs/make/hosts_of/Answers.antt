use Rattle.std.proofs.Common.{arith, length}
use Rattle.std.proofs.lemmas.Grind.{common_steps}
use Rattle.std.proofs.lemmas.List.FromFn.{filter_of_map_range_with_len_more}
use Rattle.noc_model.specs.declared.Host.{Host}
use Rattle.desc_check.specs.Network.{is_hosted, name_at, pair_at}
use Rattle.desc_check.proofs.make.hosts_of.Goals as goal
use Rattle.desc_check.proofs.make.hosts_of.Goals.{then-is_hosted+in_ok-push, else-is_hosted}

pub loop-k-preserved : goal.loop-k-preserved
loop-k-preserved c =
    let more =
    filter_of_map_range_with_len_more (λ (h : Host). is_hosted c.args.elements.now h.tile (name_at c.args.domains.now h.domain)) (pair_at (length c.args.domains.now)) 0 c.loop-k.k c.loop-k.k (omega arith) in
    elim c.if-is_hosted.branch [ then-is_hosted+in_ok-push w ↦ grind (arith, common_steps, more) | else-is_hosted w ↦ grind (arith, common_steps, more) ]
