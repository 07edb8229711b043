use Rattle.std.proofs.Common.{◌∙◌, ap, refl, Bool}
use Rattle.std.specs.Prelude.{not, ◌&&◌}
use Rattle.std.specs.List.{list_any}
use Rattle.vl_model.specs.Meaning.{nets_of}
use Rattle.vl_tree.specs.Read.{read}
use Rattle.vl_rules.specs.declared.walks.NetTest as nets
use Rattle.vl_rules.specs.declared.uses.UseTest as memories
use Rattle.vl_rules.specs.Lines.{lines_of}
use Rattle.vl_rules.specs.Walks.{net_passes, use_passes}
use Rattle.vl_rules.proofs.Judged.{knows-same}
use Rattle.vl_rules.proofs.known.knows.Goals as goal

pub returns : goal.returns
returns c =
    c.neither.ensures ∙ ap (λ (b : Bool). not b && not c.any_use-memories.result) c.any_net-nets.ensures
    ∙ ap (λ (b : Bool). not (list_any (net_passes (nets.TheVariants.Unknown c.args.site.now.declared c.args.number)) (nets_of (read c.args.e.now))) && not b) c.any_use-memories.ensures
    ∙ knows-same c.args.site.now.declared.now (lines_of c.args.site.now.subject) c.requires.declared c.args.number (read c.args.e.now)
    (net_passes (nets.TheVariants.Unknown c.args.site.now.declared c.args.number)) (use_passes (memories.TheVariants.Unknown c.args.site.now.declared c.args.number)) (λ n. refl) (λ u. refl)
