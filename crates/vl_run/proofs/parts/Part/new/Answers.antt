use Rattle.std.proofs.Common.{◌∙◌, ap, refl, length}
use Rattle.vl_tree.specs.Read.{read_leaf}
use Rattle.vl_model.specs.Lines.{leaf_lines}
use Rattle.vl_run.specs.Emit.{place_in}
use Rattle.vl_run.specs.State.{code_of}
use Rattle.vl_run.proofs.Placed.{places-of, widths-of}
use Rattle.vl_run.proofs.parts.Part.new.Goals as goal

pub returns : goal.returns
returns c =
    let l = read_leaf c.args.leaf.now.leaf.now in
    let t = c.args.leaf.now.declared.now in record {
      place = place_in t;
      places = places-of t (leaf_lines l) c.requires;
      code = c.in_ok-program.ensures ∙ ap (λ w. code_of (place_in t) w (place_in c.args.top.now.declared.now) l c.args.joins.now) (widths-of t (leaf_lines l) c.requires (length (leaf_lines l)) refl);
      start = c.in_ok-state.ensures;
    }
