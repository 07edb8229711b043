-- Tests of what an expression reads.
use Rattle.std.specs.Prelude.{◌==◌, ◌^◌, Bool, not, ◌&&◌, is_some}
use Rattle.vl_tree.specs.Values.{Name}
use Rattle.vl_model.specs.Meaning.{Use, width_of}
use Rattle.vl_model.specs.Lines.{kind_passes, is_net, is_driven, is_memory, word_count}
use Rattle.vl_rules.specs.declared.walks.NetTest as nets
use Rattle.vl_rules.specs.declared.uses.UseTest as uses
use Rattle.vl_rules.specs.Names.{found}
use Rattle.vl_rules.specs.Scope.{seen, assigned_before, widths_at}

-- whether a test finds a net that an expression reads
abbrev pub net_passes : nets.NetTest → Name → Bool
net_passes (nets.TheVariants.Unknown t k) n = not (kind_passes is_net (seen t.now k n))
net_passes (nets.TheVariants.Early t a k) n = kind_passes is_driven (seen t.now k n) && not (assigned_before a.now k n)
net_passes (nets.TheVariants.Within s) n = is_some (found s.now n)

-- whether a test finds a memory that an expression reads, with its index
abbrev pub use_passes : uses.UseTest → Use → Bool
use_passes (uses.TheVariants.Unknown t k) u = not (kind_passes is_memory (seen t.now k u.memory))
use_passes (uses.TheVariants.Unfit t k) u =
    not (2 ^ width_of (widths_at t.now k) u.index == word_count (seen t.now k u.memory))
