-- What a machine of the code keeps.
use Rattle.vl_tree.specs.Read.{read_design}
use Rattle.vl_rules.specs.Answer.{design_of}
use Rattle.vl_run.specs.declared.machine.Machine as code
use Rattle.vl_run.specs.Stands.{Running}

-- the model of a machine
abbrev pub running : code.Machine → Running
running m =
    record { design = read_design (design_of m.sound); parts = m.parts.items; tops = m.tops; ports = m.ports.items }
