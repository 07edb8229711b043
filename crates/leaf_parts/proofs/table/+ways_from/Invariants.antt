use Rattle.leaf_parts.proofs.table.+ways_from.Given as goal

abbrev pub decreases-ways_from : goal.decreases-ways_from
decreases-ways_from l = l.count
