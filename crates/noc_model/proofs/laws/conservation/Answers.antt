-- Each cycle keeps the counts, and each flit stands in a packet that goes where it names.
use Rattle.noc_model.proofs.Conserved.{conservation-law}
use Rattle.noc_model.proofs.Delivery.{delivered-law}
use Rattle.noc_model.proofs.laws.conservation.Goals as goal

pub returns-clause-counts : goal.returns-clause-counts
returns-clause-counts c = conservation-law

pub returns-clause-home : goal.returns-clause-home
returns-clause-home c = delivered-law
