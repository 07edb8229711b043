use Rattle.std.proofs.Common.{arith}
use Rattle.dor_routes.proofs.Chained.{along-rises, chain-rises}
use Rattle.dor_routes.proofs.laws.no_circle.Goals as goal

pub returns-clause-along : goal.returns-clause-along
returns-clause-along c = along-rises c.rank_rises.ensures

pub returns-clause-chain : goal.returns-clause-chain
returns-clause-chain c = chain-rises c.rank_rises.ensures

pub returns-clause-circle : goal.returns-clause-circle
returns-clause-circle c =
    λ p a between sound chain. (let up = chain-rises c.rank_rises.ensures p a a between sound chain in omega (arith, up))
