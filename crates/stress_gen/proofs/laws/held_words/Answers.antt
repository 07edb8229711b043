use Rattle.stress_gen.proofs.HeldWords.{words-law, held-law, driven-law}
use Rattle.stress_gen.proofs.laws.held_words.Goals as goal

pub returns-clause-words : goal.returns-clause-words
returns-clause-words c = words-law

pub returns-clause-held : goal.returns-clause-held
returns-clause-held c = held-law

pub returns-clause-driven : goal.returns-clause-driven
returns-clause-driven c = driven-law
