-- The flit of the word goes on by one stage or one place in each cycle, and waits for its slot at most where the law counts a wait.
use Rattle.noc_model.proofs.LoneRoute.{route-exists}
use Rattle.noc_model.proofs.LoneWord.{lone_word-law}
use Rattle.noc_model.proofs.LoneDriven.{lone_word-driven}
use Rattle.noc_model.proofs.laws.lone_word.Goals as goal

pub returns-clause-route : goal.returns-clause-route
returns-clause-route c = route-exists

pub returns-clause-got : goal.returns-clause-got
returns-clause-got c = lone_word-law

pub returns-clause-driven : goal.returns-clause-driven
returns-clause-driven c = lone_word-driven
