-- A worked trace: the first sends that are drawn from 1.
use Rattle.std.proofs.Common.{◌≡◌, [], ◌∷◌, refl}
use Rattle.noc_model.specs.Events.{hosts_of}
use Rattle.trace_read.specs.declared.entries.Entry.TheVariants.{Send}
use Rattle.stress_gen.specs.Corners.{shared_corners}
use Rattle.stress_gen.specs.Draws.{draw}
use Rattle.stress_gen.specs.Sends.{send, after_send}

hosts-row : hosts_of shared_corners 0 ≡ 0 ∷ 3 ∷ 4 ∷ 8 ∷ 12 ∷ 15 ∷ []
hosts-row = refl

draws-row : draw 1 0 ≡ 908834774
draws-row = refl

first-row : send shared_corners 0 0 1 ≡ Send 0 0 0x80cc (0x3101aae6 ∷ 0x65d13b5a ∷ 0x4010c0f3 ∷ [])
unfolding send
first-row = refl

second-row : send shared_corners 0 1 (after_send 1) ≡ Send 0 1 0xd529 (0x19667bba ∷ 0x5f7541fb ∷ 0x4493b4f2 ∷ [])
unfolding send after_send
second-row = refl
