-- The trace of a stress run: sends, whose sizes, destinations and words are drawn.
use Rattle.std.specs.Prelude.{ℕ, zero, suc, ◌+◌, ◌*◌, ◌/◌, ◌%◌, ◌==◌, List, length, map, flat_map, filter, Option, Some, None, slice_get, slice_index}
use Rattle.std.specs.List.{range_with_len}
use Rattle.noc_model.specs.declared.Host.{Host}
use Rattle.noc_model.specs.Plan.{Plan}
use Rattle.noc_model.specs.Events.{hosts_of}
use Rattle.trace_read.specs.declared.entries.Entry.{Entry}
use Rattle.trace_read.specs.declared.entries.Entry.TheVariants.{Send}
use Rattle.stress_gen.specs.Draws.{draw, after_draws}

-- the domain of an attachment
abbrev pub domain_in : Option Host → ℕ
domain_in None = 0
domain_in (Some h) = h.domain

-- the domain of attachment j
abbrev pub domain_of : Plan → ℕ → ℕ
domain_of p j = domain_in (slice_get p.hosts j)

-- ---- a send, by the number from which it is drawn

-- the first draw says how many words there are
abbrev pub word_count : ℕ → ℕ
word_count x = 1 + draw x 0 % 4

-- the second draw says which of the tiles that host the domain is the destination
abbrev pub destination : Plan → ℕ → ℕ → ℕ
destination p d x = slice_index (hosts_of p d) (draw x 1 % length (hosts_of p d))

-- the third draw says which of the destination's addresses is named
abbrev pub address : Plan → ℕ → ℕ → ℕ
address p d x = 4096 * destination p d x + draw x 2 % 4096

-- one draw for each word
abbrev pub words : ℕ → List ℕ
words x = map (draw (after_draws x 3)) (range_with_len 0 (word_count x))

-- the send of attachment j in the cycle
unfoldable pub send : Plan → ℕ → ℕ → ℕ → Entry
send p cycle j x = Send cycle j (address p (domain_of p j) x) (words x)

-- the number after all draws of a send
unfoldable pub after_send : ℕ → ℕ
after_send x = after_draws (after_draws x 3) (word_count x)

-- ---- all sends

-- the number after so many sends from x
abbrev pub after_sends : ℕ → ℕ → ℕ
after_sends x zero = x
after_sends x (suc k) = after_send (after_sends x k)

-- the sends of a cycle, one of each attachment in order, from the number x on
unfoldable pub sends_in : Plan → ℕ → ℕ → List Entry
sends_in p x cycle = map (λ j. send p cycle j (after_sends x j)) (range_with_len 0 (length p.hosts))

-- how many sends there are before a cycle: one of each attachment in each cycle that is a multiple of 16
abbrev pub sends_before : Plan → ℕ → ℕ
sends_before p cycle = (cycle + 15) / 16 * length p.hosts

-- the cycles below so many that are multiples of 16
abbrev pub sending : ℕ → List ℕ
sending cycles = filter (λ c. c % 16 == 0) (range_with_len 0 cycles)

-- the trace of so many cycles that is drawn from x
unfoldable pub stress_trace : Plan → ℕ → ℕ → List Entry
stress_trace p x cycles = flat_map (λ c. sends_in p (after_sends x (sends_before p c)) c) (sending cycles)
