-- Lines that are put part by part.
use Rattle.std.proofs.Common.{ℕ, List, ◌++◌}
use Rattle.surf_base.specs.Block.{Stream, Puts, BreaksOff}
use Rattle.surf_base.proofs.Blocks.{Puts-then, BreaksOff-then, BreaksOff-more}

-- ---- a line of four parts breaks off in the first, the second, the third, the last

pub in-first_of_4 : (s t : Stream) (a b c d : List ℕ) → BreaksOff s t a → BreaksOff s t (a ++ b ++ c ++ d)
in-first_of_4 s t a b c d p = BreaksOff-more s t (a ++ b ++ c) d (BreaksOff-more s t (a ++ b) c (BreaksOff-more s t a b p))

pub in-second_of_4 : (s t u : Stream) (a b c d : List ℕ) → Puts s t a → BreaksOff t u b → BreaksOff s u (a ++ b ++ c ++ d)
in-second_of_4 s t u a b c d p q = BreaksOff-more s u (a ++ b ++ c) d (BreaksOff-more s u (a ++ b) c (BreaksOff-then s t u a b p q))

pub in-third_of_4 : (s t u v : Stream) (a b c d : List ℕ) → Puts s t a → Puts t u b → BreaksOff u v c → BreaksOff s v (a ++ b ++ c ++ d)
in-third_of_4 s t u v a b c d p q r = BreaksOff-more s v (a ++ b ++ c) d (BreaksOff-then s u v (a ++ b) c (Puts-then s t u a b p q) r)

pub puts-3 : (s t u v : Stream) (a b c : List ℕ) → Puts s t a → Puts t u b → Puts u v c → Puts s v (a ++ b ++ c)
puts-3 s t u v a b c p q r = Puts-then s u v (a ++ b) c (Puts-then s t u a b p q) r

in-last_of_4 : (s t u v w : Stream) (a b c d : List ℕ) → Puts s t a → Puts t u b → Puts u v c → BreaksOff v w d → BreaksOff s w (a ++ b ++ c ++ d)
in-last_of_4 s t u v w a b c d p q r x = BreaksOff-then s v w (a ++ b ++ c) d (puts-3 s t u v a b c p q r) x

-- ---- the same of a line of five parts

pub in-first_of_5 : (s t : Stream) (a b c d e : List ℕ) → BreaksOff s t a → BreaksOff s t (a ++ b ++ c ++ d ++ e)
in-first_of_5 s t a b c d e p = BreaksOff-more s t (a ++ b ++ c ++ d) e (in-first_of_4 s t a b c d p)

pub in-second_of_5 : (s t u : Stream) (a b c d e : List ℕ) → Puts s t a → BreaksOff t u b → BreaksOff s u (a ++ b ++ c ++ d ++ e)
in-second_of_5 s t u a b c d e p q = BreaksOff-more s u (a ++ b ++ c ++ d) e (in-second_of_4 s t u a b c d p q)

pub in-third_of_5 : (s t u v : Stream) (a b c d e : List ℕ) → Puts s t a → Puts t u b → BreaksOff u v c → BreaksOff s v (a ++ b ++ c ++ d ++ e)
in-third_of_5 s t u v a b c d e p q r = BreaksOff-more s v (a ++ b ++ c ++ d) e (in-third_of_4 s t u v a b c d p q r)

pub in-fourth_of_5 : (s t u v w : Stream) (a b c d e : List ℕ) → Puts s t a → Puts t u b → Puts u v c → BreaksOff v w d → BreaksOff s w (a ++ b ++ c ++ d ++ e)
in-fourth_of_5 s t u v w a b c d e p q r x = BreaksOff-more s w (a ++ b ++ c ++ d) e (in-last_of_4 s t u v w a b c d p q r x)

pub puts-4 : (s t u v w : Stream) (a b c d : List ℕ) → Puts s t a → Puts t u b → Puts u v c → Puts v w d → Puts s w (a ++ b ++ c ++ d)
puts-4 s t u v w a b c d p q r x = Puts-then s v w (a ++ b ++ c) d (puts-3 s t u v a b c p q r) x
