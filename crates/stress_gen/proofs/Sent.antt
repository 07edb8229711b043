-- What is drawn, one number after another, is a send.
use Rattle.std.proofs.Common.{◌≡◌, ℕ, ◌+◌, ◌*◌, ◌%◌, List, length, map, sym, ap, ◌∙◌}
use Rattle.std.specs.Prelude.{slice_get, slice_index, Some}
use Rattle.std.specs.List.{range_with_len}
use Rattle.noc_model.specs.declared.Host.{Host}
use Rattle.noc_model.specs.Plan.{Plan}
use Rattle.noc_model.specs.Events.{hosts_of}
use Rattle.trace_read.specs.declared.entries.Entry.TheVariants.{Send}
use Rattle.stress_gen.specs.Draws.{next, upper, draw, after_draws}
use Rattle.stress_gen.specs.Sends.{domain_in, domain_of, destination, address, words, send, after_send}

-- the number after three draws
pub third : (x n1 n2 n3 : ℕ) → n1 ≡ next x → n2 ≡ next n1 → n3 ≡ next n2 → n3 ≡ after_draws x 3
third x n1 n2 n3 a b c = c ∙ ap next (b ∙ ap next a)

pub sent : (p : Plan) (cycle j x n1 n2 n3 tile last count : ℕ) (h : Host) (ts ws : List ℕ) → slice_get p.hosts j ≡ Some h → ts ≡ hosts_of p h.domain
    → n1 ≡ next x → n2 ≡ next n1 → n3 ≡ next n2
    → tile ≡ slice_index ts (draw n1 0 % length ts) → last ≡ upper n3 → count ≡ 1 + upper n1 % 4 → ws ≡ map (draw n3) (range_with_len 0 count)
    → Send cycle j (4096 * tile + last % 4096) ws ≡ send p cycle j x
unfolding send
sent p cycle j x n1 n2 n3 tile last count h ts ws at all a b c is ends few are =
    ap (λ t. Send cycle j (4096 * t + last % 4096) ws) tile-is
    ∙ ap (λ r. Send cycle j (4096 * destination p (domain_of p j) x + r % 4096) ws) last-is
    ∙ ap (λ us. Send cycle j (address p (domain_of p j) x) us) words-are
  where
    tiles-are : ts ≡ hosts_of p (domain_of p j)
    tiles-are = all ∙ ap (hosts_of p) (sym (ap domain_in at))

    tile-is : tile ≡ destination p (domain_of p j) x
    tile-is = is ∙ ap (λ n. slice_index ts (draw n 0 % length ts)) a ∙ ap (λ (us : List ℕ). slice_index us (draw x 1 % length us)) tiles-are

    last-is : last ≡ draw x 2
    last-is = ends ∙ ap upper (third x n1 n2 n3 a b c)

    words-are : ws ≡ words x
    words-are = are ∙ ap (λ n. map (draw n) (range_with_len 0 count)) (third x n1 n2 n3 a b c)
        ∙ ap (λ k. map (draw (after_draws x 3)) (range_with_len 0 k)) (few ∙ ap (λ n. 1 + upper n % 4) a)

pub sent-after : (x n1 n2 n3 count last : ℕ) → n1 ≡ next x → n2 ≡ next n1 → n3 ≡ next n2 → count ≡ 1 + upper n1 % 4 → last ≡ after_draws n3 count → last ≡ after_send x
unfolding after_send
sent-after x n1 n2 n3 count last a b c few is =
    is ∙ ap (λ n. after_draws n count) (third x n1 n2 n3 a b c) ∙ ap (after_draws (after_draws x 3)) (few ∙ ap (λ n. 1 + upper n % 4) a)
