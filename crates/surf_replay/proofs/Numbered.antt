-- The output ports of an attachment, by their kinds.
use Rattle.std.proofs.Common.{◌≡◌, ℕ, zero, suc, ◌+◌, ◌*◌, ◌/◌, ◌%◌, ◌^◌, ◌<◌, ◌≤◌, Bool, true, false, refl, sym, ◌∙◌, ap, subst, arith}
use Rattle.std.specs.Prelude.{Some, slice_get, nat_le, if◌then◌else◌, ◌==◌, ◌||◌}
use Rattle.std.proofs.lemmas.Bool.Decides.{nat_tests}
use Rattle.vl_tree.specs.declared.tree.Port.{Port}
use Rattle.vl_model.specs.Whole.{Nets}
use Rattle.vl_model.specs.Settle.{settled, with_inputs}
use Rattle.noc_model.specs.declared.Host.{Host}
use Rattle.noc_model.specs.Plan.{Plan}
use Rattle.gen_kit.specs.Ports.{top_ports, host_name}
use Rattle.gen_kit.specs.PortSpec.{high_of, kind_head, port_of}
use Rattle.gen_kit.specs.Replayed.{at}
use Rattle.gen_kit.proofs.Listed.{port-at}
use Rattle.vl_run.specs.Stands.{Running}
use Rattle.surf_replay.specs.Cycle.{IsIn}

abbrev pub port_at : Host → ℕ → Port
port_at h k = port_of (record { output = nat_le 5 k; high = high_of k; kind = k; tile = h.tile; domain = h.domain })

pub listed : (p : Plan) (j k : ℕ) (h : Host) → slice_get p.hosts j ≡ Some h → k < 11
    → slice_get (top_ports p) (11 * j + k) ≡ Some (port_at h k)
listed p j k h at less =
    let block : (11 * j + k) / 11 ≡ j = omega arith in
    let kind : (11 * j + k) % 11 ≡ k = omega arith in
    port-at p (11 * j + k) h (ap (slice_get p.hosts) block ∙ at) ∙ ap (λ i. Some (port_at h i)) kind

pub is-output : (k : ℕ) → 5 ≤ k → nat_le 5 k ≡ true
is-output k h = grind (arith, nat_tests)

pub of-32 : (k x : ℕ) → x < 2 ^ (high_of k + 1) → x < 2 ^ 32
of-32 k x h = go ((k == 1) || ((k == 2) || (k == 10))) h
  where
    go : (b : Bool) → x < 2 ^ ((if b then 31 else 0) + 1) → x < 2 ^ 32
    go true h = h
    go false h = omega arith
