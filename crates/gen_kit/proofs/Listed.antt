-- A port of a plan's text, by its attachment and its kind.
use Rattle.std.proofs.Common.{◌≡◌, ℕ, zero, suc, ◌+◌, ◌*◌, ◌/◌, ◌%◌, ◌<◌, length, refl, ◌∙◌, ap, arith, slice_get, Some}
use Rattle.std.specs.Prelude.{nat_le, option_map}
use Rattle.std.proofs.lemmas.Option.{slice_get-map}
use Rattle.noc_model.specs.declared.Host.{Host}
use Rattle.noc_model.specs.Plan.{Plan}
use Rattle.gen_kit.specs.Ports.{port_kinds, host_port, host_ports, top_ports}
use Rattle.gen_kit.specs.PortSpec.{high_of, port_of}
use Rattle.gen_kit.proofs.Blocks.{length-blocks, in-block}

-- 11 for each attachment
pub port-count : (p : Plan) → length (top_ports p) ≡ length p.hosts * 11
port-count p = length-blocks host_ports 11 (λ h. refl) p.hosts

of-kind : (h : Host) (k : ℕ) → k < 11
    → option_map (host_port h) (slice_get port_kinds k) ≡ Some (port_of (record { output = nat_le 5 k; high = high_of k; kind = k; tile = h.tile; domain = h.domain }))
of-kind h zero less = refl
of-kind h (suc zero) less = refl
of-kind h (suc (suc zero)) less = refl
of-kind h (suc (suc (suc zero))) less = refl
of-kind h (suc (suc (suc (suc zero)))) less = refl
of-kind h (suc (suc (suc (suc (suc zero))))) less = refl
of-kind h (suc (suc (suc (suc (suc (suc zero)))))) less = refl
of-kind h (suc (suc (suc (suc (suc (suc (suc zero))))))) less = refl
of-kind h (suc (suc (suc (suc (suc (suc (suc (suc zero)))))))) less = refl
of-kind h (suc (suc (suc (suc (suc (suc (suc (suc (suc zero))))))))) less = refl
of-kind h (suc (suc (suc (suc (suc (suc (suc (suc (suc (suc zero)))))))))) less = refl
of-kind h (suc (suc (suc (suc (suc (suc (suc (suc (suc (suc (suc k))))))))))) less = absurd (omega arith)

pub port-at : (p : Plan) (i : ℕ) (h : Host) → slice_get p.hosts (i / 11) ≡ Some h
    → slice_get (top_ports p) i ≡ Some (port_of (record { output = nat_le 5 (i % 11); high = high_of (i % 11); kind = i % 11; tile = h.tile; domain = h.domain }))
port-at p i h e =
    let parts : i ≡ i / 11 * 11 + i % 11 = omega arith in
    let less : i % 11 < 11 = omega arith in
    ap (slice_get (top_ports p)) parts ∙ in-block host_ports 11 (λ x. refl) p.hosts (i / 11) (i % 11) h e less
    ∙ slice_get-map (host_port h) port_kinds (i % 11) ∙ of-kind h (i % 11) less
