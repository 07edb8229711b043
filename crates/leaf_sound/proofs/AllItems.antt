-- All items of a leaf are right among its lines.
use Rattle.std.proofs.Common.{◌≡◌, ℕ, zero, suc, ◌<◌, List, [], ◌∷◌, length, ap, arith, Some, is_some}
use Rattle.vl_model.specs.Lines.{Line}
use Rattle.noc_model.specs.Plan.{Plan, tiles, ports, hosts, channels, link_channels}
use Rattle.noc_model.specs.Place.{neighbour}
use Rattle.noc_model.specs.Sound.{IsSound}
use Rattle.flit_word.specs.Words.{dest_bits, channel_bits, flit_bits}
use Rattle.leaf_tie.specs.Tie.{HasLink}
use Rattle.leaf_tie.specs.Glue.{has_port, word_group, link_push, pop_of}
use Rattle.leaf_tie.specs.Whole.{each_group, domain_groups, slot_groups, shared_groups, channel_groups}
use Rattle.leaf_tie.specs.Names.{leaf_names, net_names, port_names, credit_base, leaf_sizes, inner_groups}
use Rattle.leaf_sound.proofs.Inner.{few-channels}
use Rattle.leaf_sound.proofs.Domain as facts
use Rattle.leaf_sound.proofs.Domain.{ls, by-register}
use Rattle.leaf_sound.proofs.Items.{GoodNets, good-nil, nets-nil, reg-next, GoodGroups, no-groups, group-next, groups-join, groups-each, groups-if, groups-neighbour}
use Rattle.leaf_sound.proofs.SharedItems.{slots-good, shared-good}
use Rattle.leaf_sound.proofs.DomainItems as before
use Rattle.leaf_sound.proofs.SwitchItems as switched
use Rattle.leaf_sound.proofs.LinkItems as linked
use Rattle.leaf_sound.proofs.Ranked.{no-local}
use Rattle.leaf_tie.proofs.Sized.{out-link}
use Rattle.leaf_tie.specs.Buffers.{buffer_group}

module _ (p : Plan) (n : ℕ) (sound : IsSound p) (inside : n < tiles p) where
  abbrev lines : List Line
  lines = ls p n sound inside

  module _ (d : ℕ) (there : d < length p.domains) where
    channel-good : (o : ℕ) (link : HasLink p n o) (x : ℕ) → x < link_channels p d → GoodGroups lines (channel_groups p d leaf_names net_names (port_names n) (credit_base p) (leaf_sizes p) o x)
    channel-good zero link x less = absurd (no-local p n link.1)
    channel-good (suc o) link x less =
        let outs = out-link p d (suc o) (few-channels p d sound there).0 (λ e. omega arith) in
        group-next lines (good-nil lines) (switched.on-good p n sound inside d there (suc o) x (facts.on p n sound inside d there (suc o) link x less) link.0 link.1 (omega (arith, outs, less))) (good-nil lines)
        (group-next lines (reg-next lines (facts.credits p n sound inside d there (suc o) link x less) (good-nil lines)) (nets-nil lines) (linked.credit-good p n sound inside d there (suc o) link x less) (no-groups lines))

    word-good : (o : ℕ) (link : HasLink p n o) → GoodNets lines (word_group p n leaf_names net_names (dest_bits p) (flit_bits p) (channel_bits p) d o).nets
    word-good zero link = absurd (no-local p n link.1)
    word-good (suc o) link = linked.word-good p n sound inside d there o link

    link-buffers : (q m : ℕ) → q < ports p → neighbour p n q ≡ Some m → GoodGroups lines (each_group (link_channels p d) (λ c. buffer_group (leaf_names.buffer d q c) (leaf_sizes p)
        (link_push p leaf_names (port_names n) (flit_bits p) (channel_bits p) d q m c) (pop_of p net_names d q c) ∷ []))
    link-buffers zero m low e = absurd (no-local p n (ap is_some e))
    link-buffers (suc q) m low e =
        groups-each lines (link_channels p d) (λ c less. group-next lines (linked.link-buffer-heads p n sound inside d there q m c low e less) (linked.link-buffer-nets p n sound inside d there q m c low e less) (good-nil lines) (no-groups lines))

    domain-good : GoodGroups lines (domain_groups p n leaf_names net_names (port_names n) (credit_base p) (leaf_sizes p) (dest_bits p) (flit_bits p) (channel_bits p) d)
    domain-good =
        group-next lines (good-nil lines) (before.filled-good p n sound inside d there) (good-nil lines)
        (group-next lines (good-nil lines) (before.tails-good p n sound inside d there) (good-nil lines)
        (groups-join lines (groups-each lines (ports p) (λ o low. groups-if lines (has_port p n d o)
        (λ has. group-next lines (good-nil lines) (before.led-good p n sound inside d there o low has) (good-nil lines)
        (group-next lines (before.alloc-heads-good p n sound inside d there o low has) (before.alloc-good p n sound inside d there o low has) (before.alloc-moves-good p n sound inside d there o low has)
        (group-next lines (good-nil lines) (switched.ready-good p n sound inside d there o low has) (good-nil lines) (no-groups lines))))
        (λ absent. group-next lines (good-nil lines) (switched.unready-good p n sound inside d there o low) (good-nil lines) (no-groups lines))))
        (group-next lines (switched.switch-heads-good p n sound inside d there) (switched.switch-good p n sound inside d there) (switched.switch-moves-good p n sound inside d there)
        (group-next lines (good-nil lines) (switched.ends-good p n sound inside d there) (good-nil lines)
        (group-next lines (reg-next lines (facts.idle p n sound inside d there) (good-nil lines)) (nets-nil lines) (switched.idle-good p n sound inside d there)
        (groups-join lines (groups-each lines (ports p) (λ o low. groups-if lines (has_port p n d o)
        (λ has. group-next lines (good-nil lines) (switched.freed-good p n sound inside d there o low has) (good-nil lines) (group-next lines (good-nil lines) (switched.flit-good p n sound inside d there o low has) (good-nil lines) (no-groups lines)))
        (λ absent. no-groups lines)))
        (groups-join lines (groups-each lines (ports p) (λ o low. groups-if lines (is_some (neighbour p n o))
        (λ some. groups-join lines (groups-each lines (link_channels p d) (λ x less. channel-good o (low, some) x less))
        (group-next lines (good-nil lines) (word-good o (low, some)) (good-nil lines)
        (group-next lines (reg-next lines (facts.pulse p n sound inside d there o (low, some)) (good-nil lines)) (nets-nil lines) (linked.pulse-good p n sound inside d there o (low, some)) (no-groups lines))))
        (λ none. no-groups lines)))
        (groups-join lines (groups-each lines (ports p) (λ q low. groups-neighbour lines (neighbour p n q) (λ m e. link-buffers q m low e)))
        (groups-if lines (hosts p n d)
        (λ host. group-next lines (good-nil lines) (switched.on-good p n sound inside d there 0 0 (facts.on-local p n sound inside d there host) (omega arith) host (omega arith)) (good-nil lines)
        (group-next lines (reg-next lines (facts.ejected p n sound inside d there host) (good-nil lines)) (linked.eject-good p n sound inside d there host) (linked.eject-moves p n sound inside d there host)
        (group-next lines (linked.attach-heads-good p n sound inside d there host) (linked.attach-good p n sound inside d there host) (linked.attach-moves p n sound inside d there host)
        (groups-each lines (channels p d) (λ c less. group-next lines (linked.local-buffer-heads p n sound inside d there host c less) (linked.local-buffer-nets p n sound inside d there host c less) (good-nil lines) (no-groups lines))))))
        (λ away. no-groups lines))))))))))

  pub inner-good : GoodGroups lines (inner_groups p n)
  inner-good = groups-join lines (slots-good p n sound inside) (groups-join lines (shared-good p n sound inside) (groups-each lines (length p.domains) (λ d there. domain-good d there)))
