-- One edge keeps the tie of a leaf.
use Rattle.std.proofs.Common.{Some, ◌≡◌, ℕ, zero, suc, ◌+◌, ◌-◌, ◌%◌, ◌<◌, ◌≤◌, length, Option, sym, ◌∙◌, ap, arith, subst, ◌==◌}
use Rattle.std.specs.Prelude.{pos}
use Rattle.std.proofs.Math.Nat.{mod-lt}
use Rattle.vl_model.specs.Meaning.{Widths, Values, one_if}
use Rattle.noc_model.specs.declared.LinkFlit.{LinkFlit}
use Rattle.noc_model.specs.Plan.{Plan, tiles}
use Rattle.noc_model.specs.Place.{opposite, owner}
use Rattle.noc_model.specs.Sound.{IsSound}
use Rattle.noc_model.specs.Tile.{Tile, TileIn}
use Rattle.noc_model.specs.Step.{tile_step}
use Rattle.noc_model.proofs.Ports.{way-linked, opposite-linked, linked-port}
use Rattle.leaf_tie.specs.Buffers.{BufferSize, link_code}
use Rattle.leaf_tie.specs.Slots.{leaving_slot, arriving_slot}
use Rattle.leaf_tie.specs.Links.{LinkTie}
use Rattle.leaf_tie.specs.Tie.{IsWord, LeafNames, PortNames, HasLink, LeafTie, LeafIn, flit_code}
use Rattle.leaf_tie.specs.Glue.{NetNames, link_names, LeafRuns, LeafStarts, SlotsShown, GlueFits, next_shared, state_at, rows_at}
use Rattle.leaf_tie.proofs.Slotted.{slot-kept, slot-shown, leaving-owner, arriving-owner}
use Rattle.leaf_tie.proofs.Linked.{link-kept, own-kept}
use Rattle.leaf_tie.proofs.Started.{leaf-starts}
use Rattle.leaf_tie.proofs.Glued.{domain-kept, sent-words, sent-payload, port-link}

module _ (p : Plan) (n : ℕ) (names : LeafNames) (nets : NetNames) (q : PortNames) (base : ℕ → ℕ) (size : BufferSize) (slot_high dest_bits link_flit link_channel : ℕ)
    (w : Widths) (v u : Values) (t : ℕ) (s : ℕ → Tile) (i : ℕ → TileIn) (shared : ℕ → ℕ → Option LinkFlit)
    (sound : IsSound p) (inside : n < tiles p) (fits : GlueFits p size slot_high dest_bits link_flit link_channel)
    (runs : LeafRuns p n names nets q base size slot_high dest_bits link_flit link_channel w v u)
    (input : LeafIn p n q base dest_bits link_flit link_channel v t s i)
    (tie : LeafTie p n names size dest_bits link_flit link_channel v t s shared) where
  some : 1 ≤ length p.slots
  some = sound.slot_count.0

  owns : (o e : ℕ) → HasLink p n o → e < length p.domains → v.net ((names.slot (leaving_slot p n o)).owns e) ≡ one_if (owner p n o (pos t) == e)
  owns o e link below =
      slot-shown (names.slot (leaving_slot p n o)) slot_high p.slots (length p.domains) (leaving_slot p n o) some w v (runs.leaving o link).now t (tie.leaving o link) e below
      ∙ ap (λ k. one_if (k == e)) (sym (leaving-owner p n o t (way-linked o (port-link p n o link)) some))

  shown : (d : ℕ) → d < length p.domains → SlotsShown p n d names v (pos t)
  shown d below = record {
    leaving = λ o link. owns o d link below;
    arriving = λ port m e.
        slot-shown (names.slot (arriving_slot p m (opposite port))) slot_high p.slots (length p.domains) (arriving_slot p m (opposite port)) some w v (runs.arriving port m e).now t (tie.arriving port m e) d below
        ∙ ap (λ k. one_if (k == d)) (sym (arriving-owner p m (opposite port) t (opposite-linked port (linked-port p n port m e)) some));
  }

  some-owner : (o : ℕ) → HasLink p n o → owner p n o (pos t) < length p.domains
  some-owner o link =
      subst (λ k. k < length p.domains) (sym (leaving-owner p n o t (way-linked o (port-link p n o link)) some))
      (sound.slots ((t + leaving_slot p n o) % length p.slots) 0 (mod-lt (t + leaving_slot p n o) some))

  last : p.stages - 1 + 1 ≡ p.stages
  last = let more_than : 1 ≤ p.stages = sound.stages.0 in omega (arith, more_than)

  link : (o : ℕ) → HasLink p n o
      → LinkTie p n o (p.stages - 1) (link_code (flit_code dest_bits) link_flit link_channel) (link_names p n names nets o) u (suc t) (λ d. tile_step p d n (pos t) (s d) (i d)) (next_shared p n t s i shared o)
  link o there =
      link-kept p n o (link_channel + link_flit) (length p.domains) (p.stages - 1) (link_code (flit_code dest_bits) link_flit link_channel) (link_names p n names nets o) (port-link p n o there)
      w v u (runs.rows o there).now (runs.rows o there).later (runs.rows o there).steps t s i (shared o)
      (record { owned = λ e below. owns o e there below; words = λ e below. sent-words p n e names nets q base size slot_high dest_bits link_flit link_channel w v u t s i sound below fits inside (runs.domains e below) runs.arrivals (shown e below) input (tie.domains e below) o there; some_owner = some-owner o there })
      (record { places = λ j below. tie.rows o j there (omega (arith, below, last)); own = λ d j. tie.own d o j (port-link p n o there) })

  kept-payload : (o : ℕ) → HasLink p n o → (j : ℕ) (x : LinkFlit) → next_shared p n t s i shared o j ≡ Some x → IsWord x.flit
  kept-payload o there zero x e =
      let k : ℕ = owner p n o (pos t) in
      let below = some-owner o there in
      sent-payload p n k names nets q base size slot_high dest_bits link_flit link_channel w v u t s i sound below fits inside (runs.domains k below) runs.arrivals (shown k below) input (tie.domains k below) o x e
  kept-payload o there (suc j) x e = tie.payloads o j x there e

  pub leaf-kept : LeafTie p n names size dest_bits link_flit link_channel u (suc t) (λ d. tile_step p d n (pos t) (s d) (i d)) (next_shared p n t s i shared)
  leaf-kept = record {
    leaving = λ o there. slot-kept (names.slot (leaving_slot p n o)) slot_high p.slots (length p.domains) (leaving_slot p n o) some fits.slots w v u (runs.leaving o there).now (runs.leaving o there).later (runs.leaving o there).steps t (tie.leaving o there);
    arriving = λ port m e. slot-kept (names.slot (arriving_slot p m (opposite port))) slot_high p.slots (length p.domains) (arriving_slot p m (opposite port)) some fits.slots w v u (runs.arriving port m e).now (runs.arriving port m e).later (runs.arriving port m e).steps t (tie.arriving port m e);
    rows = λ o j there below. (link o there).places j (omega (arith, below, last));
    payloads = λ o j x there e. kept-payload o there j x e;
    own = λ d o j away. own-kept p n o t s i (shared o) away (λ e k. tie.own e o k away) d j;
    domains = λ d below. domain-kept p n d names nets q base size slot_high dest_bits link_flit link_channel w v u t s i sound below fits inside (runs.domains d below) runs.arrivals (shown d below) input (tie.domains d below);
  }

leaf-run : (p : Plan) (n : ℕ) (names : LeafNames) (nets : NetNames) (q : PortNames) (base : ℕ → ℕ) (size : BufferSize) (slot_high dest_bits link_flit link_channel : ℕ)
    (w : Widths) (v : ℕ → Values) (i : ℕ → ℕ → TileIn) → IsSound p → n < tiles p → GlueFits p size slot_high dest_bits link_flit link_channel
    → ((t : ℕ) → LeafRuns p n names nets q base size slot_high dest_bits link_flit link_channel w (v t) (v (suc t)))
    → ((t : ℕ) → LeafIn p n q base dest_bits link_flit link_channel (v t) t (state_at p n i t) (i t))
    → LeafTie p n names size dest_bits link_flit link_channel (v 0) 0 (state_at p n i 0) (rows_at p n i 0)
    → (t : ℕ) → LeafTie p n names size dest_bits link_flit link_channel (v t) t (state_at p n i t) (rows_at p n i t)
leaf-run p n names nets q base size slot_high dest_bits link_flit link_channel w v i sound inside fits runs input first zero = first
leaf-run p n names nets q base size slot_high dest_bits link_flit link_channel w v i sound inside fits runs input first (suc t) =
    leaf-kept p n names nets q base size slot_high dest_bits link_flit link_channel w (v t) (v (suc t)) t (state_at p n i t) (i t) (rows_at p n i t) sound inside fits (runs t) (input t)
    (leaf-run p n names nets q base size slot_high dest_bits link_flit link_channel w v i sound inside fits runs input first t)

pub leaf-run-reset : (p : Plan) (n : ℕ) (names : LeafNames) (nets : NetNames) (q : PortNames) (base : ℕ → ℕ) (size : BufferSize) (slot_high dest_bits link_flit link_channel : ℕ)
    (w : Widths) (v : ℕ → Values) (i : ℕ → ℕ → TileIn) → IsSound p → n < tiles p → GlueFits p size slot_high dest_bits link_flit link_channel
    → ((t : ℕ) → LeafRuns p n names nets q base size slot_high dest_bits link_flit link_channel w (v t) (v (suc t)))
    → ((t : ℕ) → LeafIn p n q base dest_bits link_flit link_channel (v t) t (state_at p n i t) (i t))
    → LeafStarts p n names nets q base size slot_high dest_bits link_flit link_channel (v 0)
    → (t : ℕ) → LeafTie p n names size dest_bits link_flit link_channel (v t) t (state_at p n i t) (rows_at p n i t)
leaf-run-reset p n names nets q base size slot_high dest_bits link_flit link_channel w v i sound inside fits runs input starts =
    leaf-run p n names nets q base size slot_high dest_bits link_flit link_channel w v i sound inside fits runs input
    (leaf-starts p n names nets q base size slot_high dest_bits link_flit link_channel (v 0) i sound starts)
