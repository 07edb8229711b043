-- What a router shows after an attachment took a word and ejected a flit.
use Rattle.std.proofs.Common.{◌≡◌, ◌≢◌, ℕ, zero, suc, ◌<◌, Bool, true, false, List, [], ◌++◌, length, get_or, set, get_or-set_same, get_or-set_other, length-set, refl, sym, ap, ◌∙◌, arith, append-nil, ⊎_elim, Option, Some, None}
use Rattle.std.specs.Prelude.{option_to_list, IfSome, if◌then◌else◌}
use Rattle.std.proofs.lemmas.Bool.{ltb-true}
use Rattle.std.proofs.lemmas.List.{get_or_read, set-get_or}
use Rattle.std.proofs.lemmas.Bool.Decides.{eqb_tells}
use Rattle.noc_model.specs.declared.Flit.{Flit}
use Rattle.noc_model.specs.declared.Offer.{Offer}
use Rattle.noc_model.specs.Plan.{Plan, ports, channels, link_channels}
use Rattle.noc_model.specs.Inputs.{place}
use Rattle.noc_model.specs.Tile.{Tile}
use Rattle.noc_model.specs.Step.{entry, next_packet, next_current, is_dropped, next_ejected, with_channel, is_ready_packet}
use Rattle.noc_model.specs.declared.Packet.{Packet}
use Rattle.noc_model.specs.declared.Packet.TheVariants.{Between, Passing, Dropping}
use Rattle.noc_model.proofs.Inputs.{place-one, place-below, input-within}
use Rattle.tile_iface.specs.Iface.{taken}
use Rattle.flit_pool.specs.Lists.{Lists, list_at}
use Rattle.router_core.specs.declared.attachments.Attachment.{Attachment}
use Rattle.router_core.specs.declared.attachments.Told.{Told}
use Rattle.router_core.specs.Attachments.{start_attachment, attachment_at, nothing_told, told_at}
use Rattle.router_core.specs.Attach.{IsStill, attachment_after, entered, attached_parts, attached}
use Rattle.router_core.specs.Buffers.{lists_at, flits_at}
use Rattle.router_core.specs.Parts.{Parts}
use Rattle.router_core.specs.Sizes.{HasBuffers, IsMade}
use Rattle.router_core.specs.Shown.{Shows}
use Rattle.router_core.proofs.Frames.{flits-written, flits-other, lists-other, has-buffers}

-- ---- the buffers

entered-has : (p : Plan) (xs : List Lists) (d k : ℕ) (f : Option Flit) → d < length p.domains → HasBuffers p xs → HasBuffers p (entered xs d k f)
entered-has p xs d k None there h = h
entered-has p xs d k (Some f) there h = has-buffers p xs d k _ there h

entered-elsewhere : (xs : List Lists) (d e k j : ℕ) (f : Option Flit) → e ≢ d → flits_at (entered xs d k f) e j ≡ flits_at xs e j
entered-elsewhere xs d e k j None apart = refl
entered-elsewhere xs d e k j (Some f) apart = ap (λ (x : Lists). list_at x j) (lists-other xs d e k _ apart)

entered-other : (xs : List Lists) (d k j : ℕ) (f : Option Flit) → d < length xs → j ≢ k → flits_at (entered xs d k f) d j ≡ flits_at xs d j
entered-other xs d k j None there apart = refl
entered-other xs d k j (Some f) there apart = flits-other xs d k j _ there apart

entered-own : (xs : List Lists) (d k : ℕ) (f : Option Flit) → d < length xs → k < length (lists_at xs d).lists → flits_at (entered xs d k f) d k ≡ flits_at xs d k ++ option_to_list f
entered-own xs d k None there inside = sym (append-nil (flits_at xs d k))
entered-own xs d k (Some f) there inside = flits-written xs d k _ there inside

-- a flit enters only where there is room
pub entry-room : (p : Plan) (d count buffer : ℕ) (k : Packet) (word : Option Offer) (f : Flit) → entry p d k word ≡ Some f → is_ready_packet k count buffer ≡ true → count < buffer
entry-room p d count buffer k None f e ready = absurd (cc e)
entry-room p d count buffer Between (Some x) f e ready = ltb-true count buffer ready
entry-room p d count buffer (Passing dest) (Some x) f e ready = ltb-true count buffer ready
entry-room p d count buffer Dropping (Some x) f e ready = absurd (cc e)

pub enter-room : (p : Plan) (d count buffer : ℕ) (k : Packet) (ready : Bool) (offer : Option Offer) → (ready ≡ true → is_ready_packet k count buffer ≡ true)
    → IfSome (entry p d k (taken ready offer)) (λ f. count < buffer)
enter-room p d count buffer k false offer room = tt
enter-room p d count buffer k true offer room = go (entry p d k offer) refl
  where
    go : (o : Option Flit) → entry p d k offer ≡ o → IfSome o (λ f. count < buffer)
    go None e = tt
    go (Some f) e = entry-room p d count buffer k offer f e (room refl)

-- ---- the router

module _ (r : Parts) (p : Plan) (d : ℕ) (word : Option Offer) (eject : Option Flit) (hears : Bool) (made : IsMade r p) (there : d < length p.domains) where
  abbrev a : Attachment
  a = attachment_at r.attachments d

  abbrev b : Attachment
  b = attachment_after p d a word eject hears

  inside : d < length r.attachments
  inside = let h = made.attachments.domains in omega (arith, h, there)

  buffers-inside : d < length r.buffers
  buffers-inside = let h = made.buffers.domains in omega (arith, h, there)

  now-current : a.current < link_channels p d
  now-current = input-within p d 0 a.current (made.attachments.current d there)

  after-is : attachment_at (attached_parts r p d word eject hears).attachments d ≡ b
  after-is = get_or-set_same r.attachments d b start_attachment inside

  pub attached-made : b.current < channels p d → IsMade (attached_parts r p d word eject hears) p
  attached-made few = record {
    tile = made.tile;
    buffers = entered-has p r.buffers d _ _ there made.buffers;
    stages = made.stages;
    pulses = made.pulses;
    allocator = made.allocator;
    switch = made.switch;
    credits = made.credits;
    attachments = record {
      domains = length-set r.attachments d b ∙ made.attachments.domains;
      current = λ e e_in. ⊎_elim
          (λ z. let same = ap (λ k. (attachment_at (attached_parts r p d word eject hears).attachments k).current) z.1 ∙ ap (λ (x : Attachment). x.current) after-is in
          let chans = ap (channels p) z.1 in omega (arith, same, few, chans))
          (λ z. let same = ap (λ (x : Attachment). x.current) (get_or-set_other r.attachments d e b start_attachment z.1) in let h = made.attachments.current e e_in in omega (arith, same, h))
          (eqb_tells e d);
    };
    told = made.told;
    wheel = made.wheel;
  }

  module _ (s : Tile) (shown : Shows r p d s) where
    entry-is : entry p d a.packet word ≡ entry p d s.packet word
    entry-is = ap (λ k. entry p d k word) shown.packet

    queue-is : (port c : ℕ) → port < ports p → c < link_channels p d
        → flits_at (attached_parts r p d word eject hears).buffers d (place p d port c) ≡ (attached p d s word eject hears).queue port c
    queue-is zero c port_in c_in = ⊎_elim
        (λ z. let same : a.current ≡ c = shown.current ∙ z.1 in
        let k_in : place p d 0 a.current < length (lists_at r.buffers d).lists =
        let l = place-below p d 0 a.current port_in now-current in let h = made.buffers.inputs d there in omega (arith, l, h) in
        ap (λ q. flits_at (attached_parts r p d word eject hears).buffers d (place p d 0 q)) (sym same)
        ∙ entered-own r.buffers d (place p d 0 a.current) (entry p d a.packet word) buffers-inside k_in
        ∙ ap (λ q. flits_at r.buffers d (place p d 0 q) ++ option_to_list (entry p d a.packet word)) same
        ∙ ap (λ fs. fs ++ option_to_list (entry p d a.packet word)) (shown.queue 0 c port_in c_in)
        ∙ ap (λ o. s.queue 0 c ++ option_to_list o) entry-is
        ∙ sym (ap (λ t. s.queue 0 c ++ (if t then option_to_list (entry p d s.packet word) else [])) z.0))
        (λ z. entered-other r.buffers d (place p d 0 a.current) (place p d 0 c) (entry p d a.packet word) buffers-inside
        (λ e. z.1 (sym shown.current ∙ sym (place-one p d 0 c 0 a.current c_in now-current e).1))
        ∙ shown.queue 0 c port_in c_in ∙ sym (append-nil (s.queue 0 c))
        ∙ sym (ap (λ t. s.queue 0 c ++ (if t then option_to_list (entry p d s.packet word) else [])) z.0))
        (eqb_tells s.current c)
    queue-is (suc port) c port_in c_in =
        entered-other r.buffers d (place p d 0 a.current) (place p d (suc port) c) (entry p d a.packet word) buffers-inside
        (λ e. let same = (place-one p d (suc port) c 0 a.current c_in now-current e).0 in absurd (omega (arith, same)))
        ∙ shown.queue (suc port) c port_in c_in ∙ sym (append-nil (s.queue (suc port) c))

    pub attached-own : Shows (attached_parts r p d word eject hears) p d (attached p d s word eject hears)
    attached-own = record {
      queue = queue-is;
      stage = shown.stage;
      pulse = shown.pulse;
      held = shown.held;
      credits = shown.credits;
      allocation = shown.allocation;
      switch = shown.switch;
      turn = shown.turn;
      packet = ap (λ (x : Attachment). x.packet) after-is ∙ ap (λ k. next_packet p d k word) shown.packet;
      current = ap (λ (x : Attachment). x.current) after-is ∙ ap (λ k. next_current p d k (entry p d a.packet word)) shown.current ∙ ap (next_current p d s.current) entry-is;
      dropped = ap (λ (x : Attachment). x.dropped) after-is ∙ ap (λ k. is_dropped p d k word) shown.packet;
      ejected = ap (λ (x : Attachment). x.ejected) after-is ∙ ap (next_ejected (with_channel 0 eject) hears) shown.ejected;
    }

  pub attached-others : (e : ℕ) (s : Tile) → e ≢ d → Shows r p e s → Shows (attached_parts r p d word eject hears) p e s
  attached-others e s apart shown =
      let same = get_or-set_other r.attachments d e b start_attachment apart in
      record {
        queue = λ port c port_in c_in. entered-elsewhere r.buffers d e (place p d 0 a.current) (place p e port c) (entry p d a.packet word) apart ∙ shown.queue port c port_in c_in;
        stage = shown.stage;
        pulse = shown.pulse;
        held = shown.held;
        credits = shown.credits;
        allocation = shown.allocation;
        switch = shown.switch;
        turn = shown.turn;
        packet = ap (λ (x : Attachment). x.packet) same ∙ shown.packet;
        current = ap (λ (x : Attachment). x.current) same ∙ shown.current;
        dropped = ap (λ (x : Attachment). x.dropped) same ∙ shown.dropped;
        ejected = ap (λ (x : Attachment). x.ejected) same ∙ shown.ejected;
      }

-- the attachment that was read
pub read-is : (r : Parts) (items : List Attachment) (d : ℕ) (x : Attachment) → items ≡ r.attachments → d < length r.attachments → x ≡ get_or items d x → x ≡ attachment_at r.attachments d
read-is r items d x same there is =
    get_or_read items _ _ (let a = ap length same in omega (arith, a, there)) is start_attachment ∙ ap (λ xs. attachment_at xs d) same

-- what the outside does
pub heard-is : (r : Parts) (items : List Told) (d : ℕ) (x : Told) → items ≡ r.told → d < length r.told → x ≡ get_or items d x → x ≡ told_at r.told d
heard-is r items d x same there is =
    get_or_read items _ _ (let a = ap length same in omega (arith, a, there)) is nothing_told ∙ ap (λ xs. told_at xs d) same

-- a router whose attachment is still
pub attached-still : (r : Parts) (p : Plan) (d : ℕ) (word : Option Offer) (eject : Option Flit) (hears : Bool)
    → IsStill (attachment_at r.attachments d) word eject hears → r ≡ attached_parts r p d word eject hears
attached-still r p d word eject hears still =
    let a = attachment_at r.attachments d in
    let same : a ≡ attachment_after p d a None None hears = λ i. record {
      packet = a.packet;
      current = a.current;
      dropped = still.no_drop i;
      ejected = sym still.unheard i;
    } in
    let back : r.attachments ≡ set r.attachments d (attachment_after p d a None None hears) =
    sym (set-get_or r.attachments d start_attachment) ∙ ap (set r.attachments d) same in
    (λ i. let q : Parts = record r { attachments = back i } in q)
    ∙ ap (λ w. attached_parts r p d w None hears) (sym still.no_word) ∙ ap (λ e. attached_parts r p d word e hears) (sym still.no_flit)
