-- The router of a tile at the start shows the start of each domain.
use Rattle.std.proofs.Common.{◌≡◌, ℕ, zero, suc, ◌+◌, ◌<◌, List, [], ◌∷◌, ◌++◌, length, map, replicate, get_or, refl, sym, ap, ◌∙◌, arith, Option, None}
use Rattle.std.specs.Prelude.{is_some}
use Rattle.std.specs.List.{range_with_len}
use Rattle.std.proofs.lemmas.List.{length-replicate}
use Rattle.std.proofs.lemmas.List.FromFn.{map-range_with_len_more, get_or-map-range_with_len, length-map-range_with_len}
use Rattle.noc_model.specs.declared.Grant.{Grant}
use Rattle.noc_model.specs.declared.Stage.{Stage}
use Rattle.noc_model.specs.declared.Stage.TheVariants.{Idle}
use Rattle.noc_model.specs.Plan.{Plan, tiles, ports, channels, link_channels}
use Rattle.noc_model.specs.Sound.{IsSound}
use Rattle.noc_model.specs.Inputs.{place, input_count}
use Rattle.noc_model.specs.Tile.{start_tile}
use Rattle.noc_model.proofs.Inputs.{place-below}
use Rattle.noc_model.proofs.StateKept.{some-channels}
use Rattle.flit_pool.specs.Lists.{Lists, list_at}
use Rattle.vc_partition.specs.Lanes.{lane}
use Rattle.credit_links.specs.Counts.{Counts, full_counts}
use Rattle.vc_alloc.specs.Allocator.{Allocator, spot, held_at, pointer_at}
use Rattle.vc_alloc.specs.Allocator as allocators
use Rattle.slot_switch.specs.Switch.{Switch}
use Rattle.wave_sched.specs.declared.wheels.Wheel.{Wheel}
use Rattle.wave_sched.specs.Wheels.{Stands}
use Rattle.wave_sched.proofs.Standing.{wheel_ports-is}
use Rattle.slot_switch.specs.Switch as switches
use Rattle.router_core.specs.declared.attachments.Attachment.{Attachment}
use Rattle.router_core.specs.declared.attachments.Told.{Told}
use Rattle.router_core.specs.Attachments.{start_attachment, attachment_at, nothing_told}
use Rattle.router_core.specs.Buffers.{no_lists, lists_at, empty_lists, empty_buffers}
use Rattle.router_core.specs.Pulses.{is_pulse, no_pulses}
use Rattle.router_core.specs.Parts.{Parts, start_parts}
use Rattle.router_core.specs.Sizes.{IsMade}
use Rattle.router_core.specs.Shown.{Shows}

-- where one value stands at each place, it is read everywhere
pub replicate-or : {T : Type 0} (n k : ℕ) (x : T) → get_or (replicate n x) k x ≡ x
replicate-or zero k x = refl
replicate-or (suc n) zero x = refl
replicate-or (suc n) (suc k) x = replicate-or n k x

replicate-in : {T : Type 0} (n k : ℕ) (x y : T) → k < n → get_or (replicate n x) k y ≡ x
replicate-in zero k x y inside = absurd (omega arith)
replicate-in (suc n) zero x y inside = refl
replicate-in (suc n) (suc k) x y inside = replicate-in n k x y (omega arith)

-- lanes of one value, of each domain
lane-of : {T : Type 0} (f : ℕ → ℕ) (x : T) (n d : ℕ) → d < n → lane (map (λ e. replicate (f e) x) (range_with_len 0 n)) d ≡ replicate (f d) x
lane-of f x n d there = get_or-map-range_with_len (λ e. replicate (f e) x) 0 n d d [] there (omega arith)

lane-or : {T : Type 0} (f : ℕ → ℕ) (x : T) (n d k : ℕ) → d < n → get_or (lane (map (λ e. replicate (f e) x) (range_with_len 0 n)) d) k x ≡ x
lane-or f x n d k there = ap (λ l. get_or l k x) (lane-of f x n d there) ∙ replicate-or (f d) k x

module _ (p : Plan) (n d : ℕ) (w : Wheel) (there : d < length p.domains) where
  lists-are : lists_at (empty_buffers p) d ≡ empty_lists p d
  lists-are = get_or-map-range_with_len (empty_lists p) 0 (length p.domains) d d no_lists there (omega arith)

  attachment-is : attachment_at (start_parts p n w).attachments d ≡ start_attachment
  attachment-is = replicate-or (length p.domains) d start_attachment

  pub start-shows : Shows (start_parts p n w) p d (start_tile p)
  start-shows = record {
    queue = λ port c port_in c_in. ap (λ (x : Lists). list_at x (place p d port c)) lists-are ∙ replicate-or (input_count p d) (place p d port c) [];
    stage = λ port c port_in c_in. lane-or (input_count p) Idle (length p.domains) d (place p d port c) there;
    pulse = λ port c port_in c_in. ap (λ o. is_pulse o c) (lane-or (λ e. ports p) None (length p.domains) d port there);
    held = λ o v o_in v_in. ap is_some (lane-or (input_count p) None (length p.domains) d (spot (start_parts p n w).allocator d o v) there);
    credits = λ o v linked o_in v_in. ap (λ l. get_or l (place p d o v) 0) (lane-of (input_count p) p.buffer (length p.domains) d there)
        ∙ replicate-in (input_count p d) (place p d o v) p.buffer 0 (place-below p d o v o_in v_in);
    allocation = λ o o_in. lane-or (λ e. ports p) 0 (length p.domains) d o there;
    switch = λ o o_in. lane-or (λ e. ports p) 0 (length p.domains) d o there;
    turn = λ port port_in. lane-or (λ e. ports p) 0 (length p.domains) d port there;
    packet = ap (λ (a : Attachment). a.packet) attachment-is;
    current = ap (λ (a : Attachment). a.current) attachment-is;
    dropped = ap (λ (a : Attachment). a.dropped) attachment-is;
    ejected = ap (λ (a : Attachment). a.ejected) attachment-is;
  }

module _ (p : Plan) (n : ℕ) (w : Wheel) where
  count-of : {T : Type 0} (f : ℕ → T) → length (map f (range_with_len 0 (length p.domains))) ≡ length p.domains
  count-of f = length-map-range_with_len f 0 (length p.domains)

  number-at : (f : ℕ → ℕ) (d : ℕ) → d < length p.domains → get_or (map f (range_with_len 0 (length p.domains))) d 0 ≡ f d
  number-at f d there = get_or-map-range_with_len f 0 (length p.domains) d d 0 there (omega arith)

  lane-long : {T : Type 0} (f : ℕ → ℕ) (x : T) (d : ℕ) → d < length p.domains → length (lane (map (λ e. replicate (f e) x) (range_with_len 0 (length p.domains))) d) ≡ f d
  lane-long f x d there = ap length (lane-of f x (length p.domains) d there) ∙ length-replicate (f d) x

  pub start-made : IsSound p → n < tiles p → Stands w p n 0 → IsMade (start_parts p n w) p
  start-made sound tile_in stands = record {
    tile = tile_in;
    buffers = record {
      domains = count-of (empty_lists p);
      inputs = λ d there. ap (λ (x : Lists). length x.lists) (lists-are p n d w there) ∙ length-replicate (input_count p d) [];
      depth = λ d there. ap (λ (x : Lists). x.depth) (lists-are p n d w there);
    };
    stages = record { domains = count-of (λ d. replicate (input_count p d) Idle); inputs = λ d there. lane-long (input_count p) Idle d there };
    pulses = record { domains = count-of (λ d. let l : List (Option ℕ) = replicate (ports p) None in l); ports = λ d there. lane-long (λ e. ports p) None d there };
    allocator = record {
      tile = refl;
      domains = λ d there. record {
        domain = let a = count-of (channels p) in omega (arith, a, there);
        port_count = length-replicate (ports p) None;
        class = number-at (channels p) d there;
        link = number-at (link_channels p) d there;
      };
      holders = record { domains = count-of (λ d. let l : List (Option ℕ) = replicate (input_count p d) None in l); inputs = λ d there. lane-long (input_count p) None d there };
      pointers = record { domains = count-of (λ d. replicate (ports p) 0); ports = λ d there. lane-long (λ e. ports p) 0 d there };
    };
    switch = record {
      port_count = refl;
      asks = record { domains = count-of (λ d. let l : List (Option Grant) = replicate (ports p) None in l); ports = λ d there. lane-long (λ e. ports p) None d there };
      turns = record { domains = count-of (λ d. replicate (ports p) 0); ports = λ d there. lane-long (λ e. ports p) 0 d there };
      switches = record { domains = count-of (λ d. replicate (ports p) 0); ports = λ d there. lane-long (λ e. ports p) 0 d there };
    };
    credits = record {
      counts = record { domains = count-of (λ d. replicate (input_count p d) p.buffer); inputs = λ d there. lane-long (input_count p) p.buffer d there };
      buffer = refl;
    };
    attachments = record {
      domains = length-replicate (length p.domains) start_attachment;
      current = λ d there. let a = ap (λ (x : Attachment). x.current) (attachment-is p n d w there) in let b = some-channels p d sound there in omega (arith, a, b);
    };
    told = length-replicate (length p.domains) nothing_told;
    wheel = wheel_ports-is w p n 0 stands;
  }

-- a router that is made of these parts is the one at the start
pub start-is : (p : Plan) (n : ℕ) (bs : List Lists) (ss : List (List Stage)) (us : List (List (Option ℕ))) (a : Allocator) (x : Switch) (c : Counts) (hs : List Attachment) (ts : List Told) (w : Wheel)
    → bs ≡ empty_buffers p → ss ≡ map (λ d. replicate (input_count p d) Idle) (range_with_len 0 (length p.domains)) → us ≡ no_pulses p
    → a ≡ allocators.start_of p n → x ≡ switches.start_of p → c ≡ full_counts p → hs ≡ replicate (length p.domains) start_attachment → ts ≡ replicate (length p.domains) nothing_told
    → (let r : Parts = record { tile = n; buffers = bs; stages = ss; pulses = us; allocator = a; switch = x; credits = c; attachments = hs; told = ts; wheel = w } in r) ≡ start_parts p n w
start-is p n bs ss us a x c hs ts w eb es eu ea ew ec eh et = λ i. record {
  tile = n;
  buffers = eb i;
  stages = es i;
  pulses = eu i;
  allocator = ea i;
  switch = ew i;
  credits = ec i;
  attachments = eh i;
  told = et i;
  wheel = w;
}

-- lanes that are made by counts are lanes by domain
pub map-lanes : {T : Type 0} (f : ℕ → ℕ) (x : T) (xs : List ℕ) → map (λ c. replicate c x) (map f xs) ≡ map (λ d. replicate (f d) x) xs
map-lanes f x [] = refl
map-lanes f x (y ∷ ys) = ap (λ zs. replicate (f y) x ∷ zs) (map-lanes f x ys)

-- lists by number, made one after the other
pub one-more : {T : Type 0} (f : ℕ → T) (xs ys : List T) (d : ℕ) (x : T) → ys ≡ xs ++ x ∷ [] → xs ≡ map f (range_with_len 0 d) → x ≡ f d → ys ≡ map f (range_with_len 0 (d + 1))
one-more f xs ys d x pushed before is =
    pushed ∙ ap (λ l. l ++ x ∷ []) before ∙ ap (λ o. map f (range_with_len 0 d) ++ o ∷ []) is ∙ sym (map-range_with_len_more f 0 d d (omega arith))
