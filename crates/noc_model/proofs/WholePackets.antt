-- The flits that pass on a channel, and those that are delivered at a tile, are whole packets in a row.
use Rattle.std.proofs.Common.{◌≡◌, ℕ, zero, suc, ◌<◌, Bool, true, false, Option, List, [], ◌∷◌, ◌++◌, length, refl, sym, ap, ◌∙◌, subst, arith, append_assoc, append-nil, ◌==◌, ◌&&◌, ◌||◌, ℤ}
use Rattle.std.specs.Prelude.{Some, None, is_some, is_none, if◌then◌else◌, option_to_list, pos}
use Rattle.std.proofs.lemmas.Bool.Decides.{nat_tests}
use Rattle.noc_model.specs.declared.Flit.{Flit}
use Rattle.noc_model.specs.declared.LinkFlit.{LinkFlit}
use Rattle.noc_model.specs.Plan.{Plan, tiles, hosts, out_channels}
use Rattle.noc_model.specs.Sound.{IsSound}
use Rattle.noc_model.specs.Tile.{Tile, TileIn}
use Rattle.noc_model.specs.Step.{sent, flit_on, word_in, comes_in, next_ejected, tile_step}
use Rattle.noc_model.specs.Run.{State, Input, start, fed, step, state_from}
use Rattle.noc_model.specs.SoundState.{HasOutput}
use Rattle.noc_model.specs.Reached.{IsReached}
use Rattle.noc_model.specs.Packets.{after_flit, ArePackets, AreWholePackets, sent_on, entered_by}
use Rattle.noc_model.specs.Delivery.{given}
use Rattle.noc_model.specs.Flits.{where_there, delivered_at, delivered_to}
use Rattle.noc_model.proofs.StateKept.{some-channels}
use Rattle.noc_model.proofs.Switch.{grant-ready, sent-by}
use Rattle.noc_model.proofs.Moves.{ejection-room}
use Rattle.noc_model.proofs.Reached.{reached-start, reached-next}
use Rattle.noc_model.proofs.Packets.{packets-append}
use Rattle.noc_model.proofs.Entries.{entry_at, entry-free, entry-next}
use Rattle.noc_model.proofs.Delivery.{IsPacked, given-next, next_stands, stand-at, packed-next, packed-start, nowhere}

-- flits that lead from here on to somewhere
record Lead (a : Option ℕ) (fs : List Flit) : Type 0 where
  last : Option ℕ
  packets : ArePackets a fs last

lead-on : (a b : Option ℕ) (xs ys : List Flit) → ArePackets a xs b → Lead b ys → Lead a (xs ++ ys)
lead-on a b xs ys first rest =
    record { last = rest.last; packets = packets-append a b rest.last xs ys first rest.packets }

-- a first part of packets is packets
lead-first : (a b : Option ℕ) (xs ys : List Flit) → ArePackets a (xs ++ ys) b → Lead a xs
lead-first a b [] ys all = record { last = a; packets = refl }
lead-first a b (f ∷ xs) ys all =
    let rest = lead-first (after_flit f) b xs ys all.1 in
    record { last = rest.last; packets = (all.0, rest.packets) }

-- ---- outputs

sent-from : (p : Plan) (d t : ℕ) (s : State) (g : ℕ → ℕ → ℕ → Option ℕ) (xs : List Input) (n o w : ℕ) → IsSound p
    → n < tiles p → IsReached p d (pos t) s → IsPacked p d s g
    → Lead (entry_at p d (s n) (g n) o w) (sent_on p d t s xs n o w)
unfolding step
sent-from p d t s g [] n o w sound inside reached packed =
    record { last = entry_at p d (s n) (g n) o w; packets = refl }
sent-from p d t s g (x ∷ xs) n o w sound inside reached packed =
    let next : State = step p d (pos t) s x in
    let after : IsReached p d (pos (suc t)) next = reached-next p d t s x sound reached in
    let out =
    entry-next p d n (pos t) (s n) (fed p d s x n) (g n) o w (stand-at p d t s x g n sound reached after packed inside) in
    lead-on (entry_at p d (s n) (g n) o w) (entry_at p d (next n) (next_stands p d (pos t) s x g n) o w) _ (sent_on p d (suc t) next xs n o w) out
    (sent-from p d (suc t) next (next_stands p d (pos t) s x g) xs n o w sound inside after (packed-next p d t s x g sound reached packed))

-- what passes on a channel of an output
pub sent-whole : (p : Plan) (d : ℕ) (xs : List Input) (n o w : ℕ) → IsSound p → d < length p.domains → n < tiles p
    → AreWholePackets (sent_on p d 0 (start p) xs n o w)
sent-whole p d xs n o w sound there inside =
    let reached = reached-start p d (pos 0) (some-channels p d sound there) in
    let lead = sent-from p d 0 (start p) nowhere xs n o w sound inside reached (packed-start p d reached) in
    let from : entry_at p d (start p n) (nowhere n) o w ≡ None =
    entry-free p d n (start p n) (nowhere n) o w (reached.held n) refl in
    record { last = lead.last; packets = subst (λ a. ArePackets a (sent_on p d 0 (start p) xs n o w) lead.last) from lead.packets }

-- ---- local channels

entered-from : (p : Plan) (d t : ℕ) (s : State) (xs : List Input) (n c : ℕ)
    → Lead (given (s n) c) (entered_by p d t s xs n c)
unfolding step tile_step
entered-from p d t s [] n c = record { last = given (s n) c; packets = refl }
entered-from p d t s (x ∷ xs) n c =
    lead-on (given (s n) c) (given (step p d (pos t) s x n) c) (comes_in p d (s n) (fed p d s x n) 0 c) (entered_by p d (suc t) (step p d (pos t) s x) xs n c)
    (given-next p d (s n).packet (word_in p (s n) (fed p d s x n)) (s n).current c)
    (entered-from p d (suc t) (step p d (pos t) s x) xs n c)

-- what enters by a local channel
pub entered-whole : (p : Plan) (d : ℕ) (xs : List Input) (n c : ℕ) → AreWholePackets (entered_by p d 0 (start p) xs n c)
entered-whole p d xs n c =
    let lead = entered-from p d 0 (start p) xs n c in
    record { last = lead.last; packets = subst (λ a. ArePackets a (entered_by p d 0 (start p) xs n c) lead.last) (none (0 == c)) lead.packets }
  where
    nothing : Option ℕ
    nothing = None

    none : (b : Bool) → (if b then nothing else nothing) ≡ nothing
    none true = refl
    none false = refl

-- ---- ejection places

-- a flit goes to the ejection place on channel 0
on-zero : (p : Plan) (d n : ℕ) (t : ℤ) (s : Tile) (i : TileIn) (x : LinkFlit)
    → ((port c : ℕ) → HasOutput p d n (s.stage port c)) → sent p d n t s i 0 ≡ Some x → x.channel ≡ 0
on-zero p d n t s i x stages e =
    let by = sent-by p d n t s i 0 x e in
    let few =
    (subst (HasOutput p d n) (grant-ready p d n t s i by.port by.by by.granted).active (stages by.port by.by.channel)).1 in
    go by.by.out by.by.to x.channel by.out by.to few
  where
    go : (o w c : ℕ) → o ≡ 0 → w ≡ c → w < out_channels p d o → c ≡ 0
    go zero w c out to few = omega arith
    go (suc o) w c out to few = absurd (omega arith)

-- the place gives its flit away, keeps it, or takes the new one
place-next : (x : Option LinkFlit) (hears : Bool) (old : Option Flit) → ((y : LinkFlit) → x ≡ Some y → y.channel ≡ 0)
    → (is_some x ≡ true → (is_none old || hears) ≡ true)
    → option_to_list old ++ flit_on x 0 ≡ where_there hears (option_to_list old) ++ option_to_list (next_ejected x hears old)
place-next None true None on_zero room = refl
place-next None true (Some f) on_zero room = refl
place-next None false None on_zero room = refl
place-next None false (Some f) on_zero room = refl
place-next (Some x) hears old on_zero room = go hears old room
  where
    on : (x.channel == 0) ≡ true
    on = let e : x.channel ≡ 0 = on_zero x refl in grind (arith, nat_tests)

    one : flit_on (Some x) 0 ≡ x.flit ∷ []
    one = ap (λ b. if b then x.flit ∷ [] else []) on

    go : (h : Bool) (o : Option Flit) → (true ≡ true → (is_none o || h) ≡ true)
        → option_to_list o ++ flit_on (Some x) 0 ≡ where_there h (option_to_list o) ++ x.flit ∷ []
    go true o r = ap (λ fs. option_to_list o ++ fs) one
    go false None r = ap (λ fs. [] ++ fs) one
    go false (Some f) r = absurd (let bad = r refl in cc bad)

-- what is in the place and what is sent to it is what is delivered and what is in the place at last
delivered-sent : (p : Plan) (d t : ℕ) (s : State) (xs : List Input) (n : ℕ) → IsSound p → IsReached p d (pos t) s
    → option_to_list (s n).ejected ++ sent_on p d t s xs n 0 0 ≡ delivered_to p d t s xs n ++ option_to_list (state_from p d t s xs n).ejected
unfolding step tile_step
delivered-sent p d t s [] n sound reached = append-nil (option_to_list (s n).ejected)
delivered-sent p d t s (x ∷ xs) n sound reached =
    let next : State = step p d (pos t) s x in
    let new : Option LinkFlit = sent p d n (pos t) (s n) (fed p d s x n) 0 in
    let old : List Flit = option_to_list (s n).ejected in
    let heard : List Flit = delivered_at p d s x n in
    let kept : List Flit = option_to_list (next n).ejected in
    let later : List Flit = sent_on p d (suc t) next xs n 0 0 in
    let out : List Flit = delivered_to p d (suc t) next xs n in
    let last : List Flit = option_to_list (state_from p d (suc t) next xs n).ejected in
    let one : old ++ flit_on new 0 ≡ heard ++ kept = place-next new (hosts p n d && x.hears n) (s n).ejected
    (λ y e. on-zero p d n (pos t) (s n) (fed p d s x n) y (λ port c. (reached.sound n).stages port c) e) (ejection-room p d n (pos t) (s n) (fed p d s x n)) in
    let rest : kept ++ later ≡ out ++ last =
    delivered-sent p d (suc t) next xs n sound (reached-next p d t s x sound reached) in
    sym (append_assoc old (flit_on new 0) later) ∙ ap (λ fs. fs ++ later) one ∙ append_assoc heard kept later
    ∙ ap (λ fs. heard ++ fs) rest ∙ sym (append_assoc heard out last)

-- what is delivered at a tile
pub delivered-whole : (p : Plan) (d : ℕ) (xs : List Input) (n : ℕ) → IsSound p → d < length p.domains → n < tiles p
    → AreWholePackets (delivered_to p d 0 (start p) xs n)
delivered-whole p d xs n sound there inside =
    let reached = reached-start p d (pos 0) (some-channels p d sound there) in
    let whole = sent-whole p d xs n 0 0 sound there inside in
    let lead = lead-first None whole.last (delivered_to p d 0 (start p) xs n) (option_to_list (state_from p d 0 (start p) xs n).ejected)
    (subst (λ fs. ArePackets None fs whole.last) (delivered-sent p d 0 (start p) xs n sound reached) whole.packets) in
    record { last = lead.last; packets = lead.packets }
