-- One instance: its nets settle, and an edge takes it from state to state.
use Rattle.std.proofs.Common.{◌≡◌, ℕ, ◌≤◌, Bool, true, false, List, [], length, refl, sym, ◌∙◌, ap, subst, bytes_eq, arith}
use Rattle.std.specs.Prelude.{Some, find, if◌then◌else◌, slice_index}
use Rattle.std.specs.List.{AllByRecursion}
use Rattle.std.proofs.lemmas.Bool.{both_ways}
use Rattle.vl_tree.specs.declared.tree.Join.{Join}
use Rattle.vl_tree.specs.Values.{Name, Leaf, Design}
use Rattle.vl_model.specs.Meaning.{Widths, Values}
use Rattle.vl_model.specs.Lines.{Line, leaf_lines, is_net, is_driven, port_named, leaf_named}
use Rattle.vl_model.specs.Rules.{is_kind, IsSound}
use Rattle.vl_model.specs.Leaf.{leaf_widths, AreSmall, IsRightIn}
use Rattle.vl_model.specs.Settle.{settle, fed, stepped, is_input_port, net_of_join}
use Rattle.vl_model.specs.Order.{is_assigned}
use Rattle.vl_model.proofs.Passed.{SoundLeaf, leaf-sound, passes-behind}
use Rattle.vl_model.proofs.Settling.{settle-outside, settle-only}
use Rattle.vl_model.proofs.Stepping.{step-small}
use Rattle.vl_model.proofs.Leaves.{GoodLeaf, good-leaf, front}
use Rattle.vl_model.proofs.Moving.{MovingLeaf, moving-leaf}
use Rattle.vl_model.proofs.Tops.{GoodJoin}
use Rattle.vl_model.proofs.One.{plain-leaf}
use Rattle.vl_run.specs.Step.{word_at, ran}
use Rattle.vl_run.specs.Program.{assign_steps, next_steps, move_steps, stores_of, linked, stored_in}
use Rattle.vl_run.specs.State.{Code, Part, edged, part_settled, part_edged}
use Rattle.vl_run.specs.Places.{ArePlaces}
use Rattle.vl_run.specs.Rows.{Rows}
use Rattle.vl_run.specs.Start.{AreInside, HasRoom, IsWithin}
use Rattle.vl_run.specs.Stands.{StandsIn}
use Rattle.vl_run.proofs.Acted.{acted, ran-acted, length-ran}
use Rattle.vl_run.proofs.Narrow.{AreNarrow, are-narrow}
use Rattle.vl_run.proofs.Ruled.{ItemRuled, items-ruled}
use Rattle.vl_run.proofs.Settled.{settles}
use Rattle.vl_run.proofs.Readied.{ShowsAll, Readied, readies, next-keeps, moves}
use Rattle.vl_run.proofs.Stored.{stores}
use Rattle.vl_run.proofs.Linked.{length-linked, feeds, low}

-- what is used of a sound leaf
pub record LeafFacts (l : Leaf) : Type 0 where
  pub good : GoodLeaf l
  pub moving : MovingLeaf l
  pub narrow : AreNarrow (leaf_widths l)
  pub ruled : AllByRecursion (ItemRuled (leaf_lines l)) l.items

pub leaf-facts : (d : Design) → IsSound d → (n : Name) (l : Leaf) → leaf_named d.leaves n ≡ Some l → LeafFacts l
leaf-facts d sound n l e =
    let plain = plain-leaf d sound n l e in
    let s : SoundLeaf l = leaf-sound d sound.rules n l e in
    let m = s.1 in
    record {
      good = good-leaf l plain s;
      moving = moving-leaf l plain s;
      narrow = are-narrow s.0 (leaf_lines l) m.width;
      ruled = items-ruled s.0 (leaf_lines l) (front l) l.items refl plain
          (passes-behind _ s.0 (leaf_lines l) [] (front l) _ m.known) (passes-behind _ s.0 (leaf_lines l) [] (front l) _ m.width) (passes-behind _ s.0 (leaf_lines l) [] (front l) _ m.size);
    }

module _ (t : Name → ℕ) (l : Leaf) (js : List Join) (f : LeafFacts l) where
  abbrev all : List Line
  all = leaf_lines l

  abbrev W : Widths
  W = leaf_widths l

  -- what no item assigns is not driven
  undriven : (n : Name) → is_assigned l.items n ≡ false → is_kind is_driven all n ≡ false
  undriven n free = go (is_kind is_driven all n) refl
    where
      go : (b : Bool) → is_kind is_driven all n ≡ b → is_kind is_driven all n ≡ false
      go true d = absurd (both_ways (is_assigned l.items n) free (f.good.driven n d))
      go false d = d

  -- nets of which those that are not driven show v settle to what v settles to
  settle-nets : (s : Name → ℕ) → ArePlaces all s → (ms : List (List ℕ)) (nets : List ℕ) (v : Values) → AreSmall W v → Rows all s ms v → AllByRecursion (IsWithin (length nets)) (assign_steps s W (length all) l.items)
      → ((n : Name) → is_kind is_net all n ≡ true → is_kind is_driven all n ≡ false → slice_index nets (s n) ≡ v.net n)
      → (n : Name) → is_kind is_net all n ≡ true → slice_index (ran (word_at ms) (assign_steps s W (length all) l.items) nets) (s n) ≡ (settle W v l.items).net n
  settle-nets s places ms nets v small rows within shows n k =
      ap (λ g. g (s n)) (ran-acted (word_at ms) (assign_steps s W (length all) l.items) nets within)
      ∙ settles all s places f.narrow (word_at ms) l.items f.ruled f.good.tight f.good.order v small (λ a i. rows.word a i) (slice_index nets) (λ a net free. shows a net (undriven a free)) n k

  same-code : (x : Part) (v : Values) (st : StandsIn t l js x v) → x.code.settle ≡ assign_steps st.place W (length all) l.items
  same-code x v st = ap (λ (c : Code). c.settle) st.code

  pub settled-nets : (x : Part) (v : Values) (st : StandsIn t l js x v) (n : Name) → is_kind is_net all n ≡ true → slice_index (part_settled x).kept.nets (st.place n) ≡ (settle W v l.items).net n
  settled-nets x v st n k =
      let e = same-code x v st in
      ap (λ ss. slice_index (ran (word_at x.kept.memories) ss x.kept.nets) (st.place n)) e
      ∙ settle-nets st.place st.places x.kept.memories x.kept.nets v st.small st.rows (subst (AllByRecursion (IsWithin (length x.kept.nets))) e st.room.settle) st.nets n k

  roomy : (c : Code) (nets more : List ℕ) → length more ≡ length nets → HasRoom l c nets → HasRoom l c more
  roomy c nets more e r = record {
    lines = subst (λ k. length (leaf_lines l) ≤ k) (sym e) r.lines;
    settle = subst (λ k. AllByRecursion (IsWithin k) c.settle) (sym e) r.settle;
    next = subst (λ k. AllByRecursion (IsWithin k) c.next) (sym e) r.next;
    moves = subst (λ k. AllByRecursion (IsWithin k) c.moves) (sym e) r.moves;
    inside = subst (λ k. AreInside k c) (sym e) r.inside;
  }

  -- an instance stands as it did when its nets are settled
  pub settled-stands : (x : Part) (v : Values) → StandsIn t l js x v → StandsIn t l js (part_settled x) v
  settled-stands x v st = record {
    place = st.place;
    places = st.places;
    code = st.code;
    room = roomy x.code x.kept.nets (part_settled x).kept.nets (length-ran (word_at x.kept.memories) x.code.settle x.kept.nets) st.room;
    small = st.small;
    nets = λ n k d. settled-nets x v st n k ∙ settle-outside W v l.items n (f.good.free n d);
    rows = st.rows;
  }

  -- an edge, where u is right and has the old state and what the top feeds
  pub edge-stands : (top-lines : List Line) (tops : List ℕ) (top : Name → ℕ) (x : Part) (v u : Values) → AllByRecursion (GoodJoin top-lines l) js → AllByRecursion (λ (j : Join). slice_index tops (t j.net) ≡ top j.net) js
      → StandsIn t l js x v → IsRightIn l u → ((n : Name) → is_kind is_driven all n ≡ false → u.net n ≡ (fed l js top v).net n) → ((n : Name) (i : ℕ) → u.word n i ≡ v.word n i)
      → StandsIn t l js (part_edged tops x) (stepped W u l.items u)
  unfolding edged
  edge-stands top-lines tops top x v u joins tie st right same words =
      record {
        place = s;
        places = st.places;
        code = st.code;
        room = roomy x.code x.kept.nets (part_edged tops x).kept.nets long st.room;
        small = step-small W u right.small l.items u (f.moving.moves u) right.small;
        nets = λ n k d. moved n k;
        rows = stored;
      }
    where
      s : Name → ℕ
      s = st.place

      c : Code
      c = x.code

      ms : List (List ℕ)
      ms = x.kept.memories

      fed-nets : List ℕ
      fed-nets = linked tops c.feeds x.kept.nets

      settled : List ℕ
      settled = ran (word_at ms) c.settle fed-nets

      ready : List ℕ
      ready = ran (word_at ms) c.next settled

      after : List (List ℕ)
      after = stored_in ready c.stores ms

      fed-long : length fed-nets ≡ length x.kept.nets
      fed-long = length-linked tops c.feeds x.kept.nets

      settled-long : length settled ≡ length x.kept.nets
      settled-long = length-ran (word_at ms) c.settle fed-nets ∙ fed-long

      ready-long : length ready ≡ length x.kept.nets
      ready-long = length-ran (word_at ms) c.next settled ∙ settled-long

      long : length (ran (word_at after) c.moves ready) ≡ length x.kept.nets
      long = length-ran (word_at after) c.moves ready ∙ ready-long

      u-rows : Rows all s ms u
      u-rows = record { there = st.rows.there; long = st.rows.long; word = λ n i k h. st.rows.word n i k h ∙ sym (words n i) }

      -- u settles to itself
      settle-self : (n : Name) → (settle W u l.items).net n ≡ u.net n
      settle-self n = sym (settle-only W u u l.items f.good.order right.assigned (λ m i. refl) (λ m k. refl) n)

      fed-shows : (n : Name) → is_kind is_net all n ≡ true → is_kind is_driven all n ≡ false → slice_index fed-nets (s n) ≡ u.net n
      fed-shows n k d =
          ap (λ (q : Code). slice_index (linked tops q.feeds x.kept.nets) (s n)) st.code
          ∙ feeds top-lines l s t st.places tops top js joins tie x.kept.nets st.room.lines n k
          ∙ ap (λ z. if is_input_port (port_named l.ports n) then net_of_join (find (λ (j : Join). bytes_eq n j.port) js) top z else z) (st.nets n k d)
          ∙ sym (same n d)

      settled-shows : ShowsAll all s st.places f.narrow (word_at ms) u right.small u-rows.word (slice_index settled) u
      settled-shows n k =
          let e = same-code x v st in
          ap (λ ss. slice_index (ran (word_at ms) ss fed-nets) (s n)) e
          ∙ settle-nets s st.places ms fed-nets u right.small u-rows
          (subst (AllByRecursion (IsWithin (length fed-nets))) e (subst (λ k. AllByRecursion (IsWithin k) c.settle) (sym fed-long) st.room.settle)) fed-shows n k
          ∙ settle-self n

      next-code : c.next ≡ next_steps s W (length all) l.items
      next-code = ap (λ (q : Code). q.next) st.code

      ready-is : slice_index ready ≡ acted (word_at ms) (next_steps s W (length all) l.items) (slice_index settled)
      ready-is =
          ran-acted (word_at ms) c.next settled (subst (λ k. AllByRecursion (IsWithin k) c.next) (sym settled-long) st.room.next)
          ∙ ap (λ ss. acted (word_at ms) ss (slice_index settled)) next-code

      is-ready : Readied all s st.places f.narrow (word_at ms) u right.small u-rows.word (length all) l.items (slice_index ready)
      is-ready = subst (Readied all s st.places f.narrow (word_at ms) u right.small u-rows.word (length all) l.items) (sym ready-is)
          (readies all s st.places f.narrow (word_at ms) u right.small u-rows.word l.items (length all) (slice_index settled) (omega arith) f.ruled settled-shows)

      ready-shows : ShowsAll all s st.places f.narrow (word_at ms) u right.small u-rows.word (slice_index ready) u
      ready-shows n k =
          ap (λ g. g (s n)) ready-is
          ∙ next-keeps all s st.places f.narrow (word_at ms) u right.small u-rows.word l.items (length all) (slice_index settled) (s n) (low all s st.places n k)
          ∙ settled-shows n k

      move-code : c.moves ≡ move_steps s (length all) l.items
      move-code = ap (λ (q : Code). q.moves) st.code

      moved : (n : Name) → is_kind is_net all n ≡ true → slice_index (ran (word_at after) c.moves ready) (s n) ≡ (stepped W u l.items u).net n
      moved n k =
          ap (λ g. g (s n)) (ran-acted (word_at after) c.moves ready (subst (λ k. AllByRecursion (IsWithin k) c.moves) (sym ready-long) st.room.moves))
          ∙ ap (λ ss. acted (word_at after) ss (slice_index ready) (s n)) move-code
          ∙ moves all s st.places f.narrow (word_at ms) u right.small u-rows.word (word_at after) l.items (length all) (slice_index ready) u (omega arith) f.ruled is-ready ready-shows n k

      store-code : c.stores ≡ stores_of s (length all) l.items
      store-code = ap (λ (q : Code). q.stores) st.code

      stored : Rows all s after (stepped W u l.items u)
      stored = subst (λ z. Rows all s (stored_in ready z ms) (stepped W u l.items u)) (sym store-code)
          (stores all s st.places f.narrow (word_at ms) u right.small u-rows.word l.items (length all) ready u ms f.ruled f.moving.once (λ n j k. refl) is-ready u-rows)
