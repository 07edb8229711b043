-- Links between an instance and the top.
use Rattle.std.proofs.Common.{◌≡◌, ◌≢◌, ℕ, ◌<◌, ◌≤◌, Bool, true, false, ◌&&◌, List, [], ◌∷◌, ◌++◌, length, refl, sym, ◌∙◌, ap, bytes_eq, arith, get_or-set_same, get_or-set_other, length-set}
use Rattle.std.specs.Prelude.{Some, find, if◌then◌else◌, slice_index, slice_set}
use Rattle.std.specs.List.{AllByRecursion}
use Rattle.vl_tree.specs.declared.tree.Port.{Port}
use Rattle.vl_tree.specs.declared.tree.Join.{Join}
use Rattle.vl_tree.specs.Values.{Name, Leaf}
use Rattle.vl_model.specs.Meaning.{Values}
use Rattle.vl_model.specs.Lines.{Line, leaf_lines, kind_passes, way_of, is_net, port_named}
use Rattle.vl_model.specs.Rules.{is_kind, is_output_port, join_drives}
use Rattle.vl_model.specs.Settle.{is_input_port, net_of_join, port_value}
use Rattle.vl_model.proofs.Settling.{one-name, itself}
use Rattle.vl_model.proofs.Ordered.{kind-of, driven-is-net}
use Rattle.vl_model.proofs.Leaves.{leaf-port}
use Rattle.vl_model.proofs.Tops.{GoodJoin}
use Rattle.vl_run.specs.declared.program.Link.{Link}
use Rattle.vl_run.specs.Program.{linked, feeds_of, outs_of}
use Rattle.vl_run.specs.Places.{ArePlaces}

pub length-linked : (from : List ℕ) (ls : List Link) (to : List ℕ) → length (linked from ls to) ≡ length to
length-linked from [] to = refl
length-linked from (l ∷ ls) to = length-set (linked from ls to) l.to (slice_index from l.from) ∙ length-linked from ls to

-- names of nets stand apart
pub apart : (all : List Line) (s : Name → ℕ) → ArePlaces all s → (n k : Name) → is_kind is_net all n ≡ true → is_kind is_net all k ≡ true → bytes_eq k n ≡ false → s k ≢ s n
apart all s places n k a b other same =
    let x = kind-of is_net all n a in
    let y = kind-of is_net all k b in
    let one : k ≡ n = places.apart k n y.0 x.0 y.1 x.1 same in
    let self : bytes_eq k n ≡ true = ap (λ z. bytes_eq z n) one ∙ itself n in
    cc

pub low : (all : List Line) (s : Name → ℕ) → ArePlaces all s → (n : Name) → is_kind is_net all n ≡ true → s n < length all
low all s places n k = let what = kind-of is_net all n k in places.below n what.0 what.1

port-is-net : (l : Leaf) (n : Name) (p : Port) → port_named l.ports n ≡ Some p → is_kind is_net (leaf_lines l) n ≡ true
port-is-net l n p named = ap (kind_passes is_net) (leaf-port l n p named) ∙ way p.output
  where
    way : (b : Bool) → is_net (way_of b) ≡ true
    way true = refl
    way false = refl

module _ (all : List Line) (l : Leaf) (s t : Name → ℕ) (places : ArePlaces (leaf_lines l) s) where
  -- what the input ports take
  pub feeds : (tops : List ℕ) (top : Name → ℕ) (js : List Join) → AllByRecursion (GoodJoin all l) js → AllByRecursion (λ (j : Join). slice_index tops (t j.net) ≡ top j.net) js
      → (nets : List ℕ) → length (leaf_lines l) ≤ length nets → (n : Name) → is_kind is_net (leaf_lines l) n ≡ true
      → slice_index (linked tops (feeds_of l s t js) nets) (s n)
      ≡ (if is_input_port (port_named l.ports n) then net_of_join (find (λ (j : Join). bytes_eq n j.port) js) top (slice_index nets (s n)) else slice_index nets (s n))
  feeds tops top [] g a nets room n k = same (is_input_port (port_named l.ports n))
    where
      same : (b : Bool) → slice_index nets (s n) ≡ (if b then slice_index nets (s n) else slice_index nets (s n))
      same true = refl
      same false = refl
  feeds tops top (j ∷ js) g a nets room n k = go (is_input_port (port_named l.ports j.port)) refl (bytes_eq n j.port) refl (feeds tops top js g.1 a.1 nets room n k)
    where
      rest : List ℕ
      rest = linked tops (feeds_of l s t js) nets

      port-net : is_kind is_net (leaf_lines l) j.port ≡ true
      port-net = port-is-net l j.port g.0.port g.0.named

      Goal : Bool → Type 0
      Goal b = slice_index (linked tops ((if b then record { from = t j.net; to = s j.port } ∷ [] else []) ++ feeds_of l s t js) nets) (s n)
          ≡ (if is_input_port (port_named l.ports n) then net_of_join (if bytes_eq n j.port then Some j else find (λ (j : Join). bytes_eq n j.port) js) top (slice_index nets (s n)) else slice_index nets (s n))

      go : (b : Bool) → is_input_port (port_named l.ports j.port) ≡ b → (same : Bool) → bytes_eq n j.port ≡ same
          → slice_index rest (s n) ≡ (if is_input_port (port_named l.ports n) then net_of_join (find (λ (j : Join). bytes_eq n j.port) js) top (slice_index nets (s n)) else slice_index nets (s n))
          → Goal (is_input_port (port_named l.ports j.port))
      go true is true same later =
          let one : n ≡ j.port = one-name n j.port same in
          let input : is_input_port (port_named l.ports n) ≡ true = ap (λ z. is_input_port (port_named l.ports z)) one ∙ is in
          let long = length-linked tops (feeds_of l s t js) nets in
          let at = low (leaf_lines l) s places j.port port-net in
          rw (is, same, input) (ap (λ z. slice_index (slice_set (linked tops (feeds_of l s t js) nets) (s j.port) (slice_index tops (t j.net))) (s z)) one
          ∙ get_or-set_same (linked tops (feeds_of l s t js) nets) (s j.port) (slice_index tops (t j.net)) 0 (omega arith) ∙ a.0)
      go true is false other later =
          rw (is, other) (get_or-set_other (linked tops (feeds_of l s t js) nets) (s j.port) (s n) (slice_index tops (t j.net)) 0 (apart (leaf_lines l) s places j.port n port-net k other) ∙ later)
      go false is true same later =
          let one : n ≡ j.port = one-name n j.port same in
          let no-input : is_input_port (port_named l.ports n) ≡ false = ap (λ z. is_input_port (port_named l.ports z)) one ∙ is in
          rw (is, no-input) (rw no-input at later)
      go false is false other later = rw (is, other) later

  -- what the top's nets take
  pub outs : (top-places : ArePlaces all t) (v : Values) (js : List Join) → AllByRecursion (GoodJoin all l) js → (nets : List ℕ) → ((n : Name) → is_kind is_net (leaf_lines l) n ≡ true → slice_index nets (s n) ≡ v.net n)
      → (tops : List ℕ) → length all ≤ length tops → (n : Name) → is_kind is_net all n ≡ true
      → slice_index (linked nets (outs_of l s t js) tops) (t n) ≡ port_value (find (join_drives l n) js) v (slice_index tops (t n))
  outs top-places v [] g nets shows tops room n k = refl
  outs top-places v (j ∷ js) g nets shows tops room n k = go (is_output_port (port_named l.ports j.port)) refl (bytes_eq n j.net) refl (outs top-places v js g.1 nets shows tops room n k)
    where
      net-known : is_output_port (port_named l.ports j.port) ≡ true → is_kind is_net all j.net ≡ true
      net-known is = driven-is-net all j.net (g.0.driven (sym (ap is_output_port g.0.named) ∙ is))

      Goal : Bool → Type 0
      Goal b = slice_index (linked nets ((if b then record { from = s j.port; to = t j.net } ∷ [] else []) ++ outs_of l s t js) tops) (t n)
          ≡ port_value (if bytes_eq n j.net && b then Some j else find (join_drives l n) js) v (slice_index tops (t n))

      go : (b : Bool) → is_output_port (port_named l.ports j.port) ≡ b → (same : Bool) → bytes_eq n j.net ≡ same
          → slice_index (linked nets (outs_of l s t js) tops) (t n) ≡ port_value (find (join_drives l n) js) v (slice_index tops (t n)) → Goal (is_output_port (port_named l.ports j.port))
      go true is true same later =
          let one : n ≡ j.net = one-name n j.net same in
          let long = length-linked nets (outs_of l s t js) tops in
          let at = low all t top-places j.net (net-known is) in
          rw (is, same) (ap (λ z. slice_index (slice_set (linked nets (outs_of l s t js) tops) (t j.net) (slice_index nets (s j.port))) (t z)) one
          ∙ get_or-set_same (linked nets (outs_of l s t js) tops) (t j.net) (slice_index nets (s j.port)) 0 (omega arith) ∙ shows j.port (port-is-net l j.port g.0.port g.0.named))
      go true is false other later =
          rw (is, other) (get_or-set_other (linked nets (outs_of l s t js) tops) (t j.net) (t n) (slice_index nets (s j.port)) 0 (apart all t top-places j.net n (net-known is) k other) ∙ later)
      go false is true same later = rw (is, same) later
      go false is false other later = rw (is, other) later
