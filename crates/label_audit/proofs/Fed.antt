-- Rows by line of a leaf that is fed by the top, of the top that a leaf shows, and of a leaf whose inputs are blank.
use Rattle.std.proofs.Common.{◌≡◌, ◌≢◌, ℕ, ◌+◌, ◌<◌, Bool, true, false, ◌&&◌, List, [], ◌∷◌, ◌++◌, length, refl, sym, ◌∙◌, ap, subst, bytes_eq, arith}
use Rattle.std.specs.Prelude.{Option, Some, None, find, get_or, slice_set, if◌then◌else◌}
use Rattle.std.specs.List.{AllByRecursion}
use Rattle.std.proofs.lemmas.Bool.{both_ways, false≢true}
use Rattle.std.proofs.lemmas.Option.{none-some}
use Rattle.std.proofs.lemmas.List.{get_or-set_same, get_or-set_other, length-set}
use Rattle.vl_tree.specs.declared.tree.Port.{Port}
use Rattle.vl_tree.specs.declared.tree.Join.{Join}
use Rattle.vl_tree.specs.Values.{Name, Item, wire, reg, mem, assign, clocked, store, Leaf}
use Rattle.vl_model.specs.declared.kind.Kind.{Kind}
use Rattle.vl_model.specs.Lines.{Line, leaf_lines, lookup, Declared, kind_passes, way_of, is_net, is_driven, port_named}
use Rattle.vl_model.specs.Rules.{is_kind, is_output_port, join_drives}
use Rattle.vl_model.specs.Settle.{is_input_port}
use Rattle.vl_model.proofs.Settling.{one-name, itself}
use Rattle.vl_model.proofs.Ordered.{kind-of, driven-is-net}
use Rattle.vl_model.proofs.Leaves.{leaf-port, named-cases}
use Rattle.vl_model.proofs.Tops.{GoodJoin}
use Rattle.vl_run.specs.Places.{ArePlaces}
use Rattle.label_model.specs.Labels.{Label, known}
use Rattle.label_model.specs.Driven.{of_port, of_net}
use Rattle.label_audit.specs.Rows.{first_bits, row_of, rows_by}
use Rattle.label_audit.specs.Instances.{assigned_row, each_item, blank_row, each_port, shown_row, fed_row, each_join}

-- ---- how many rows there are

pub length-assigned : (s : Name → ℕ) (is : List Item) (rows : List (List Label)) → length (each_item (assigned_row s) is rows) ≡ length rows
length-assigned s [] rows = refl
length-assigned s (assign n e ∷ is) rows = length-assigned s is (slice_set rows (s n) (row_of (rows_by s rows) e)) ∙ length-set rows (s n) (row_of (rows_by s rows) e)
length-assigned s (wire h n ∷ is) rows = length-assigned s is rows
length-assigned s (reg h n ∷ is) rows = length-assigned s is rows
length-assigned s (mem h n last ∷ is) rows = length-assigned s is rows
length-assigned s (clocked n k e ∷ is) rows = length-assigned s is rows
length-assigned s (store c n i e ∷ is) rows = length-assigned s is rows

pub length-blank : (s : Name → ℕ) (ps : List Port) (rows : List (List Label)) → length (each_port (blank_row s) ps rows) ≡ length rows
length-blank s [] rows = refl
length-blank s (p ∷ ps) rows = go (length-blank s ps rows) p.output
  where
    rest : List (List Label)
    rest = each_port (blank_row s) ps rows

    go : length rest ≡ length rows → (b : Bool) → length (if b then rest else slice_set rest (s p.name) (first_bits (λ i. known false) (p.high + 1))) ≡ length rows
    go later true = later
    go later false = length-set rest (s p.name) (first_bits (λ i. known false) (p.high + 1)) ∙ later

pub length-shown : (l : Leaf) (s t : Name → ℕ) (rows : List (List Label)) (js : List Join) (tops : List (List Label)) → length (each_join (shown_row l s t rows) js tops) ≡ length tops
length-shown l s t rows [] tops = refl
length-shown l s t rows (j ∷ js) tops = go (length-shown l s t rows js tops) (is_output_port (port_named l.ports j.port))
  where
    rest : List (List Label)
    rest = each_join (shown_row l s t rows) js tops

    go : length rest ≡ length tops → (b : Bool) → length (if b then slice_set rest (t j.net) (rows_by s rows j.port) else rest) ≡ length tops
    go later true = length-set rest (t j.net) (rows_by s rows j.port) ∙ later
    go later false = later

pub length-fed : (l : Leaf) (s t : Name → ℕ) (tops : List (List Label)) (js : List Join) (rows : List (List Label)) → length (each_join (fed_row l s t tops) js rows) ≡ length rows
length-fed l s t tops [] rows = refl
length-fed l s t tops (j ∷ js) rows = go (length-fed l s t tops js rows) (is_output_port (port_named l.ports j.port))
  where
    rest : List (List Label)
    rest = each_join (fed_row l s t tops) js rows

    go : length rest ≡ length rows → (b : Bool) → length (if b then rest else slice_set rest (s j.port) (rows_by t tops j.net)) ≡ length rows
    go later true = later
    go later false = length-set rest (s j.port) (rows_by t tops j.net) ∙ later

-- ---- names that stand apart

pub places-apart : (all : List Line) (s : Name → ℕ) → ArePlaces all s → (one two : Kind → Bool) (k a : Name) → is_kind one all k ≡ true → is_kind two all a ≡ true → bytes_eq k a ≡ false → s k ≢ s a
places-apart all s places one two k a b c other same =
    let x = kind-of one all k b in
    let y = kind-of two all a c in
    let equal : k ≡ a = places.apart k a x.0 y.0 x.1 y.1 same in
    false≢true (sym other ∙ ap (λ z. bytes_eq z a) equal ∙ itself a)

pub place-below : (all : List Line) (s : Name → ℕ) → ArePlaces all s → (one : Kind → Bool) (k : Name) → is_kind one all k ≡ true → s k < length all
place-below all s places one k b = let x = kind-of one all k b in places.below k x.0 x.1

pub port-net : (l : Leaf) (n : Name) (p : Port) → port_named l.ports n ≡ Some p → is_kind is_net (leaf_lines l) n ≡ true
port-net l n p named = ap (kind_passes is_net) (leaf-port l n p named) ∙ way p.output
  where
    way : (b : Bool) → is_net (way_of b) ≡ true
    way true = refl
    way false = refl

-- ---- what the top's nets take from a leaf

module _ (all : List Line) (l : Leaf) (s t : Name → ℕ) (top-places : ArePlaces all t) (rows : List (List Label)) (out : Name → ℕ → Label) where
  -- an output port's row has the labels of out, as many as the net has bits
  abbrev pub Shows : (Name → ℕ) → Join → Type 0
  Shows wide j = is_output_port (port_named l.ports j.port) ≡ true → rows_by s rows j.port ≡ first_bits (out j.port) (wide j.net)

  pub shown-is : (wide : Name → ℕ) (js : List Join) → AllByRecursion (GoodJoin all l) js → AllByRecursion (Shows wide) js → (tops : List (List Label)) → length tops ≡ length all → (n : Name) → is_kind is_net all n ≡ true
      → (y : ℕ → Label) → (find (join_drives l n) js ≡ None → rows_by t tops n ≡ first_bits y (wide n))
      → rows_by t (each_join (shown_row l s t rows) js tops) n ≡ first_bits (of_port (find (join_drives l n) js) out y) (wide n)
  shown-is wide [] g a tops long n k y base = base refl
  shown-is wide (j ∷ js) g a tops long n k y base = go (λ h. shown-is wide js g.1 a.1 tops long n k y h) (is_output_port (port_named l.ports j.port)) refl (bytes_eq n j.net) refl
    where
      rest : List (List Label)
      rest = each_join (shown_row l s t rows) js tops

      x : List Label
      x = rows_by s rows j.port

      Rest : Type 0
      Rest = rows_by t rest n ≡ first_bits (of_port (find (join_drives l n) js) out y) (wide n)

      Again : Type 0
      Again = (find (join_drives l n) js ≡ None → rows_by t tops n ≡ first_bits y (wide n)) → Rest

      later : Again → (bytes_eq n j.net && is_output_port (port_named l.ports j.port)) ≡ false → Rest
      later again other = again (λ none. base (ap (λ b. if b then Some j else find (join_drives l n) js) other ∙ none))

      net-known : is_output_port (port_named l.ports j.port) ≡ true → is_kind is_net all j.net ≡ true
      net-known is = driven-is-net all j.net (g.0.driven (sym (ap is_output_port g.0.named) ∙ is))

      Goal : Bool → Bool → Type 0
      Goal b same = rows_by t (if b then slice_set rest (t j.net) x else rest) n ≡ first_bits (of_port (if same && b then Some j else find (join_drives l n) js) out y) (wide n)

      go : Again → (b : Bool) → is_output_port (port_named l.ports j.port) ≡ b → (same : Bool) → bytes_eq n j.net ≡ same → Goal (is_output_port (port_named l.ports j.port)) (bytes_eq n j.net)
      go again true is true same =
          let one : n ≡ j.net = one-name n j.net same in
          let size = length-shown l s t rows js tops in
          let at = place-below all t top-places is_net j.net (net-known is) in
          subst (λ b. Goal b (bytes_eq n j.net)) (sym is) (subst (Goal true) (sym same)
          (ap (λ z. rows_by t (slice_set rest (t j.net) x) z) one ∙ get_or-set_same rest (t j.net) x [] (omega (arith, size, long, at)) ∙ a.0 is ∙ ap (λ z. first_bits (out j.port) (wide z)) (sym one)))
      go again true is false other =
          subst (λ b. Goal b (bytes_eq n j.net)) (sym is) (subst (Goal true) (sym other)
          (get_or-set_other rest (t j.net) (t n) x [] (places-apart all t top-places is_net is_net n j.net k (net-known is) other) ∙ later again (ap (λ b. b && is_output_port (port_named l.ports j.port)) other)))
      go again false is true same =
          subst (λ b. Goal b (bytes_eq n j.net)) (sym is) (subst (Goal false) (sym same) (later again (ap (λ b. b && is_output_port (port_named l.ports j.port)) same ∙ is)))
      go again false is false other =
          subst (λ b. Goal b (bytes_eq n j.net)) (sym is) (subst (Goal false) (sym other) (later again (ap (λ b. b && is_output_port (port_named l.ports j.port)) other)))

-- ---- what input ports take from the top

module _ (all : List Line) (l : Leaf) (s t : Name → ℕ) (places : ArePlaces (leaf_lines l) s) (tops : List (List Label)) where
  -- a name that is no input port keeps its row
  pub fed-other : (one : Kind → Bool) (js : List Join) → AllByRecursion (GoodJoin all l) js → (rows : List (List Label)) (n : Name) → is_kind one (leaf_lines l) n ≡ true → is_input_port (port_named l.ports n) ≡ false
      → rows_by s (each_join (fed_row l s t tops) js rows) n ≡ rows_by s rows n
  fed-other one [] g rows n k f = refl
  fed-other one (j ∷ js) g rows n k f = go (fed-other one js g.1 rows n k f) (is_output_port (port_named l.ports j.port)) refl
    where
      rest : List (List Label)
      rest = each_join (fed_row l s t tops) js rows

      input : is_output_port (port_named l.ports j.port) ≡ false → is_input_port (port_named l.ports j.port) ≡ true
      input is = ap is_input_port g.0.named ∙ ap (λ b. if b then false else true) (sym (ap is_output_port g.0.named) ∙ is)

      other : is_output_port (port_named l.ports j.port) ≡ false → bytes_eq n j.port ≡ false
      other is = pick (bytes_eq n j.port) refl
        where
          pick : (b : Bool) → bytes_eq n j.port ≡ b → bytes_eq n j.port ≡ false
          pick true same = absurd (both_ways (is_input_port (port_named l.ports n)) f (ap (λ z. is_input_port (port_named l.ports z)) (one-name n j.port same) ∙ input is))
          pick false apart = apart

      go : rows_by s rest n ≡ rows_by s rows n → (b : Bool) → is_output_port (port_named l.ports j.port) ≡ b → rows_by s (if is_output_port (port_named l.ports j.port) then rest else slice_set rest (s j.port) (rows_by t tops j.net)) n ≡ rows_by s rows n
      go later true is = ap (λ b. rows_by s (if b then rest else slice_set rest (s j.port) (rows_by t tops j.net)) n) is ∙ later
      go later false is =
          ap (λ b. rows_by s (if b then rest else slice_set rest (s j.port) (rows_by t tops j.net)) n) is
          ∙ get_or-set_other rest (s j.port) (s n) (rows_by t tops j.net) [] (places-apart (leaf_lines l) s places one is_net n j.port k (port-net l j.port g.0.port g.0.named) (other is)) ∙ later

  -- an input port has the row of the net that is joined to it
  pub fed-here : (js : List Join) → AllByRecursion (GoodJoin all l) js → (rows : List (List Label)) → length rows ≡ length (leaf_lines l) → (n : Name) (p : Port) → port_named l.ports n ≡ Some p → p.output ≡ false
      → (j : Join) → find (λ (k : Join). bytes_eq n k.port) js ≡ Some j → rows_by s (each_join (fed_row l s t tops) js rows) n ≡ rows_by t tops j.net
  fed-here [] g rows long n p named way j e = absurd (none-some j e)
  fed-here (i ∷ js) g rows long n p named way j e = go (λ h. fed-here js g.1 rows long n p named way j h) (bytes_eq n i.port) refl
    where
      rest : List (List Label)
      rest = each_join (fed_row l s t tops) js rows

      x : List Label
      x = rows_by t tops i.net

      Here : Bool → List (List Label)
      Here b = if b then rest else slice_set rest (s i.port) x

      size : length rest ≡ length (leaf_lines l)
      size = length-fed l s t tops js rows ∙ long

      Again : Type 0
      Again = find (λ (k : Join). bytes_eq n k.port) js ≡ Some j → rows_by s rest n ≡ rows_by t tops j.net

      go : Again → (b : Bool) → bytes_eq n i.port ≡ b → rows_by s (Here (is_output_port (port_named l.ports i.port))) n ≡ rows_by t tops j.net
      go again true same =
          let one : n ≡ i.port = one-name n i.port same in
          let first : i ≡ j = cc (subst (λ b. (if b then Some i else find (λ (k : Join). bytes_eq n k.port) js) ≡ Some j) same e) in
          let input : is_output_port (port_named l.ports i.port) ≡ false = ap (λ z. is_output_port (port_named l.ports z)) (sym one) ∙ ap is_output_port named ∙ way in
          let at = place-below (leaf_lines l) s places is_net i.port (port-net l i.port g.0.port g.0.named) in
          ap (λ b. rows_by s (Here b) n) input ∙ ap (λ z. rows_by s (slice_set rest (s i.port) x) z) one ∙ get_or-set_same rest (s i.port) x [] (omega (arith, size, at)) ∙ ap (λ (z : Join). rows_by t tops z.net) first
      go again false other = way-of (is_output_port (port_named l.ports i.port))
        where
          later : rows_by s rest n ≡ rows_by t tops j.net
          later = again (subst (λ b. (if b then Some i else find (λ (k : Join). bytes_eq n k.port) js) ≡ Some j) other e)

          way-of : (b : Bool) → rows_by s (Here b) n ≡ rows_by t tops j.net
          way-of true = later
          way-of false = get_or-set_other rest (s i.port) (s n) x [] (places-apart (leaf_lines l) s places is_net is_net n i.port (port-net l n p named) (port-net l i.port g.0.port g.0.named) other) ∙ later

-- ---- input ports without a label

module _ (all : List Line) (s : Name → ℕ) (places : ArePlaces all s) where
  -- each port is declared
  abbrev pub IsNet : Port → Type 0
  IsNet p = is_kind is_net all p.name ≡ true

  none-here : (p : Port) (ps : List Port) (n : Name) → port_named (p ∷ ps) n ≡ None → (bytes_eq n p.name ≡ false) × (port_named ps n ≡ None)
  none-here p ps n e = go (bytes_eq n p.name) refl
    where
      go : (b : Bool) → bytes_eq n p.name ≡ b → (bytes_eq n p.name ≡ false) × (port_named ps n ≡ None)
      go true is = absurd (none-some p (sym (subst (λ b. (if b then Some p else port_named ps n) ≡ None) is e)))
      go false is = (is, subst (λ b. (if b then Some p else port_named ps n) ≡ None) is e)

  -- a name that is no port keeps its row
  pub blank-other : (one : Kind → Bool) (ps : List Port) → AllByRecursion IsNet ps → (rows : List (List Label)) (n : Name) → is_kind one all n ≡ true → port_named ps n ≡ None
      → rows_by s (each_port (blank_row s) ps rows) n ≡ rows_by s rows n
  blank-other one [] d rows n k f = refl
  blank-other one (p ∷ ps) d rows n k f = go (λ h. blank-other one ps d.1 rows n k h) p.output
    where
      rest : List (List Label)
      rest = each_port (blank_row s) ps rows

      x : List Label
      x = first_bits (λ i. known false) (p.high + 1)

      none : (bytes_eq n p.name ≡ false) × (port_named ps n ≡ None)
      none = none-here p ps n f

      go : (port_named ps n ≡ None → rows_by s rest n ≡ rows_by s rows n) → (b : Bool) → rows_by s (if b then rest else slice_set rest (s p.name) x) n ≡ rows_by s rows n
      go later true = later none.1
      go later false = get_or-set_other rest (s p.name) (s n) x [] (places-apart all s places one is_net n p.name k d.0 none.0) ∙ later none.1

  -- an input port has as many bits as it is wide
  pub blank-here : (ps : List Port) → AllByRecursion IsNet ps → (rows : List (List Label)) → length rows ≡ length all → (n : Name) → is_kind is_net all n ≡ true → (q : Port) → port_named ps n ≡ Some q → q.output ≡ false
      → rows_by s (each_port (blank_row s) ps rows) n ≡ first_bits (λ i. known false) (q.high + 1)
  blank-here [] d rows long n k q e out = absurd (none-some q e)
  blank-here (p ∷ ps) d rows long n k q e out = named-cases p ps n q e here (other (λ h. blank-here ps d.1 rows long n k q h out))
    where
      rest : List (List Label)
      rest = each_port (blank_row s) ps rows

      x : List Label
      x = first_bits (λ i. known false) (p.high + 1)

      Goal : Bool → Type 0
      Goal b = rows_by s (if b then rest else slice_set rest (s p.name) x) n ≡ first_bits (λ i. known false) (q.high + 1)

      here : bytes_eq n p.name ≡ true → p ≡ q → Goal p.output
      here same one =
          let size = length-blank s ps rows in
          let at = place-below all s places is_net p.name d.0 in
          subst Goal (sym (ap (λ (r : Port). r.output) one ∙ out))
          (ap (λ z. rows_by s (slice_set rest (s p.name) x) z) (one-name n p.name same) ∙ get_or-set_same rest (s p.name) x [] (omega (arith, size, long, at)) ∙ ap (λ (r : Port). first_bits (λ i. known false) (r.high + 1)) one)

      other : (port_named ps n ≡ Some q → rows_by s rest n ≡ first_bits (λ i. known false) (q.high + 1)) → bytes_eq n p.name ≡ false → port_named ps n ≡ Some q → Goal p.output
      other again apart later = go p.output
        where
          go : (b : Bool) → Goal b
          go true = again later
          go false = get_or-set_other rest (s p.name) (s n) x [] (places-apart all s places is_net is_net n p.name k d.0 apart) ∙ again later
