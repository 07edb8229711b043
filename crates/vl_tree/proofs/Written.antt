-- The written text of a design is its tokens.
use Rattle.std.proofs.Common.{ℕ, ◌<◌, ◌^◌, true, false, List, [], ◌∷◌, ◌++◌, refl, sym, ap, subst, ◌∙◌, append_assoc, arith}
use Rattle.std.specs.Prelude.{codes}
use Rattle.std.proofs.lemmas.List.{append-nil}
use Rattle.std.proofs.Math.Nat.{pow-le-pow_right}
use Rattle.vl_tree.specs.declared.tree.Const.{Const}
use Rattle.vl_tree.specs.declared.tree.Op.{Op}
use Rattle.vl_tree.specs.declared.tree.Op.TheVariants.{Add, Sub, And, Or, Xor, Equal, Less}
use Rattle.vl_tree.specs.declared.tree.Port.{Port}
use Rattle.vl_tree.specs.declared.tree.Join.{Join}
use Rattle.vl_tree.specs.declared.tree.Top.{Top}
use Rattle.vl_tree.specs.declared.tree.TopItem.{TopItem}
use Rattle.vl_tree.specs.declared.tree.TopItem.TheVariants.{Wire, Instance}
use Rattle.vl_tree.specs.Values as values
use Rattle.vl_tree.specs.Values.{Name, Expr, Exprs, net, number, bit, part, word, not, two, choose, cat, no_parts, parts, Item, wire, reg, mem, assign, clocked, store, Design}
use Rattle.vl_tree.specs.Tokens.{Token, mark, name, plain, piece_at, tokens_behind, unread_behind, unread, tokens_of, IsToken, AreTokens}
use Rattle.vl_tree.specs.Grammar.{marks, each, op_mark, const_token, expr_tokens, more_tokens, range_tokens, item_tokens, way_mark, port_tokens, head_tokens, leaf_tokens, join_tokens, top_item_tokens, top_tokens, design_tokens}
use Rattle.vl_tree.specs.Spells.{text_of, Spells, IsPlain}
use Rattle.vl_tree.specs.Layout.{each_text, op_text, const_text, expr_text, more_text, ranged_text, item_text, way_text, port_text, head_text, leaf_text, join_text, top_item_text, top_text, design_text}
use Rattle.vl_tree.proofs.Forms.{right_front, right_rest}
use Rattle.vl_tree.proofs.Says.{Says, word_says, Any, Open, Starts, any_then, open_then, loosen, name_says, plain_says, sized_says}

-- ---- fixed texts

lit_plus : Says Any (codes " + ") (marks (codes "+"))
unfolding tokens_behind unread_behind piece_at
lit_plus = record { clean = refl; reads = λ rest u. refl; whole = λ rest u. refl }

lit_minus : Says Any (codes " - ") (marks (codes "-"))
unfolding tokens_behind unread_behind piece_at
lit_minus = record { clean = refl; reads = λ rest u. refl; whole = λ rest u. refl }

lit_and : Says Any (codes " & ") (marks (codes "&"))
unfolding tokens_behind unread_behind piece_at
lit_and = record { clean = refl; reads = λ rest u. refl; whole = λ rest u. refl }

lit_or : Says Any (codes " | ") (marks (codes "|"))
unfolding tokens_behind unread_behind piece_at
lit_or = record { clean = refl; reads = λ rest u. refl; whole = λ rest u. refl }

lit_xor : Says Any (codes " ^ ") (marks (codes "^"))
unfolding tokens_behind unread_behind piece_at
lit_xor = record { clean = refl; reads = λ rest u. refl; whole = λ rest u. refl }

lit_equal : Says Any (codes " == ") (marks (codes "=="))
unfolding tokens_behind unread_behind piece_at
lit_equal = record { clean = refl; reads = λ rest u. refl; whole = λ rest u. refl }

lit_less : Says Any (codes " < ") (marks (codes "<"))
unfolding tokens_behind unread_behind piece_at
lit_less = record { clean = refl; reads = λ rest u. refl; whole = λ rest u. refl }

lit_bracket : Says Any (codes "[") (marks (codes "["))
unfolding tokens_behind unread_behind piece_at
lit_bracket = record { clean = refl; reads = λ rest u. refl; whole = λ rest u. refl }

lit_close : Says Any (codes "]") (marks (codes "]"))
unfolding tokens_behind unread_behind piece_at
lit_close = record { clean = refl; reads = λ rest u. refl; whole = λ rest u. refl }

lit_colon : Says Any (codes ":") (marks (codes ":"))
unfolding tokens_behind unread_behind piece_at
lit_colon = record { clean = refl; reads = λ rest u. refl; whole = λ rest u. refl }

lit_tilde : Says Any (codes "(~") (marks (codes "( ~"))
unfolding tokens_behind unread_behind piece_at
lit_tilde = record { clean = refl; reads = λ rest u. refl; whole = λ rest u. refl }

lit_paren : Says Any (codes "(") (marks (codes "("))
unfolding tokens_behind unread_behind piece_at
lit_paren = record { clean = refl; reads = λ rest u. refl; whole = λ rest u. refl }

lit_unparen : Says Any (codes ")") (marks (codes ")"))
unfolding tokens_behind unread_behind piece_at
lit_unparen = record { clean = refl; reads = λ rest u. refl; whole = λ rest u. refl }

lit_which : Says Any (codes " ? ") (marks (codes "?"))
unfolding tokens_behind unread_behind piece_at
lit_which = record { clean = refl; reads = λ rest u. refl; whole = λ rest u. refl }

lit_other : Says Any (codes " : ") (marks (codes ":"))
unfolding tokens_behind unread_behind piece_at
lit_other = record { clean = refl; reads = λ rest u. refl; whole = λ rest u. refl }

lit_brace : Says Any (codes "{") (marks (codes "{"))
unfolding tokens_behind unread_behind piece_at
lit_brace = record { clean = refl; reads = λ rest u. refl; whole = λ rest u. refl }

lit_unbrace : Says Any (codes "}") (marks (codes "}"))
unfolding tokens_behind unread_behind piece_at
lit_unbrace = record { clean = refl; reads = λ rest u. refl; whole = λ rest u. refl }

lit_comma : Says Any (codes ", ") (marks (codes ","))
unfolding tokens_behind unread_behind piece_at
lit_comma = record { clean = refl; reads = λ rest u. refl; whole = λ rest u. refl }

lit_wire : Says Any (codes "  wire ") (marks (codes "wire"))
unfolding tokens_behind unread_behind piece_at
lit_wire = record { clean = refl; reads = λ rest u. refl; whole = λ rest u. refl }

lit_reg : Says Any (codes "  reg ") (marks (codes "reg"))
unfolding tokens_behind unread_behind piece_at
lit_reg = record { clean = refl; reads = λ rest u. refl; whole = λ rest u. refl }

lit_semi : Says Any (codes ";\n") (marks (codes ";"))
unfolding tokens_behind unread_behind piece_at
lit_semi = record { clean = refl; reads = λ rest u. refl; whole = λ rest u. refl }

lit_to_last : Says Any (codes "];\n") (marks (codes "] ;"))
unfolding tokens_behind unread_behind piece_at
lit_to_last = record { clean = refl; reads = λ rest u. refl; whole = λ rest u. refl }

lit_assign : Says Any (codes "  assign ") (marks (codes "assign"))
unfolding tokens_behind unread_behind piece_at
lit_assign = record { clean = refl; reads = λ rest u. refl; whole = λ rest u. refl }

lit_is : Says Any (codes " = ") (marks (codes "="))
unfolding tokens_behind unread_behind piece_at
lit_is = record { clean = refl; reads = λ rest u. refl; whole = λ rest u. refl }

lit_always_rst : Says Any (codes "  always @(posedge clk) if (rst) ") (marks (codes "always @ ( posedge clk ) if ( rst )"))
unfolding tokens_behind unread_behind piece_at
lit_always_rst = record { clean = refl; reads = λ rest u. refl; whole = λ rest u. refl }

lit_gets : Says Any (codes " <= ") (marks (codes "<="))
unfolding tokens_behind unread_behind piece_at
lit_gets = record { clean = refl; reads = λ rest u. refl; whole = λ rest u. refl }

lit_or_else : Says Any (codes "; else ") (marks (codes "; else"))
unfolding tokens_behind unread_behind piece_at
lit_or_else = record { clean = refl; reads = λ rest u. refl; whole = λ rest u. refl }

lit_always : Says Any (codes "  always @(posedge clk) if (") (marks (codes "always @ ( posedge clk ) if ("))
unfolding tokens_behind unread_behind piece_at
lit_always = record { clean = refl; reads = λ rest u. refl; whole = λ rest u. refl }

lit_then : Says Any (codes ") ") (marks (codes ")"))
unfolding tokens_behind unread_behind piece_at
lit_then = record { clean = refl; reads = λ rest u. refl; whole = λ rest u. refl }

lit_at_gets : Says Any (codes "] <= ") (marks (codes "] <="))
unfolding tokens_behind unread_behind piece_at
lit_at_gets = record { clean = refl; reads = λ rest u. refl; whole = λ rest u. refl }

lit_head_end : Says Any (codes "\n);\n") (marks (codes ") ;"))
unfolding tokens_behind unread_behind piece_at
lit_head_end = record { clean = refl; reads = λ rest u. refl; whole = λ rest u. refl }

lit_module : Says Any (codes "module ") (marks (codes "module"))
unfolding tokens_behind unread_behind piece_at
lit_module = record { clean = refl; reads = λ rest u. refl; whole = λ rest u. refl }

lit_end : Says Any (codes "endmodule\n") (marks (codes "endmodule"))
unfolding tokens_behind unread_behind piece_at
lit_end = record { clean = refl; reads = λ rest u. refl; whole = λ rest u. refl }

lit_join : Says Any (codes ",\n    .") (marks (codes ", ."))
unfolding tokens_behind unread_behind piece_at
lit_join = record { clean = refl; reads = λ rest u. refl; whole = λ rest u. refl }

lit_two_spaces : Says Any (codes "  ") []
unfolding tokens_behind unread_behind piece_at
lit_two_spaces = record { clean = refl; reads = λ rest u. refl; whole = λ rest u. refl }

lit_space : Says Any (codes " ") []
unfolding tokens_behind unread_behind piece_at
lit_space = record { clean = refl; reads = λ rest u. refl; whole = λ rest u. refl }

lit_joins_end : Says Any (codes "\n  );\n") (marks (codes ") ;"))
unfolding tokens_behind unread_behind piece_at
lit_joins_end = record { clean = refl; reads = λ rest u. refl; whole = λ rest u. refl }

lit_range : Says Any (codes ":0] ") (mark (codes ":") ∷ plain 0 ∷ mark (codes "]") ∷ [])
unfolding tokens_behind unread_behind piece_at
lit_range = record { clean = refl; reads = λ rest u. refl; whole = λ rest u. refl }

lit_zero : Says Any (codes " [0:") (mark (codes "[") ∷ plain 0 ∷ mark (codes ":") ∷ [])
unfolding tokens_behind unread_behind piece_at
lit_zero = record { clean = refl; reads = λ rest u. refl; whole = λ rest u. refl }

lit_clocks : Says Any (codes " (\n  input wire clk,\n  input wire ") (marks (codes "( input wire clk , input wire"))
unfolding tokens_behind unread_behind piece_at
lit_clocks = record { clean = refl; reads = λ rest u. refl; whole = λ rest u. refl }

lit_head : Says Open (codes " (\n  input wire clk,\n  input wire rst") (marks (codes "( input wire clk , input wire rst"))
lit_head = any_then lit_clocks (word_says 114 (codes "st") refl refl refl refl)

lit_noc : Says Open (codes "module noc") (marks (codes "module noc"))
lit_noc = any_then lit_module (word_says 110 (codes "oc") refl refl refl refl)

lit_instance : Says Any (codes " (\n    .clk(clk),\n    .rst(rst)") (marks (codes "( . clk ( clk ) , . rst ( rst )"))
unfolding tokens_behind unread_behind piece_at
lit_instance = record { clean = refl; reads = λ rest u. refl; whole = λ rest u. refl }

lit_output : Says Any (codes ",\n  output wire ") (marks (codes ", output wire"))
unfolding tokens_behind unread_behind piece_at
lit_output = record { clean = refl; reads = λ rest u. refl; whole = λ rest u. refl }

lit_input : Says Any (codes ",\n  input wire ") (marks (codes ", input wire"))
unfolding tokens_behind unread_behind piece_at
lit_input = record { clean = refl; reads = λ rest u. refl; whole = λ rest u. refl }

-- ---- expressions

op_says : (op : Op) → Says Any (op_text op) (op_mark op ∷ [])
op_says Add = lit_plus
op_says Sub = lit_minus
op_says And = lit_and
op_says Or = lit_or
op_says Xor = lit_xor
op_says Equal = lit_equal
op_says Less = lit_less

op_starts : (op : Op) (bs : List ℕ) → Starts (op_text op ++ bs)
op_starts Add bs = refl
op_starts Sub bs = refl
op_starts And bs = refl
op_starts Or bs = refl
op_starts Xor bs = refl
op_starts Equal bs = refl
op_starts Less bs = refl

const_says : (k : Const) → IsToken (const_token k) → Says Open (const_text k) (const_token k ∷ [])
const_says k right =
    let two : 0 < 2 = omega arith in
    let wide : k.value < 2 ^ 64 = omega (arith, right.2, pow-le-pow_right two right.1) in
    sized_says k.width k.value right.0 right.1 right.2 wide

lit_empty : Says Any (codes "{}") (marks (codes "{ }"))
unfolding tokens_behind unread_behind piece_at
lit_empty = record { clean = refl; reads = λ rest u. refl; whole = λ rest u. refl }

more_starts : (es : Exprs) → Starts (more_text es)
more_starts no_parts = refl
more_starts (parts e es) = refl

mutual
  expr_says : (e : Expr) → AreTokens (expr_tokens e) → Says Open (expr_text e) (expr_tokens e)
  expr_says (net n) r = name_says n r.0
  expr_says (number k) r = const_says k r.0
  expr_says (bit n i) r =
      open_then (name_says n r.0) refl (any_then lit_bracket (open_then (plain_says i r.1.1.0) refl (loosen lit_close)))
  expr_says (part n h l) r =
      open_then (name_says n r.0) refl (any_then lit_bracket (open_then (plain_says h r.1.1.0) refl (any_then lit_colon (open_then (plain_says l r.1.1.1.1.0) refl (loosen lit_close)))))
  expr_says (word n e) r =
      open_then (name_says n r.0) refl (any_then lit_bracket (open_then (expr_says e (right_front (expr_tokens e) (marks (codes "]")) r.1.1)) refl (loosen lit_close)))
  expr_says (not e) r =
      any_then lit_tilde (open_then (expr_says e (right_front (expr_tokens e) (marks (codes ")")) r.1.1)) refl (loosen lit_unparen))
  expr_says (two op a b) r =
      let all : List Token = op_mark op ∷ (expr_tokens b ++ marks (codes ")")) in
      let tail : AreTokens all = right_rest (expr_tokens a) all r.1 in
      any_then lit_paren (open_then (expr_says a (right_front (expr_tokens a) all r.1)) (op_starts op (expr_text b ++ codes ")")) (any_then (op_says op) (open_then (expr_says b (right_front (expr_tokens b) (marks (codes ")")) tail.1)) refl (loosen lit_unparen))))
  expr_says (choose c a b) r =
      let last : List Token = expr_tokens b ++ marks (codes ")") in
      let mid : List Token = expr_tokens a ++ (marks (codes ":") ++ last) in
      let r1 : AreTokens (marks (codes "?") ++ mid) = right_rest (expr_tokens c) (marks (codes "?") ++ mid) r.1 in
      let r2 : AreTokens (marks (codes ":") ++ last) = right_rest (expr_tokens a) (marks (codes ":") ++ last) r1.1 in
      any_then lit_paren (open_then (expr_says c (right_front (expr_tokens c) (marks (codes "?") ++ mid) r.1)) refl
      (any_then lit_which (open_then (expr_says a (right_front (expr_tokens a) (marks (codes ":") ++ last) r1.1)) refl
      (any_then lit_other (open_then (expr_says b (right_front (expr_tokens b) (marks (codes ")")) r2.1)) refl (loosen lit_unparen))))))
  expr_says (cat no_parts) r = loosen lit_empty
  expr_says (cat (parts e es)) r =
      any_then lit_brace (open_then (expr_says e (right_front (expr_tokens e) (more_tokens es) r.1)) (more_starts es) (more_says es (right_rest (expr_tokens e) (more_tokens es) r.1)))

  more_says : (es : Exprs) → AreTokens (more_tokens es) → Says Open (more_text es) (more_tokens es)
  more_says no_parts r = loosen lit_unbrace
  more_says (parts e es) r =
      any_then lit_comma (open_then (expr_says e (right_front (expr_tokens e) (more_tokens es) r.1)) (more_starts es) (more_says es (right_rest (expr_tokens e) (more_tokens es) r.1)))

-- ---- items

ended_says : (e : Expr) → AreTokens (expr_tokens e ++ marks (codes ";"))
    → Says Any (expr_text e ++ codes ";\n") (expr_tokens e ++ marks (codes ";"))
ended_says e r = open_then (expr_says e (right_front (expr_tokens e) (marks (codes ";")) r)) refl lit_semi

ranged_says : (h : ℕ) (n : Name) → h < 10 ^ 9 → IsToken (name n)
    → Says Open (ranged_text h n) (range_tokens h ++ (name n ∷ []))
ranged_says h n small right =
    any_then lit_bracket (open_then (plain_says h small) refl (any_then lit_range (name_says n right)))

item_says : (x : Item) → AreTokens (item_tokens x) → Says Any (item_text x) (item_tokens x)
item_says (wire h n) r = any_then lit_wire (open_then (ranged_says h n r.1.1.0 r.1.1.1.1.1.1.0) refl lit_semi)
item_says (reg h n) r = any_then lit_reg (open_then (ranged_says h n r.1.1.0 r.1.1.1.1.1.1.0) refl lit_semi)
item_says (mem h n last) r =
    any_then lit_reg (open_then (ranged_says h n r.1.1.0 r.1.1.1.1.1.1.0) refl (any_then lit_zero (open_then (plain_says last r.1.1.1.1.1.1.1.1.1.1.0) refl lit_to_last)))
item_says (assign n e) r =
    any_then lit_assign (open_then (name_says n r.1.0) refl (any_then lit_is (ended_says e r.1.1.1)))
item_says (clocked n k e) r =
    let q : AreTokens (name n ∷ (marks (codes "<=") ++ (const_token k ∷ (marks (codes "; else") ++ (name n ∷ (marks (codes "<=") ++ (expr_tokens e ++ marks (codes ";")))))))) =
    r.1.1.1.1.1.1.1.1.1.1 in
    any_then lit_always_rst (open_then (name_says n q.0) refl (any_then lit_gets (open_then (const_says k q.1.1.0) refl
    (any_then lit_or_else (open_then (name_says n q.0) refl (any_then lit_gets (ended_says e q.1.1.1.1.1.1.1)))))))
item_says (store c n i e) r =
    let last : List Token = expr_tokens e ++ marks (codes ";") in
    let at : List Token = expr_tokens i ++ (marks (codes "] <=") ++ last) in
    let rest : List Token = marks (codes ")") ++ (name n ∷ (marks (codes "[") ++ at)) in
    let q : AreTokens (expr_tokens c ++ rest) = r.1.1.1.1.1.1.1.1 in
    let q1 : AreTokens rest = right_rest (expr_tokens c) rest q in
    let q2 : AreTokens at = q1.1.1.1 in
    let q3 : AreTokens (marks (codes "] <=") ++ last) = right_rest (expr_tokens i) (marks (codes "] <=") ++ last) q2 in
    any_then lit_always (open_then (expr_says c (right_front (expr_tokens c) rest q)) refl (any_then lit_then (open_then (name_says n q1.1.0) refl
    (any_then lit_bracket (open_then (expr_says i (right_front (expr_tokens i) (marks (codes "] <=") ++ last) q2)) refl (any_then lit_at_gets (ended_says e q3.1.1)))))))

-- ---- modules

nothing_says : Says Any [] []
nothing_says = record { clean = refl; reads = λ rest u. refl; whole = λ rest u. refl }

each_says : {A : Type 0} (f : A → List ℕ) (s : A → List Token) → ((x : A) → AreTokens (s x) → Says Any (f x) (s x))
    → (xs : List A) → AreTokens (each s xs) → Says Any (each_text f xs) (each s xs)
each_says f s one [] r = nothing_says
each_says f s one (x ∷ xs) r =
    any_then (one x (right_front (s x) (each s xs) r)) (each_says f s one xs (right_rest (s x) (each s xs) r))

-- ports with the text that closes them, which may stand behind a word
port_says : (p : Port) → AreTokens (port_tokens p) → Says Open (port_text p) (port_tokens p)
port_says p r = elim p.output as (λ o. Says Open (way_text o ++ ranged_text p.high p.name) (mark (codes ",") ∷ (way_mark o ∷ (marks (codes "wire") ++ (range_tokens p.high ++ (name p.name ∷ [])))))) [
  | true ↦ any_then lit_output (ranged_says p.high p.name r.1.1.1.1.0 r.1.1.1.1.1.1.1.1.0)
  | false ↦ any_then lit_input (ranged_says p.high p.name r.1.1.1.1.0 r.1.1.1.1.1.1.1.1.0)
]

port_starts : (p : Port) (bs : List ℕ) → Starts (port_text p ++ bs)
port_starts p bs = elim p.output as (λ o. Starts ((way_text o ++ ranged_text p.high p.name) ++ bs)) [ true ↦ refl | false ↦ refl ]

ports_start : (ps : List Port) → Starts (each_text port_text ps ++ codes "\n);\n")
ports_start [] = refl
ports_start (p ∷ ps) =
    subst Starts (sym (append_assoc (port_text p) (each_text port_text ps) (codes "\n);\n"))) (port_starts p (each_text port_text ps ++ codes "\n);\n"))

ports_says : (ps : List Port) → AreTokens (each port_tokens ps ++ marks (codes ") ;"))
    → Says Any (each_text port_text ps ++ codes "\n);\n") (each port_tokens ps ++ marks (codes ") ;"))
ports_says [] r = lit_head_end
ports_says (p ∷ ps) r =
    let whole = subst AreTokens (append_assoc (port_tokens p) (each port_tokens ps) (marks (codes ") ;"))) r in
    let one = port_says p (right_front (port_tokens p) (each port_tokens ps ++ marks (codes ") ;")) whole) in
    let more = ports_says ps (right_rest (port_tokens p) (each port_tokens ps ++ marks (codes ") ;")) whole) in
    let both : Says Any (port_text p ++ (each_text port_text ps ++ codes "\n);\n")) (port_tokens p ++ (each port_tokens ps ++ marks (codes ") ;"))) =
    open_then one (ports_start ps) more in
    subst (λ ts. Says Any (each_text port_text (p ∷ ps) ++ codes "\n);\n") ts) (sym (append_assoc (port_tokens p) (each port_tokens ps) (marks (codes ") ;"))))
    (subst (λ bs. Says Any bs (port_tokens p ++ (each port_tokens ps ++ marks (codes ") ;")))) (sym (append_assoc (port_text p) (each_text port_text ps) (codes "\n);\n"))) both)

head_says : (ps : List Port) → AreTokens (head_tokens ps) → Says Any (head_text ps) (head_tokens ps)
head_says ps r =
    open_then lit_head (ports_start ps) (ports_says ps (right_rest (marks (codes "( input wire clk , input wire rst")) (each port_tokens ps ++ marks (codes ") ;")) r))

leaf_says : (l : values.Leaf) → AreTokens (leaf_tokens l) → Says Any (leaf_text l) (leaf_tokens l)
leaf_says l r =
    let rest : List Token = each item_tokens l.items ++ marks (codes "endmodule") in
    let q : AreTokens (head_tokens l.ports ++ rest) = r.1.1 in
    let q1 : AreTokens rest = right_rest (head_tokens l.ports) rest q in
    any_then lit_module (open_then (name_says l.name r.1.0) refl (any_then (head_says l.ports (right_front (head_tokens l.ports) rest q))
    (any_then (each_says item_text item_tokens item_says l.items (right_front (each item_tokens l.items) (marks (codes "endmodule")) q1)) lit_end)))

join_says : (j : Join) → AreTokens (join_tokens j) → Says Any (join_text j) (join_tokens j)
join_says j r =
    any_then lit_join (open_then (name_says j.port r.1.1.0) refl (any_then lit_paren (open_then (name_says j.net r.1.1.1.1.0) refl lit_unparen)))

top_item_says : (x : TopItem) → AreTokens (top_item_tokens x) → Says Any (top_item_text x) (top_item_tokens x)
top_item_says (Wire h n) r = any_then lit_wire (open_then (ranged_says h n r.1.1.0 r.1.1.1.1.1.1.0) refl lit_semi)
top_item_says (Instance l n joins) r =
    let rest : List Token = each join_tokens joins ++ marks (codes ") ;") in
    let q : AreTokens rest = right_rest (marks (codes "( . clk ( clk ) , . rst ( rst )")) rest r.1.1 in
    any_then lit_two_spaces (open_then (name_says l r.0) refl (any_then lit_space (open_then (name_says n r.1.0) refl (any_then lit_instance
    (any_then (each_says join_text join_tokens join_says joins (right_front (each join_tokens joins) (marks (codes ") ;")) q)) lit_joins_end)))))

top_says : (t : Top) → AreTokens (top_tokens t) → Says Any (top_text t) (top_tokens t)
top_says t r =
    let rest : List Token = each top_item_tokens t.items ++ marks (codes "endmodule") in
    let q : AreTokens (head_tokens t.ports ++ rest) = r.1.1 in
    let q1 : AreTokens rest = right_rest (head_tokens t.ports) rest q in
    open_then lit_noc refl (any_then (head_says t.ports (right_front (head_tokens t.ports) rest q))
    (any_then (each_says top_item_text top_item_tokens top_item_says t.items (right_front (each top_item_tokens t.items) (marks (codes "endmodule")) q1)) lit_end))

-- the written text of a plain design spells it
pub text_spells : (d : Design) → IsPlain d → Spells (design_text d) d
unfolding tokens_behind unread_behind
text_spells d p =
    let leaves =
    each_says leaf_text leaf_tokens leaf_says d.leaves (right_front (each leaf_tokens d.leaves) (top_tokens d.top) p.tokens) in
    let all : Says Any (design_text d) (design_tokens d) =
    any_then leaves (top_says d.top (right_rest (each leaf_tokens d.leaves) (top_tokens d.top) p.tokens)) in
    record {
      clean = all.clean;
      whole = ap unread (sym (append-nil (design_text d))) ∙ all.whole [] tt;
      tokens = ap (λ bs. text_of (tokens_of bs)) (sym (append-nil (design_text d))) ∙ all.reads [] tt ∙ append-nil (design_tokens d);
      fits = p.fits;
    }
