-- Readers of items and modules.
use Rattle.std.proofs.Common.{◌≡◌, ℕ, Bool, true, List, [], ◌∷◌, ◌++◌, Option, Some, None, refl, sym, ap, ◌∙◌, append_assoc, arith, inl, inr}
use Rattle.std.specs.Prelude.{◌⊎◌, codes}
use Rattle.std.specs.List.{AllByRecursion}
use Rattle.vl_tree.specs.declared.tree.Const.{Const}
use Rattle.vl_tree.specs.declared.tree.Port.{Port}
use Rattle.vl_tree.specs.declared.tree.Join.{Join}
use Rattle.vl_tree.specs.declared.tree.Top.{Top}
use Rattle.vl_tree.specs.declared.tree.TopItem.{TopItem}
use Rattle.vl_tree.specs.declared.tree.TopItem.TheVariants.{Wire, Instance}
use Rattle.vl_tree.specs.Values as values
use Rattle.vl_tree.specs.Values.{Name, Expr, Exprs, net, Item, wire, reg, mem, assign, clocked, store, Design}
use Rattle.vl_tree.specs.Tokens.{Token, mark, name, plain, split, AreTokens}
use Rattle.vl_tree.specs.Grammar.{marks, each, const_token, expr_tokens, Fits, limit, range_tokens, item_tokens, ItemFits, way_mark, port_tokens, head_tokens, leaf_tokens, join_tokens, top_item_tokens, top_tokens, design_tokens, LeafFits, DesignFits}
use Rattle.vl_tree.specs.Reading.{one, both, made, either, until, first, second, phrase, closed, opened, is_mark, is_name_token, the_name, the_same, the_plain, the_zero, the_sized, the_way, range_at, whole_expr, wire_at, reg_of, reg_at, assign_at, clocked_at, store_at, always_at, item_at, port_at, head_at, goes_on, leaf_at, join_at, instance_at, top_item_at, top_at, modules_at}
use Rattle.vl_tree.proofs.Forms.{any, fails_at, Leads, leads_not, IsForm, Example, s2, V2, s_until, V_until, made_form, either_form, until_form, right_append, right_marks}
use Rattle.vl_tree.proofs.Single.{same_form, then_any, all_values, phrase_form, closed_form, opened_form, name_form, a_name, same_name_form, plain_form, zero_form, sized_form, way_form, range_form}
use Rattle.vl_tree.proofs.Exprs.{after_expr, expr_form}

whole_form : IsForm expr_tokens (Fits limit) after_expr whole_expr
unfolding whole_expr
whole_form = expr_form limit

a_whole : Fits limit (net (codes "a_0"))
unfolding limit
a_whole = tt

-- ---- declarations

-- a range and a name, and what closes them
abbrev declared : ℕ × Name → List Token
declared x = range_tokens x.0 ++ (name x.1 ∷ [])

declared_form : IsForm declared all_values any (both range_at (λ h. one the_name))
declared_form =
    same_form declared all_values (λ x v. refl) (λ x v. tt) (λ x v. (tt, tt)) (then_any range_form (λ h. name_form) (λ h v r. a_name))

abbrev wire_tokens : ℕ × Name → List Token
wire_tokens x = marks (codes "wire") ++ (range_tokens x.0 ++ (name x.1 ∷ marks (codes ";")))

wire_form : IsForm wire_tokens all_values any wire_at
unfolding wire_at
wire_form = same_form wire_tokens all_values (λ x v. refl) (λ x v. tt) (λ x v. tt)
    (opened_form (codes "wire") refl (record { value = (0, codes "a_0"); valid = tt; right = (tt, (omega arith, (tt, (omega arith, (tt, (refl, (tt, tt))))))) }) (closed_form (codes ";") refl refl declared_form))

-- ---- items by their kind

abbrev IsWire : Item → Type 0
IsWire (wire h n) = Unit {0}
IsWire _ = ⊥

abbrev IsReg : Item → Type 0
IsReg (reg h n) = Unit {0}
IsReg (mem h n last) = Unit {0}
IsReg _ = ⊥

abbrev IsAssign : Item → Type 0
IsAssign (assign n e) = Fits limit e
IsAssign _ = ⊥

abbrev IsClocked : Item → Type 0
IsClocked (clocked n r e) = Fits limit e
IsClocked _ = ⊥

abbrev IsStore : Item → Type 0
IsStore (store c n i e) = Fits limit c × Fits limit i × Fits limit e
IsStore _ = ⊥

abbrev IsAlways : Item → Type 0
IsAlways (clocked n r e) = Fits limit e
IsAlways (store c n i e) = Fits limit c × Fits limit i × Fits limit e
IsAlways _ = ⊥

abbrev IsLate : Item → Type 0
IsLate (assign n e) = Fits limit e
IsLate (clocked n r e) = Fits limit e
IsLate (store c n i e) = Fits limit c × Fits limit i × Fits limit e
IsLate _ = ⊥

abbrev IsOther : Item → Type 0
IsOther (wire h n) = ⊥
IsOther x = ItemFits x

wire_from : (y : Item) → IsWire y → (x : ℕ × Name) × Unit {0} × (wire x.0 x.1 ≡ y)
wire_from (wire h n) v = ((h, n), tt, refl)
wire_from _ v = absurd v

wire_item_form : IsForm item_tokens IsWire any (made (λ x. wire x.0 x.1) wire_at)
wire_item_form =
    made_form wire_tokens all_values item_tokens IsWire any (λ x. wire x.0 x.1) wire_at (λ x v. refl) (λ x v. tt) wire_from wire_form

abbrev last_tokens : Option ℕ → List Token
last_tokens None = marks (codes ";")
last_tokens (Some l) = marks (codes "[") ++ (plain 0 ∷ (marks (codes ":") ++ (plain l ∷ marks (codes "] ;"))))

abbrev HasLast : Option ℕ → Type 0
HasLast None = ⊥
HasLast (Some l) = Unit {0}

abbrev HasNoLast : Option ℕ → Type 0
HasNoLast None = Unit {0}
HasNoLast (Some l) = ⊥

-- behind the bracket of a memory
abbrev behind : ℕ → List Token
behind l = plain 0 ∷ (marks (codes ":") ++ (plain l ∷ marks (codes "] ;")))

last_form : IsForm last_tokens all_values any (either (is_mark (codes "[")) (made (λ l. Some l) (opened (codes "[") (made second (both (closed (one the_zero) (codes ":")) (λ z. closed (one the_plain) (codes "] ;")))))) (made (λ u. None) (phrase (codes ";"))))
last_form =
    either_form last_tokens HasLast HasNoLast all_values (is_mark (codes "[")) any (made (λ l. Some l) (opened (codes "[") (made second (both (closed (one the_zero) (codes ":")) (λ z. closed (one the_plain) (codes "] ;")))))) (made (λ u. None) (phrase (codes ";")))
    (λ x v. tt) (λ x v. tt) (λ x u. elim x as (λ o. HasLast o ⊎ HasNoLast o) [ None ↦ inr tt | Some l ↦ inl tt ])
    (λ x v. elim x as (λ o. HasLast o → Leads (is_mark (codes "[")) (last_tokens o)) [ None ↦ λ h. absurd h | Some l ↦ λ h. refl ] v)
    (λ x front r w e m. leads_not (is_mark (codes "[")) (last_tokens x) front r (elim x as (λ o. HasNoLast o → Leads (fails_at (is_mark (codes "["))) (last_tokens o)) [ None ↦ λ h. refl | Some l ↦ λ h. absurd h ] w) e)
    (made_form (λ l. marks (codes "[") ++ behind l) all_values last_tokens HasLast any (λ l. Some l) (opened (codes "[") (made second (both (closed (one the_zero) (codes ":")) (λ z. closed (one the_plain) (codes "] ;")))))
    (λ x v. refl) (λ x v. tt) (λ y v. elim y as (λ o. HasLast o → (l : ℕ) × Unit {0} × (Some l ≡ o)) [ None ↦ λ h. absurd h | Some l ↦ λ h. (l, tt, refl) ] v)
    (opened_form (codes "[") refl (record { value = 0; valid = tt; right = (omega arith, (tt, (omega arith, (tt, (tt, tt))))) })
    (made_form (s2 (λ (u : Unit {0}). (plain 0 ∷ []) ++ marks (codes ":")) (λ u l. (plain l ∷ []) ++ marks (codes "] ;"))) (V2 all_values (λ u. all_values)) behind all_values any second (both (closed (one the_zero) (codes ":")) (λ z. closed (one the_plain) (codes "] ;")))
    (λ x v. refl) (λ x v. tt) (λ y v. ((tt, y), (tt, tt), refl))
    (then_any (closed_form (codes ":") refl refl zero_form) (λ u. closed_form (codes "] ;") refl refl plain_form) (λ u v r. record { value = 0; valid = tt; right = (omega arith, (tt, (tt, tt))) })))))
    (made_form (λ u. marks (codes ";")) all_values last_tokens HasNoLast any (λ (u : Unit {0}). None) (phrase (codes ";"))
    (λ x v. refl) (λ x v. tt) (λ y v. elim y as (λ o. HasNoLast o → (u : Unit {0}) × Unit {0} × (None ≡ o)) [ None ↦ λ h. (tt, tt, refl) | Some l ↦ λ h. absurd h ] v)
    (phrase_form (codes ";") refl))

abbrev reg_tokens : Item → List Token
reg_tokens (reg h n) = declared (h, n) ++ last_tokens None
reg_tokens (mem h n last) = declared (h, n) ++ last_tokens (Some last)
reg_tokens _ = []

reg_from : (y : Item) → IsReg y → (x : (ℕ × Name) × Option ℕ) × (Unit {0} × Unit {0}) × (reg_of x.0 x.1 ≡ y)
reg_from (reg h n) v = (((h, n), None), (tt, tt), refl)
reg_from (mem h n last) v = (((h, n), Some last), (tt, tt), refl)
reg_from _ v = absurd v

reg_made : (x : ℕ × Name) (o : Option ℕ) → reg_tokens (reg_of x o) ≡ declared x ++ last_tokens o
reg_made x None = refl
reg_made x (Some l) = refl

reg_valid : (x : ℕ × Name) (o : Option ℕ) → IsReg (reg_of x o)
reg_valid x None = tt
reg_valid x (Some l) = tt

reg_spelled : (x : Item) → IsReg x → item_tokens x ≡ marks (codes "reg") ++ reg_tokens x
reg_spelled (reg h n) v = refl
reg_spelled (mem h n last) v = refl
reg_spelled _ v = absurd v

reg_form : IsForm item_tokens IsReg any reg_at
unfolding reg_at
reg_form = same_form item_tokens IsReg reg_spelled (λ x v. v) (λ x v. v)
    (opened_form (codes "reg") refl (record { value = reg 0 (codes "a_0"); valid = tt; right = (tt, (omega arith, (tt, (omega arith, (tt, (refl, (tt, tt))))))) })
    (made_form (s2 declared (λ x. last_tokens)) (V2 all_values (λ x. all_values)) reg_tokens IsReg any (λ x. reg_of x.0 x.1)
    (both (both range_at (λ h. one the_name)) (λ x. either (is_mark (codes "[")) (made (λ l. Some l) (opened (codes "[") (made second (both (closed (one the_zero) (codes ":")) (λ z. closed (one the_plain) (codes "] ;")))))) (made (λ u. None) (phrase (codes ";")))))
    (λ x v. reg_made x.0 x.1) (λ x v. reg_valid x.0 x.1) reg_from
    (then_any declared_form (λ x. last_form) (λ x v r. record { value = None; valid = tt; right = (tt, tt) }))))

-- ---- assigns

abbrev assign_tokens : Item → List Token
assign_tokens (assign n e) = name n ∷ (marks (codes "=") ++ (expr_tokens e ++ marks (codes ";")))
assign_tokens _ = []

assign_from : (y : Item) → IsAssign y → (x : Name × Expr) × (Unit {0} × Fits limit x.1) × (assign x.0 x.1 ≡ y)
assign_from (assign n e) v = ((n, e), (tt, v), refl)
assign_from _ v = absurd v

assign_spelled : (x : Item) → IsAssign x → item_tokens x ≡ marks (codes "assign") ++ assign_tokens x
assign_spelled (assign n e) v = refl
assign_spelled _ v = absurd v

-- an expression that a semicolon closes
ended_form : IsForm (λ e. expr_tokens e ++ marks (codes ";")) (Fits limit) any (closed whole_expr (codes ";"))
ended_form = closed_form (codes ";") refl refl whole_form

an_ended : Example (λ e. expr_tokens e ++ marks (codes ";")) (Fits limit)
an_ended = record { value = net (codes "a_0"); valid = a_whole; right = (refl, (tt, tt)) }

assign_form : IsForm item_tokens IsAssign any assign_at
unfolding assign_at
assign_form = same_form item_tokens IsAssign assign_spelled (λ x v. v) (λ x v. v)
    (opened_form (codes "assign") refl (record { value = assign (codes "a_0") (net (codes "a_0")); valid = a_whole; right = (refl, (tt, (refl, (tt, tt)))) })
    (made_form (s2 (λ n. (name n ∷ []) ++ marks (codes "=")) (λ n e. expr_tokens e ++ marks (codes ";"))) (V2 all_values (λ n. Fits limit)) assign_tokens IsAssign any (λ x. assign x.0 x.1)
    (both (closed (one the_name) (codes "=")) (λ n. closed whole_expr (codes ";")))
    (λ x v. refl) (λ x v. v.1) assign_from
    (then_any (closed_form (codes "=") refl refl name_form) (λ n. ended_form) (λ n v r. an_ended))))

-- ---- clocked items and stores

abbrev ClockedOf : Type 0
ClockedOf = (Name × Const) × (Unit {0} × Expr)

abbrev clocked_of : ClockedOf → Item
clocked_of x = clocked x.0.0 x.0.1 x.1.1

abbrev always_tokens : Item → List Token
always_tokens (clocked n r e) =
    marks (codes "rst )") ++ (name n ∷ (marks (codes "<=") ++ (const_token r ∷ (marks (codes "; else") ++ (name n ∷ (marks (codes "<=") ++ (expr_tokens e ++ marks (codes ";"))))))))
always_tokens (store c n i e) =
    expr_tokens c ++ (marks (codes ")") ++ (name n ∷ (marks (codes "[") ++ (expr_tokens i ++ (marks (codes "] <=") ++ (expr_tokens e ++ marks (codes ";")))))))
always_tokens _ = []

abbrev clocked_rest : Item → List Token
clocked_rest (clocked n r e) =
    name n ∷ (marks (codes "<=") ++ (const_token r ∷ (marks (codes "; else") ++ (name n ∷ (marks (codes "<=") ++ (expr_tokens e ++ marks (codes ";")))))))
clocked_rest _ = []

clocked_from : (y : Item) → IsClocked y
    → (x : ClockedOf) × ((Unit {0} × Unit {0}) × (Unit {0} × Fits limit x.1.1)) × (clocked_of x ≡ y)
clocked_from (clocked n r e) v = (((n, r), (tt, e)), ((tt, tt), (tt, v)), refl)
clocked_from _ v = absurd v

clocked_spelled : (x : Item) → IsClocked x → always_tokens x ≡ marks (codes "rst )") ++ clocked_rest x
clocked_spelled (clocked n r e) v = refl
clocked_spelled _ v = absurd v

clocked_form : IsForm always_tokens IsClocked any clocked_at
unfolding clocked_at
clocked_form = same_form always_tokens IsClocked clocked_spelled (λ x v. v) (λ x v. v)
    (opened_form (codes "rst )") refl (record { value = clocked (codes "a_0") (record { width = 1; value = 0 }) (net (codes "a_0")); valid = a_whole; right = (refl, (tt, ((omega arith, omega arith, omega arith), (tt, (tt, (refl, (tt, (refl, (tt, tt))))))))) })
    (made_form
    (s2 (s2 (λ n. (name n ∷ []) ++ marks (codes "<=")) (λ n r. (const_token r ∷ []) ++ marks (codes "; else"))) (λ x. s2 (λ (u : Unit {0}). (name x.0 ∷ []) ++ marks (codes "<=")) (λ u e. expr_tokens e ++ marks (codes ";"))))
    (V2 (V2 all_values (λ n. all_values)) (λ x. V2 all_values (λ u. Fits limit))) clocked_rest IsClocked any clocked_of
    (both (both (closed (one the_name) (codes "<=")) (λ n. closed (one the_sized) (codes "; else"))) (λ x. both (closed (one (the_same x.0)) (codes "<=")) (λ u. closed whole_expr (codes ";"))))
    (λ x v. refl) (λ x v. v.1.1) clocked_from
    (then_any
    (then_any (closed_form (codes "<=") refl refl name_form) (λ n. closed_form (codes "; else") refl refl sized_form) (λ n v q. record { value = record { width = 1; value = 0 }; valid = tt; right = ((omega arith, omega arith, omega arith), (tt, (tt, tt))) }))
    (λ x. then_any (closed_form (codes "<=") refl refl (same_name_form x.0)) (λ u. ended_form) (λ u v q. an_ended))
    (λ x v q. record { value = (tt, net (codes "a_0")); valid = (tt, a_whole); right = (q.0, (tt, (refl, (tt, tt)))) }))))

abbrev StoreOf : Type 0
StoreOf = Expr × (Name × (Expr × Expr))

abbrev store_of : StoreOf → Item
store_of x = store x.0 x.1.0 x.1.1.0 x.1.1.1

store_from : (y : Item) → IsStore y
    → (x : StoreOf) × (Fits limit x.0 × (Unit {0} × (Fits limit x.1.1.0 × Fits limit x.1.1.1))) × (store_of x ≡ y)
store_from (store c n i e) v = ((c, (n, (i, e))), (v.0, (tt, (v.1, v.2))), refl)
store_from _ v = absurd v

store_form : IsForm always_tokens IsStore any store_at
unfolding store_at
store_form =
    made_form
    (s2 (λ c. expr_tokens c ++ marks (codes ")")) (λ c. s2 (λ n. (name n ∷ []) ++ marks (codes "[")) (λ n. s2 (λ i. expr_tokens i ++ marks (codes "] <=")) (λ i e. expr_tokens e ++ marks (codes ";")))))
    (V2 (Fits limit) (λ c. V2 all_values (λ n. V2 (Fits limit) (λ i. Fits limit)))) always_tokens IsStore any store_of
    (both (closed whole_expr (codes ")")) (λ c. both (closed (one the_name) (codes "[")) (λ n. both (closed whole_expr (codes "] <=")) (λ i. closed whole_expr (codes ";")))))
    (λ x v. simp append_assoc) (λ x v. (v.0, v.1.1.0, v.1.1.1)) store_from
    (then_any (closed_form (codes ")") refl refl whole_form)
    (λ c. then_any (closed_form (codes "[") refl refl name_form)
    (λ n. then_any (closed_form (codes "] <=") refl refl whole_form) (λ i. ended_form) (λ i v q. an_ended))
    (λ n v q. record { value = (net (codes "a_0"), net (codes "a_0")); valid = (a_whole, a_whole); right = (refl, (tt, (tt, (refl, (tt, tt))))) }))
    (λ c v q. record { value = (codes "a_0", (net (codes "a_0"), net (codes "a_0"))); valid = (tt, (a_whole, a_whole)); right = (refl, (tt, (refl, (tt, (tt, (refl, (tt, tt))))))) }))

clocked_leads : (x : Item) → IsClocked x → Leads (is_mark (codes "rst")) (always_tokens x)
clocked_leads (clocked n r e) v = refl
clocked_leads _ v = absurd v

expr_not_rst : (e : Expr) (a : List Token) → Leads (fails_at (is_mark (codes "rst"))) (expr_tokens e ++ a)
expr_not_rst (net n) a = refl
expr_not_rst (values.number k) a = refl
expr_not_rst (values.bit n i) a = refl
expr_not_rst (values.part n h l) a = refl
expr_not_rst (values.word n e) a = refl
expr_not_rst (values.not e) a = refl
expr_not_rst (values.two op x y) a = refl
expr_not_rst (values.choose c x y) a = refl
expr_not_rst (values.cat values.no_parts) a = refl
expr_not_rst (values.cat (values.parts e es)) a = refl

store_leads : (x : Item) → IsStore x → Leads (fails_at (is_mark (codes "rst"))) (always_tokens x)
store_leads (store c n i e) v =
    expr_not_rst c (marks (codes ")") ++ (name n ∷ (marks (codes "[") ++ (expr_tokens i ++ (marks (codes "] <=") ++ (expr_tokens e ++ marks (codes ";")))))))
store_leads _ v = absurd v

clocked_always : (x : Item) → IsClocked x → IsAlways x
clocked_always (clocked n r e) v = v
clocked_always _ v = absurd v

store_always : (x : Item) → IsStore x → IsAlways x
store_always (store c n i e) v = v
store_always _ v = absurd v

always_split : (x : Item) → IsAlways x → IsClocked x ⊎ IsStore x
always_split (clocked n r e) v = inl v
always_split (store c n i e) v = inr v
always_split _ v = absurd v

always_spelled : (x : Item) → IsAlways x
    → item_tokens x ≡ marks (codes "always @ ( posedge clk ) if (") ++ always_tokens x
always_spelled (clocked n r e) v = refl
always_spelled (store c n i e) v = refl
always_spelled _ v = absurd v

always_form : IsForm item_tokens IsAlways any always_at
unfolding always_at
always_form = same_form item_tokens IsAlways always_spelled (λ x v. v) (λ x v. v)
    (opened_form (codes "always @ ( posedge clk ) if (") refl (record { value = clocked (codes "a_0") (record { width = 1; value = 0 }) (net (codes "a_0")); valid = a_whole; right = (tt, (tt, (refl, (tt, ((omega arith, omega arith, omega arith), (tt, (tt, (refl, (tt, (refl, (tt, tt))))))))))) })
    (either_form always_tokens IsClocked IsStore IsAlways (is_mark (codes "rst")) any clocked_at store_at clocked_always store_always always_split clocked_leads
    (λ x front r w e m. leads_not (is_mark (codes "rst")) (always_tokens x) front r (store_leads x w) e) clocked_form store_form))

-- ---- any item

late_assign : (x : Item) → IsAssign x → IsLate x
late_assign (assign n e) v = v
late_assign _ v = absurd v

late_always : (x : Item) → IsAlways x → IsLate x
late_always (clocked n r e) v = v
late_always (store c n i e) v = v
late_always _ v = absurd v

late_split : (x : Item) → IsLate x → IsAssign x ⊎ IsAlways x
late_split (assign n e) v = inl v
late_split (clocked n r e) v = inr v
late_split (store c n i e) v = inr v
late_split _ v = absurd v

assign_leads : (x : Item) → IsAssign x → Leads (is_mark (codes "assign")) (item_tokens x)
assign_leads (assign n e) v = refl
assign_leads _ v = absurd v

always_leads : (x : Item) → IsAlways x → Leads (fails_at (is_mark (codes "assign"))) (item_tokens x)
always_leads (clocked n r e) v = refl
always_leads (store c n i e) v = refl
always_leads _ v = absurd v

other_reg : (x : Item) → IsReg x → IsOther x
other_reg (reg h n) v = tt
other_reg (mem h n last) v = tt
other_reg _ v = absurd v

other_late : (x : Item) → IsLate x → IsOther x
other_late (assign n e) v = v
other_late (clocked n r e) v = v
other_late (store c n i e) v = v
other_late _ v = absurd v

other_split : (x : Item) → IsOther x → IsReg x ⊎ IsLate x
other_split (wire h n) v = absurd v
other_split (reg h n) v = inl tt
other_split (mem h n last) v = inl tt
other_split (assign n e) v = inr v
other_split (clocked n r e) v = inr v
other_split (store c n i e) v = inr v

reg_leads : (x : Item) → IsReg x → Leads (is_mark (codes "reg")) (item_tokens x)
reg_leads (reg h n) v = refl
reg_leads (mem h n last) v = refl
reg_leads _ v = absurd v

late_leads : (x : Item) → IsLate x → Leads (fails_at (is_mark (codes "reg"))) (item_tokens x)
late_leads (assign n e) v = refl
late_leads (clocked n r e) v = refl
late_leads (store c n i e) v = refl
late_leads _ v = absurd v

item_wire : (x : Item) → IsWire x → ItemFits x
item_wire (wire h n) v = tt
item_wire _ v = absurd v

item_other : (x : Item) → IsOther x → ItemFits x
item_other (wire h n) v = tt
item_other (reg h n) v = v
item_other (mem h n last) v = v
item_other (assign n e) v = v
item_other (clocked n r e) v = v
item_other (store c n i e) v = v

item_split : (x : Item) → ItemFits x → IsWire x ⊎ IsOther x
item_split (wire h n) v = inl tt
item_split (reg h n) v = inr v
item_split (mem h n last) v = inr v
item_split (assign n e) v = inr v
item_split (clocked n r e) v = inr v
item_split (store c n i e) v = inr v

wire_leads : (x : Item) → IsWire x → Leads (is_mark (codes "wire")) (item_tokens x)
wire_leads (wire h n) v = refl
wire_leads _ v = absurd v

other_leads : (x : Item) → IsOther x → Leads (fails_at (is_mark (codes "wire"))) (item_tokens x)
other_leads (wire h n) v = absurd v
other_leads (reg h n) v = refl
other_leads (mem h n last) v = refl
other_leads (assign n e) v = refl
other_leads (clocked n r e) v = refl
other_leads (store c n i e) v = refl

pub item_form : IsForm item_tokens ItemFits any item_at
unfolding item_at
item_form =
    either_form item_tokens IsWire IsOther ItemFits (is_mark (codes "wire")) any (made (λ x. wire x.0 x.1) wire_at) (either (is_mark (codes "reg")) reg_at (either (is_mark (codes "assign")) assign_at always_at))
    item_wire item_other item_split wire_leads (λ x front r w e m. leads_not (is_mark (codes "wire")) (item_tokens x) front r (other_leads x w) e)
    wire_item_form
    (either_form item_tokens IsReg IsLate IsOther (is_mark (codes "reg")) any reg_at (either (is_mark (codes "assign")) assign_at always_at)
    other_reg other_late other_split reg_leads (λ x front r w e m. leads_not (is_mark (codes "reg")) (item_tokens x) front r (late_leads x w) e)
    reg_form
    (either_form item_tokens IsAssign IsAlways IsLate (is_mark (codes "assign")) any assign_at always_at
    late_assign late_always late_split assign_leads (λ x front r w e m. leads_not (is_mark (codes "assign")) (item_tokens x) front r (always_leads x w) e)
    assign_form always_form))

-- ---- ports

abbrev PortOf : Type 0
PortOf = Bool × (ℕ × Name)

abbrev port_of : PortOf → Port
port_of x = record { output = x.0; high = x.1.0; name = x.1.1 }

abbrev port_rest : Port → List Token
port_rest p = way_mark p.output ∷ (marks (codes "wire") ++ (range_tokens p.high ++ (name p.name ∷ [])))

pub port_form : IsForm port_tokens all_values any port_at
unfolding port_at
port_form = same_form port_tokens all_values (λ x v. refl) (λ x v. tt) (λ x v. tt)
    (opened_form (codes ",") refl (record { value = record { output = true; high = 0; name = codes "a_0" }; valid = tt; right = (tt, (tt, (tt, (omega arith, (tt, (omega arith, (tt, (refl, tt)))))))) })
    (made_form (s2 (λ o. (way_mark o ∷ []) ++ marks (codes "wire")) (λ o. declared)) (V2 all_values (λ o. all_values)) port_rest all_values any port_of
    (both (closed (one the_way) (codes "wire")) (λ o. both range_at (λ h. one the_name)))
    (λ x v. refl) (λ x v. tt) (λ y v. ((y.output, (y.high, y.name)), (tt, tt), refl))
    (then_any (closed_form (codes "wire") refl refl way_form) (λ o. declared_form) (λ o v q. record { value = (0, codes "a_0"); valid = tt; right = (tt, (omega arith, (tt, (omega arith, (tt, (refl, tt)))))) }))))

all_true : {X : Type 0} (xs : List X) → AllByRecursion (λ (x : X). Unit {0}) xs
all_true [] = tt
all_true (x ∷ xs) = (tt, all_true xs)

comma_any : (k : Token) → is_mark (codes ",") k ≡ true → any k ≡ true
comma_any k e = refl

abbrev ports_tokens : List Port → List Token
ports_tokens ports = each port_tokens ports ++ marks (codes ") ;")

abbrev to_ports : List Port × Unit {0} → List Port
to_ports x = x.0

ports_form : IsForm ports_tokens all_values any (made first (until (is_mark (codes ",")) port_at (phrase (codes ") ;"))))
ports_form = made_form (s_until port_tokens (λ (u : Unit {0}). marks (codes ") ;"))) (V_until all_values all_values) ports_tokens all_values any to_ports (until (is_mark (codes ",")) port_at (phrase (codes ") ;")))
    (λ x v. refl) (λ x v. tt) (λ y v. ((y, tt), (all_true y, tt), refl))
    (until_form port_tokens all_values (λ (u : Unit {0}). marks (codes ") ;")) all_values (is_mark (codes ",")) any any port_at (phrase (codes ") ;"))
    (λ x v. refl) (λ u v. refl) (λ u v. refl) comma_any (record { value = tt; valid = tt; right = (tt, (tt, tt)) }) port_form (phrase_form (codes ") ;") refl))

head_form : IsForm head_tokens all_values any head_at
unfolding head_at
head_form = same_form head_tokens all_values (λ x v. refl) (λ x v. tt) (λ x v. tt)
    (opened_form (codes "( input wire clk , input wire rst") refl (record { value = []; valid = tt; right = (tt, (tt, tt)) }) ports_form)

a_head : Example head_tokens all_values
a_head = record { value = []; valid = tt; right = (tt, (tt, (tt, (tt, (tt, (tt, (tt, (tt, (tt, (tt, tt)))))))))) }

-- ---- leaves

item_goes_on : (x : Item) → ItemFits x → Leads goes_on (item_tokens x)
item_goes_on (wire h n) v = refl
item_goes_on (reg h n) v = refl
item_goes_on (mem h n last) v = refl
item_goes_on (assign n e) v = refl
item_goes_on (clocked n r e) v = refl
item_goes_on (store c n i e) v = refl

go_any : (k : Token) → goes_on k ≡ true → any k ≡ true
go_any k e = refl

-- a leaf's items, with the word that begins the next module
items_form : IsForm (s_until item_tokens (λ (u : Unit {0}). marks (codes "endmodule module"))) (V_until ItemFits all_values) any (until goes_on item_at (phrase (codes "endmodule module")))
items_form = until_form item_tokens ItemFits (λ (u : Unit {0}). marks (codes "endmodule module")) all_values goes_on any any item_at (phrase (codes "endmodule module"))
    item_goes_on (λ u v. refl) (λ u v. refl) go_any (record { value = tt; valid = tt; right = (tt, (tt, tt)) }) item_form (phrase_form (codes "endmodule module") refl)

abbrev leaf_rest : values.Leaf → List Token
leaf_rest l = name l.name ∷ (head_tokens l.ports ++ (each item_tokens l.items ++ marks (codes "endmodule module")))

abbrev LeafOf : Type 0
LeafOf = Name × (List Port × (List Item × Unit {0}))

abbrev leaf_of : LeafOf → values.Leaf
leaf_of x = record { name = x.0; ports = x.1.0; items = x.1.1.0 }

pub leaf_form : IsForm leaf_rest LeafFits any leaf_at
unfolding leaf_at
leaf_form =
    made_form (s2 (λ n. name n ∷ []) (λ n. s2 head_tokens (λ ports. s_until item_tokens (λ (u : Unit {0}). marks (codes "endmodule module"))))) (V2 all_values (λ n. V2 all_values (λ ports. V_until ItemFits all_values))) leaf_rest LeafFits any leaf_of
    (both (one the_name) (λ n. both head_at (λ ports. until goes_on item_at (phrase (codes "endmodule module")))))
    (λ x v. refl) (λ x v. v.1.1.0) (λ y v. ((y.name, (y.ports, (y.items, tt))), (tt, (tt, (v, tt))), refl))
    (then_any name_form
    (λ n. then_any head_form (λ ports. items_form) (λ ports v q. record { value = ([], tt); valid = (tt, tt); right = (tt, (tt, tt)) }))
    (λ n v q. record { value = ([], ([], tt)); valid = (tt, (tt, tt)); right = (tt, (tt, (tt, (tt, (tt, (tt, (tt, (tt, (tt, (tt, (tt, (tt, tt)))))))))))) }))

-- ---- the top

abbrev join_rest : Join → List Token
join_rest j = name j.port ∷ (marks (codes "(") ++ (name j.net ∷ marks (codes ")")))

abbrev join_of : Name × Name → Join
join_of x = record { port = x.0; net = x.1 }

pub join_form : IsForm join_tokens all_values any join_at
unfolding join_at
join_form = same_form join_tokens all_values (λ x v. refl) (λ x v. tt) (λ x v. tt)
    (opened_form (codes ", .") refl (record { value = record { port = codes "a_0"; net = codes "a_0" }; valid = tt; right = (refl, (tt, (refl, (tt, tt)))) })
    (made_form (s2 (λ p. (name p ∷ []) ++ marks (codes "(")) (λ p n. (name n ∷ []) ++ marks (codes ")"))) (V2 all_values (λ p. all_values)) join_rest all_values any join_of
    (both (closed (one the_name) (codes "(")) (λ p. closed (one the_name) (codes ")")))
    (λ x v. refl) (λ x v. tt) (λ y v. ((y.port, y.net), (tt, tt), refl))
    (then_any (closed_form (codes "(") refl refl name_form) (λ p. closed_form (codes ")") refl refl name_form) (λ p v q. record { value = codes "a_0"; valid = tt; right = (refl, (tt, tt)) }))))

joins_form : IsForm (s_until join_tokens (λ (u : Unit {0}). marks (codes ") ;"))) (V_until all_values all_values) any (until (is_mark (codes ",")) join_at (phrase (codes ") ;")))
joins_form = until_form join_tokens all_values (λ (u : Unit {0}). marks (codes ") ;")) all_values (is_mark (codes ",")) any any join_at (phrase (codes ") ;"))
    (λ x v. refl) (λ u v. refl) (λ u v. refl) comma_any (record { value = tt; valid = tt; right = (tt, (tt, tt)) }) join_form (phrase_form (codes ") ;") refl)

abbrev IsNet : TopItem → Type 0
IsNet (Wire h n) = Unit {0}
IsNet (Instance l n joins) = ⊥

abbrev IsInstance : TopItem → Type 0
IsInstance (Wire h n) = ⊥
IsInstance (Instance l n joins) = Unit {0}

abbrev InstanceOf : Type 0
InstanceOf = Name × (Name × (List Join × Unit {0}))

abbrev instance_of : InstanceOf → TopItem
instance_of x = Instance x.0 x.1.0 x.1.1.0

instance_from : (y : TopItem) → IsInstance y
    → (x : InstanceOf) × (Unit {0} × (Unit {0} × (AllByRecursion all_values x.1.1.0 × Unit {0}))) × (instance_of x ≡ y)
instance_from (Wire h n) v = absurd v
instance_from (Instance l n joins) v = ((l, (n, (joins, tt))), (tt, (tt, (all_true joins, tt))), refl)

instance_form : IsForm top_item_tokens IsInstance any instance_at
unfolding instance_at
instance_form =
    made_form (s2 (λ l. name l ∷ []) (λ l. s2 (λ n. (name n ∷ []) ++ marks (codes "( . clk ( clk ) , . rst ( rst )")) (λ n. s_until join_tokens (λ (u : Unit {0}). marks (codes ") ;")))))
    (V2 all_values (λ l. V2 all_values (λ n. V_until all_values all_values))) top_item_tokens IsInstance any instance_of
    (both (one the_name) (λ l. both (closed (one the_name) (codes "( . clk ( clk ) , . rst ( rst )")) (λ n. until (is_mark (codes ",")) join_at (phrase (codes ") ;")))))
    (λ x v. refl) (λ x v. tt) instance_from
    (then_any name_form
    (λ l. then_any (closed_form (codes "( . clk ( clk ) , . rst ( rst )") refl refl name_form) (λ n. joins_form) (λ n v q. record { value = ([], tt); valid = (tt, tt); right = (tt, (tt, tt)) }))
    (λ l v q. record { value = (codes "a_0", ([], tt)); valid = (tt, (tt, tt)); right = (refl, right_append (marks (codes "( . clk ( clk ) , . rst ( rst )")) (marks (codes ") ;")) (right_marks (split (codes "( . clk ( clk ) , . rst ( rst )")) refl) (tt, (tt, tt))) }))

net_from : (y : TopItem) → IsNet y → (x : ℕ × Name) × Unit {0} × (Wire x.0 x.1 ≡ y)
net_from (Wire h n) v = ((h, n), tt, refl)
net_from (Instance l n joins) v = absurd v

net_leads : (x : TopItem) → IsNet x → Leads (is_mark (codes "wire")) (top_item_tokens x)
net_leads (Wire h n) v = refl
net_leads (Instance l n joins) v = absurd v

instance_leads : (x : TopItem) → IsInstance x → Leads (fails_at (is_mark (codes "wire"))) (top_item_tokens x)
instance_leads (Wire h n) v = absurd v
instance_leads (Instance l n joins) v = refl

top_item_split : (x : TopItem) → Unit {0} → IsNet x ⊎ IsInstance x
top_item_split (Wire h n) v = inl tt
top_item_split (Instance l n joins) v = inr tt

pub top_item_form : IsForm top_item_tokens all_values any top_item_at
unfolding top_item_at
top_item_form =
    either_form top_item_tokens IsNet IsInstance all_values (is_mark (codes "wire")) any (made (λ x. Wire x.0 x.1) wire_at) instance_at
    (λ x v. tt) (λ x v. tt) top_item_split net_leads (λ x front r w e m. leads_not (is_mark (codes "wire")) (top_item_tokens x) front r (instance_leads x w) e)
    (made_form wire_tokens all_values top_item_tokens IsNet any (λ x. Wire x.0 x.1) wire_at (λ x v. refl) (λ x v. tt) net_from wire_form)
    instance_form

top_goes_on : (x : TopItem) → Unit {0} → Leads goes_on (top_item_tokens x)
top_goes_on (Wire h n) v = refl
top_goes_on (Instance l n joins) v = refl

top_items_form : IsForm (s_until top_item_tokens (λ (u : Unit {0}). marks (codes "endmodule"))) (V_until all_values all_values) any (until goes_on top_item_at (phrase (codes "endmodule")))
top_items_form = until_form top_item_tokens all_values (λ (u : Unit {0}). marks (codes "endmodule")) all_values goes_on any any top_item_at (phrase (codes "endmodule"))
    top_goes_on (λ u v. refl) (λ u v. refl) go_any (record { value = tt; valid = tt; right = (tt, tt) }) top_item_form (phrase_form (codes "endmodule") refl)

abbrev top_rest : Top → List Token
top_rest t = head_tokens t.ports ++ (each top_item_tokens t.items ++ marks (codes "endmodule"))

abbrev noc_rest : Top → List Token
noc_rest t = marks (codes "noc") ++ top_rest t

abbrev TopOf : Type 0
TopOf = List Port × (List TopItem × Unit {0})

abbrev top_of : TopOf → Top
top_of x = record { ports = x.0; items = x.1.0 }

an_empty_top : AreTokens (marks (codes "( input wire clk , input wire rst ) ; endmodule"))
an_empty_top = right_marks (split (codes "( input wire clk , input wire rst ) ; endmodule")) refl

top_form : IsForm noc_rest all_values any top_at
unfolding top_at
top_form = same_form noc_rest all_values (λ x v. refl) (λ x v. tt) (λ x v. tt)
    (opened_form (codes "noc") refl (record { value = record { ports = []; items = [] }; valid = tt; right = an_empty_top })
    (made_form (s2 head_tokens (λ ports. s_until top_item_tokens (λ (u : Unit {0}). marks (codes "endmodule")))) (V2 all_values (λ ports. V_until all_values all_values)) top_rest all_values any top_of
    (both head_at (λ ports. until goes_on top_item_at (phrase (codes "endmodule"))))
    (λ x v. refl) (λ x v. tt) (λ y v. ((y.ports, (y.items, tt)), (tt, (all_true y.items, tt)), refl))
    (then_any head_form (λ ports. top_items_form) (λ ports v q. record { value = ([], tt); valid = (tt, tt); right = (tt, tt) }))))

-- ---- designs

leaf_leads : (l : values.Leaf) → LeafFits l → Leads is_name_token (leaf_rest l)
leaf_leads l v = refl

names_any : (k : Token) → is_name_token k ≡ true → any k ≡ true
names_any k e = refl

abbrev modules_rest : Design → List Token
modules_rest d = each leaf_rest d.leaves ++ noc_rest d.top

-- the word module of each leaf but the first stands with the leaf before it
shifted : (ls : List values.Leaf) (t : Top)
    → mark (codes "module") ∷ (each leaf_rest ls ++ noc_rest t) ≡ each leaf_tokens ls ++ top_tokens t
shifted [] t = refl
shifted (l ∷ ls) t =
    let more = shifted ls t in
    let ended : leaf_rest l ++ (each leaf_rest ls ++ noc_rest t) ≡ name l.name ∷ (head_tokens l.ports ++ (each item_tokens l.items ++ (mark (codes "endmodule") ∷ (mark (codes "module") ∷ (each leaf_rest ls ++ noc_rest t))))) =
    ap (λ ts. name l.name ∷ ts) (simp append_assoc) in
    let whole : leaf_tokens l ++ (each leaf_tokens ls ++ top_tokens t) ≡ mark (codes "module") ∷ (name l.name ∷ (head_tokens l.ports ++ (each item_tokens l.items ++ (mark (codes "endmodule") ∷ (each leaf_tokens ls ++ top_tokens t))))) =
    ap (λ ts. mark (codes "module") ∷ (name l.name ∷ ts)) (simp append_assoc) in
    ap (λ ts. mark (codes "module") ∷ ts) (append_assoc (leaf_rest l) (each leaf_rest ls) (noc_rest t) ∙ ended)
    ∙ ap (λ ts. mark (codes "module") ∷ (name l.name ∷ (head_tokens l.ports ++ (each item_tokens l.items ++ (mark (codes "endmodule") ∷ ts))))) more
    ∙ sym whole ∙ sym (append_assoc (leaf_tokens l) (each leaf_tokens ls) (top_tokens t))

abbrev DesignOf : Type 0
DesignOf = List values.Leaf × Top

abbrev design_of : DesignOf → Design
design_of x = record { leaves = x.0; top = x.1 }

pub a_design : Example design_tokens DesignFits
a_design =
    record { value = record { leaves = []; top = record { ports = []; items = [] } }; valid = tt; right = (tt, (tt, an_empty_top)) }

pub modules_form : IsForm design_tokens DesignFits any modules_at
unfolding modules_at
modules_form = same_form design_tokens DesignFits (λ d v. sym (shifted d.leaves d.top)) (λ x v. v) (λ x v. v)
    (opened_form (codes "module") refl (record { value = record { leaves = []; top = record { ports = []; items = [] } }; valid = tt; right = (tt, an_empty_top) })
    (made_form (s_until leaf_rest noc_rest) (V_until LeafFits all_values) modules_rest DesignFits any design_of (until is_name_token leaf_at top_at)
    (λ x v. refl) (λ x v. v.0) (λ y v. ((y.leaves, y.top), (v, tt), refl))
    (until_form leaf_rest LeafFits noc_rest all_values is_name_token any any leaf_at top_at
    leaf_leads (λ t v. refl) (λ t v. refl) names_any (record { value = record { ports = []; items = [] }; valid = tt; right = (tt, an_empty_top) }) leaf_form top_form)))
