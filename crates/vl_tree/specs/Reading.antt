-- Reading tokens from left to right: a value and the tokens after it, or how many bytes are left from the first token
-- on that doesn't fit.
use Rattle.std.specs.Prelude.{ℕ, zero, suc, ◌==◌, Bool, true, false, not, if◌then◌else◌, List, [], ◌∷◌, length, Option, Some, None, Result, Ok, Err, codes, bytes_eq}
use Rattle.vl_tree.specs.declared.tree.Const.{Const}
use Rattle.vl_tree.specs.declared.tree.Op.{Op}
use Rattle.vl_tree.specs.declared.tree.Op.TheVariants.{Add, Sub, And, Or, Xor, Equal, Less}
use Rattle.vl_tree.specs.declared.tree.Port.{Port}
use Rattle.vl_tree.specs.declared.tree.Join.{Join}
use Rattle.vl_tree.specs.declared.tree.Top.{Top}
use Rattle.vl_tree.specs.declared.tree.TopItem.{TopItem}
use Rattle.vl_tree.specs.declared.tree.TopItem.TheVariants.{Wire, Instance}
use Rattle.vl_tree.specs.Tokens.{Token, mark, name, plain, sized, split, Placed}
use Rattle.vl_tree.specs.Grammar.{limit}
use Rattle.vl_tree.specs.Values as values
use Rattle.vl_tree.specs.Values.{Name, Expr, Exprs, net, number, bit, part, word, not as complement, two, choose, cat, no_parts, parts, Item, wire, reg, mem, assign, clocked, store, Design}

-- what reads a value from the front of the tokens, and gives the tokens after it, or the bytes that are left where it
-- fails
abbrev pub Reader : Type 0 → Type 0
Reader X = List Placed → Result (X × List Placed) ℕ

-- the bytes that are left where the next token begins
abbrev pub left_of : List Placed → ℕ
left_of [] = 0
left_of (t ∷ ts) = t.left

-- ---- how readers are put together

-- the value with the tokens after it, or the failure where there is no value
abbrev pub picked : {X : Type 0} → Option X → ℕ → List Placed → Result (X × List Placed) ℕ
picked None n ts = Err n
picked (Some x) n ts = Ok (x, ts)

-- one token, by what it is read as
abbrev pub one : {X : Type 0} → (Token → Option X) → Reader X
one f [] = Err 0
one f (t ∷ ts) = picked (f t.token) t.left ts

-- a value with the one that is read after it
abbrev pub paired : {X Y : Type 0} → X → Result (Y × List Placed) ℕ → Result ((X × Y) × List Placed) ℕ
paired x (Ok y) = Ok ((x, y.0), y.1)
paired x (Err n) = Err n

-- a value that was read, with what the next reader reads behind it
abbrev pub continued : {X Y : Type 0} → Result (X × List Placed) ℕ → (X → Reader Y) → Result ((X × Y) × List Placed) ℕ
continued (Ok x) k = paired x.0 (k x.0 x.1)
continued (Err n) k = Err n

-- one after the other
unfoldable pub both : {X Y : Type 0} → Reader X → (X → Reader Y) → Reader (X × Y)
both p k ts = continued (p ts) k

-- what was read, with a function applied to its value
abbrev pub made_of : {X Y : Type 0} → (X → Y) → Result (X × List Placed) ℕ → Result (Y × List Placed) ℕ
made_of f (Ok x) = Ok (f x.0, x.1)
made_of f (Err n) = Err n

-- a reader with a function applied to its value
unfoldable pub made : {X Y : Type 0} → (X → Y) → Reader X → Reader Y
made f p ts = made_of f (p ts)

-- whether the next token passes
abbrev pub next_passes : (Token → Bool) → List Placed → Bool
next_passes c [] = false
next_passes c (t ∷ ts) = c t.token

-- the first where the next token passes, and else the second
unfoldable pub either : {X : Type 0} → (Token → Bool) → Reader X → Reader X → Reader X
either c p q ts = if next_passes c ts then p ts else q ts

-- a value for which no token is read
unfoldable pub nothing : {X : Type 0} → X → Reader X
nothing x ts = Ok (x, ts)

-- no token fits
unfoldable pub none : {X : Type 0} → Reader X
none ts = Err (left_of ts)

-- a reader of the level below, where there is one; else no token fits
abbrev pub deeper : {X : Type 0} → ℕ → Reader X → Reader X
deeper zero p = none
deeper (suc d) p = p

-- as many as there are while the next token passes, fewer than n, and then what closes them
unfoldable pub until_within : {X Y : Type 0} → ℕ → (Token → Bool) → Reader X → Reader Y → Reader (List X × Y)
until_within zero c p q ts = none ts
until_within (suc n) c p q ts = either c (made (λ x. (x.0 ∷ x.1.0, x.1.1)) (both p (λ x. until_within n c p q)))
    (made (λ y. ([], y)) q) ts

-- the same, with at most as many as there are tokens
unfoldable pub until : {X Y : Type 0} → (Token → Bool) → Reader X → Reader Y → Reader (List X × Y)
until c p q ts = until_within (suc (length ts)) c p q ts

-- ---- single tokens

-- whether the token is this word or symbol
abbrev pub is_mark : List ℕ → Token → Bool
is_mark m (mark k) = bytes_eq k m
is_mark m (name n) = false
is_mark m (plain v) = false
is_mark m (sized w v) = false

-- whether the token is a name
abbrev pub is_name_token : Token → Bool
is_name_token (mark k) = false
is_name_token (name n) = true
is_name_token (plain v) = false
is_name_token (sized w v) = false

-- whether the token is a plain number
abbrev pub is_plain_token : Token → Bool
is_plain_token (mark k) = false
is_plain_token (name n) = false
is_plain_token (plain v) = true
is_plain_token (sized w v) = false

-- whether the token is a constant
abbrev pub is_sized_token : Token → Bool
is_sized_token (mark k) = false
is_sized_token (name n) = false
is_sized_token (plain v) = false
is_sized_token (sized w v) = true

-- the value where the test passes, and else none
abbrev pub only_if : {X : Type 0} → Bool → X → Option X
only_if b x = if b then Some x else None

-- this word or symbol
abbrev pub the_mark : List ℕ → Token → Option (Unit {0})
the_mark m t = only_if (is_mark m t) tt

-- any name
abbrev pub the_name : Token → Option Name
the_name (mark k) = None
the_name (name n) = Some n
the_name (plain v) = None
the_name (sized w v) = None

-- this name once more
abbrev pub the_same : Name → Token → Option (Unit {0})
the_same n (mark k) = None
the_same n (name m) = only_if (bytes_eq m n) tt
the_same n (plain v) = None
the_same n (sized w v) = None

-- any plain number
abbrev pub the_plain : Token → Option ℕ
the_plain (mark k) = None
the_plain (name n) = None
the_plain (plain v) = Some v
the_plain (sized w v) = None

-- the plain number 0
abbrev pub the_zero : Token → Option (Unit {0})
the_zero (mark k) = None
the_zero (name n) = None
the_zero (plain v) = only_if (v == 0) tt
the_zero (sized w v) = None

-- any constant
abbrev pub the_sized : Token → Option Const
the_sized (mark k) = None
the_sized (name n) = None
the_sized (plain v) = None
the_sized (sized w v) = Some (record { width = w; value = v })

-- the operator of a symbol
abbrev pub op_of : List ℕ → Option Op
op_of m =
    if bytes_eq m (codes "+") then Some Add else if bytes_eq m (codes "-") then Some Sub
    else if bytes_eq m (codes "&") then Some And else if bytes_eq m (codes "|") then Some Or
    else if bytes_eq m (codes "^") then Some Xor else if bytes_eq m (codes "==") then Some Equal
    else if bytes_eq m (codes "<") then Some Less else None

-- any operator
abbrev pub the_op : Token → Option Op
the_op (mark k) = op_of k
the_op (name n) = None
the_op (plain v) = None
the_op (sized w v) = None

-- the direction that a word names: true is output
abbrev pub way_of : List ℕ → Option Bool
way_of m = if bytes_eq m (codes "output") then Some true else if bytes_eq m (codes "input") then Some false else None

-- either direction of a port
abbrev pub the_way : Token → Option Bool
the_way (mark k) = way_of k
the_way (name n) = None
the_way (plain v) = None
the_way (sized w v) = None

-- these words and symbols
unfoldable pub phrase_of : List (List ℕ) → Reader (Unit {0})
phrase_of [] ts = Ok (tt, ts)
phrase_of (m ∷ ms) ts = made (λ x. tt) (both (one (the_mark m)) (λ x. phrase_of ms)) ts

-- the words and symbols of a text that has single spaces between them
abbrev pub phrase : List ℕ → Reader (Unit {0})
phrase text = phrase_of (split text)

-- a value, and then words and symbols
abbrev pub closed : {X : Type 0} → Reader X → List ℕ → Reader X
closed p text = made (λ x. x.0) (both p (λ x. phrase text))

-- words and symbols, and then a value
abbrev pub opened : {X : Type 0} → List ℕ → Reader X → Reader X
opened text p = made (λ x. x.1) (both (phrase text) (λ x. p))

-- ---- the lines of the grammar

-- the first of a pair
abbrev pub first : {X Y : Type 0} → X × Y → X
first x = x.0

-- the second of a pair
abbrev pub second : {X Y : Type 0} → X × Y → Y
second x = x.1

-- a range down to bit 0: the number of its most significant bit
unfoldable pub range_at : Reader ℕ
range_at = opened (codes "[") (made first
    (both (closed (one the_plain) (codes ":")) (λ h. closed (one the_zero) (codes "]"))))

-- what stands behind a name in an expression
pub data Pick : Type 0 where
  whole : Pick
  at_bit : ℕ → Pick
  at_part : ℕ → ℕ → Pick
  at_word : Expr → Pick

-- the expression of a name and of what stands behind it
abbrev pub picked_of : Name → Pick → Expr
picked_of n whole = net n
picked_of n (at_bit i) = bit n i
picked_of n (at_part h l) = part n h l
picked_of n (at_word e) = word n e

-- what stands behind the first operand
pub data Rest : Type 0 where
  with : Op → Expr → Rest
  which : Expr → Expr → Rest

-- the expression of a first operand and of what stands behind it
abbrev pub rest_of : Expr → Rest → Expr
rest_of a (with op b) = two op a b
rest_of a (which b c) = choose a b c

-- a list of expressions, as the parts of a concatenation
abbrev pub parts_from : List Expr → Exprs
parts_from [] = no_parts
parts_from (e ∷ es) = parts e (parts_from es)

-- one number picks a bit, and two pick the bits between them
abbrev pub pick_of : ℕ → Option ℕ → Pick
pick_of i None = at_bit i
pick_of h (Some l) = at_part h l

-- a bit or a part, behind the bracket
unfoldable pub numbers_at : Reader Pick
numbers_at = made (λ x. pick_of x.0 x.1)
    (both (one the_plain) (λ i. either (is_mark (codes ":"))
    (made (λ l. Some l) (opened (codes ":") (closed (one the_plain) (codes "]"))))
    (made (λ u. None) (phrase (codes "]")))))

-- the readers of one level take the one of the level below
unfoldable pub pick_at : ℕ → Reader Expr → Reader Pick
pick_at d below = either (is_mark (codes "["))
    (opened (codes "[") (either is_plain_token numbers_at (deeper d (made at_word (closed below (codes "]"))))))
    (nothing whole)

-- a question mark and both branches, or an operator and its second operand
unfoldable pub rest_at : Reader Expr → Reader Rest
rest_at below =
    either (is_mark (codes "?"))
    (made (λ x. which x.0 x.1) (both (opened (codes "?") below) (λ b. opened (codes ":") below)))
    (made (λ x. with x.0 x.1) (both (one the_op) (λ op. below)))

-- what stands in round brackets: a complement, a choice, or an operator over two operands
unfoldable pub group_at : Reader Expr → Reader Expr
group_at below =
    opened (codes "(") (closed (either (is_mark (codes "~")) (made complement (opened (codes "~") below))
    (made (λ x. rest_of x.0 x.1) (both below (λ a. rest_at below)))) (codes ")"))

-- a concatenation, which has a part at least
unfoldable pub cat_at : Reader Expr → Reader Expr
cat_at below = opened (codes "{") (made (λ x. cat (parts x.0 (parts_from x.1.0)))
    (both below (λ e. until (is_mark (codes ",")) (opened (codes ",") below) (phrase (codes "}")))))

-- a name with what stands behind it, a constant, a group or a concatenation
unfoldable pub level_at : ℕ → Reader Expr → Reader Expr
level_at d below =
    either is_name_token (made (λ x. picked_of x.0 x.1) (both (one the_name) (λ n. pick_at d below)))
    (either is_sized_token (made number (one the_sized))
    (deeper d (either (is_mark (codes "(")) (group_at below) (cat_at below))))

-- an expression of at most so many levels
unfoldable pub expr_at : ℕ → Reader Expr
expr_at zero = none
expr_at (suc d) = level_at d (expr_at d)

-- an expression within the limit
unfoldable pub whole_expr : Reader Expr
whole_expr = expr_at limit

-- ---- items

-- the declaration of a wire: the number of its most significant bit, and its name
unfoldable pub wire_at : Reader (ℕ × Name)
wire_at = opened (codes "wire") (closed (both range_at (λ h. one the_name)) (codes ";"))

-- a register, or a memory where the number of its last word is known
abbrev pub reg_of : (ℕ × Name) → Option ℕ → Item
reg_of x None = reg x.0 x.1
reg_of x (Some last) = mem x.0 x.1 last

-- the declaration of a register or of a memory
unfoldable pub reg_at : Reader Item
reg_at = opened (codes "reg") (made (λ x. reg_of x.0 x.1) (both (both range_at (λ h. one the_name)) (λ x.
    either (is_mark (codes "[")) (made (λ l. Some l) (opened (codes "[")
    (made second (both (closed (one the_zero) (codes ":")) (λ z. closed (one the_plain) (codes "] ;"))))))
    (made (λ u. None) (phrase (codes ";"))))))

-- an assign
unfoldable pub assign_at : Reader Item
assign_at = opened (codes "assign") (made (λ x. assign x.0 x.1)
    (both (closed (one the_name) (codes "=")) (λ n. closed whole_expr (codes ";"))))

-- the move of a register, from the word rst on
unfoldable pub clocked_at : Reader Item
clocked_at = opened (codes "rst )") (made (λ x. clocked x.0.0 x.0.1 x.1.1)
    (both (both (closed (one the_name) (codes "<=")) (λ n. closed (one the_sized) (codes "; else"))) (λ x.
    both (closed (one (the_same x.0)) (codes "<=")) (λ u. closed whole_expr (codes ";")))))

-- a store into a memory, from its enable on
unfoldable pub store_at : Reader Item
store_at = made (λ x. store x.0 x.1.0 x.1.1.0 x.1.1.1) (both (closed whole_expr (codes ")")) (λ c.
    both (closed (one the_name) (codes "["))
    (λ n. both (closed whole_expr (codes "] <=")) (λ i. closed whole_expr (codes ";")))))

-- the move of a register, or a store into a memory
unfoldable pub always_at : Reader Item
always_at = opened (codes "always @ ( posedge clk ) if (") (either (is_mark (codes "rst")) clocked_at store_at)

-- an item of a leaf, by its first word
unfoldable pub item_at : Reader Item
item_at =
    either (is_mark (codes "wire")) (made (λ x. wire x.0 x.1) wire_at)
    (either (is_mark (codes "reg")) reg_at (either (is_mark (codes "assign")) assign_at always_at))

-- ---- modules

-- a port with the comma before it
unfoldable pub port_at : Reader Port
port_at = opened (codes ",") (made (λ x. record {
  output = x.0;
  high = x.1.0;
  name = x.1.1;
}) (both (closed (one the_way) (codes "wire")) (λ o. both range_at (λ h. one the_name))))

-- what stands between a module's name and its items
unfoldable pub head_at : Reader (List Port)
head_at = opened (codes "( input wire clk , input wire rst")
    (made first (until (is_mark (codes ",")) port_at (phrase (codes ") ;"))))

-- whether the module has another item
abbrev pub goes_on : Token → Bool
goes_on t = not (is_mark (codes "endmodule") t)

-- a leaf from its name on, with the word that begins the next module
unfoldable pub leaf_at : Reader values.Leaf
leaf_at = made (λ x. record { name = x.0; ports = x.1.0; items = x.1.1.0 })
    (both (one the_name) (λ n. both head_at (λ ports. until goes_on item_at (phrase (codes "endmodule module")))))

-- a join with the comma before it
unfoldable pub join_at : Reader Join
join_at = opened (codes ", .") (made (λ x. record {
  port = x.0;
  net = x.1;
}) (both (closed (one the_name) (codes "(")) (λ p. closed (one the_name) (codes ")"))))

-- an instance with its joins
unfoldable pub instance_at : Reader TopItem
instance_at = made (λ x. Instance x.0 x.1.0 x.1.1.0)
    (both (one the_name) (λ l. both (closed (one the_name) (codes "( . clk ( clk ) , . rst ( rst )")) (λ n.
    until (is_mark (codes ",")) join_at (phrase (codes ") ;")))))

-- a wire of the top, or an instance
unfoldable pub top_item_at : Reader TopItem
top_item_at = either (is_mark (codes "wire")) (made (λ x. Wire x.0 x.1) wire_at) instance_at

-- the top from its word noc on
unfoldable pub top_at : Reader Top
top_at = opened (codes "noc") (made (λ x. record {
  ports = x.0;
  items = x.1.0;
}) (both head_at (λ ports. until goes_on top_item_at (phrase (codes "endmodule")))))

-- all leaves, and then the top
unfoldable pub modules_at : Reader Design
modules_at = opened (codes "module") (made (λ x. record {
  leaves = x.0;
  top = x.1;
}) (until is_name_token leaf_at top_at))

-- the design, where no token is left behind it
abbrev pub ended_at : Design → List Placed → Result Design ℕ
ended_at d [] = Ok d
ended_at d (t ∷ ts) = Err t.left

-- the design that was read, where no token is left behind it
abbrev pub ended : Result (Design × List Placed) ℕ → Result Design ℕ
ended (Err n) = Err n
ended (Ok x) = ended_at x.0 x.1

-- the design of all the tokens
unfoldable pub design_at : List Placed → Result Design ℕ
design_at ts = ended (modules_at ts)
