-- The bytes of a domain's report.
use Rattle.std.specs.Prelude.{ℕ, Bool, true, false, List, [], ◌∷◌, ◌++◌, count_by, flat_map, decimal, codes}
use Rattle.surf_base.specs.Numbers.{hex_word}
use Rattle.noc_model.specs.declared.Event.{Event}
use Rattle.noc_model.specs.declared.Kind.{Kind}
use Rattle.noc_model.specs.declared.Kind.TheVariants.{Take, Wait, Drop, Got}
use Rattle.noc_model.specs.Plan.{Plan, name_of}

-- 0 or 1
abbrev pub bit_byte : Bool → ℕ
bit_byte false = 48
bit_byte true = 49

-- the word of the kind, and what it carries
abbrev pub kind_bytes : Kind → List ℕ
kind_bytes (Take w) = codes "take " ++ hex_word w
kind_bytes (Wait w) = codes "wait " ++ hex_word w
kind_bytes Drop = codes "drop"
kind_bytes (Got e) = codes "got " ++ bit_byte e.head ∷ bit_byte e.tail ∷ 32 ∷ hex_word e.payload

-- the cycle, the tile and the kind
abbrev pub event_line : Event → List ℕ
event_line e = decimal e.cycle ++ 32 ∷ decimal e.tile ++ 32 ∷ kind_bytes e.kind ++ 10 ∷ []

-- a word is taken
abbrev pub is_take : Kind → Bool
is_take (Take w) = true
is_take (Wait w) = false
is_take Drop = false
is_take (Got e) = false

-- a word is not taken
abbrev pub is_wait : Kind → Bool
is_wait (Take w) = false
is_wait (Wait w) = true
is_wait Drop = false
is_wait (Got e) = false

-- a word was dropped
abbrev pub is_drop : Kind → Bool
is_drop (Take w) = false
is_drop (Wait w) = false
is_drop Drop = true
is_drop (Got e) = false

-- a flit is given out
abbrev pub is_got : Kind → Bool
is_got (Take w) = false
is_got (Wait w) = false
is_got Drop = false
is_got (Got e) = true

-- the report of domain d: its name, a line for each event, and how many there are of each kind
abbrev pub report : Plan → ℕ → List Event → List ℕ
report p d es =
    codes "domain " ++ name_of p d ++ 10 ∷ flat_map event_line es
    ++ codes "end " ++ decimal (count_by (λ e. is_take e.kind) es)
    ++ 32 ∷ decimal (count_by (λ e. is_wait e.kind) es)
    ++ 32 ∷ decimal (count_by (λ e. is_drop e.kind) es)
    ++ 32 ∷ decimal (count_by (λ e. is_got e.kind) es) ++ 10 ∷ []
