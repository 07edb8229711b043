-- The names of a leaf's own. A letter says what is named, and its case whether the domain is even or odd; a number follows
-- that says the domain and the port, then an underscore, and a second number unless that is 0. So most names have three
-- or four bytes, and none is a port's, whose second byte is a letter.
--
-- A tag is below 1024 for a buffer (64 for each domain, 8 for each port, 1 for each channel), from 2048 on for nets (128
-- for each domain, 8 for each stage, 1 for each port), and from 5120 on for registers (64 for each domain). From 1024
-- and from 4096 on stand the tags of what no domain has.
use Rattle.std.specs.Prelude.{ℕ, ◌+◌, ◌-◌, ◌*◌, ◌/◌, ◌%◌, ◌==◌, nat_lt, List, [], ◌∷◌, ◌++◌, flat_map, if◌then◌else◌, decimal}
use Rattle.vl_tree.specs.Values.{Name}

-- a domain and a port as one number: one digit for each port below 5 of the first four domains
abbrev pub domain_port : ℕ → ℕ → ℕ
domain_port d port = 16 * (d / 4) + 2 * port + d / 2 % 2

-- a capital letter in an even domain and a small one in an odd domain, and a number
abbrev pub lettered : ℕ → ℕ → ℕ → List ℕ
lettered kind d number = (65 + 32 * (d % 2) + kind) ∷ decimal number

-- what the names of a tag begin with: A to P are the stages of nets, Q to X those of registers, Y buffers, and Z is what
-- no domain has
unfoldable pub own_front : ℕ → List ℕ
own_front t =
    if nat_lt t 1024 then lettered 24 (t / 64) (64 * (t % 8) + domain_port (t / 64) (t / 8 % 8))
    else if nat_lt t 2048 then lettered 25 (t / 512) (t % 512)
    else if nat_lt t 4096 then lettered (t / 8 % 16) (t / 128) (domain_port (t / 128 - 16) (t % 8))
    else if nat_lt t 5120 then lettered 25 (t / 512) (512 + t % 512)
    else lettered (16 + t / 8 % 8) (t / 64) (domain_port (t / 64 - 80) (t % 8))

-- the digits of a number, and none of 0
abbrev pub short_decimal : ℕ → List ℕ
short_decimal n = if n == 0 then [] else decimal n

-- the name of a tag's own: its front, and then for each number an underscore and its digits, 0 without any
abbrev pub own_name_of : ℕ → List ℕ → Name
own_name_of tag ns = own_front tag ++ flat_map (λ n. 95 ∷ short_decimal n) ns
