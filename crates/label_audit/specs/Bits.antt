-- What the bits of the code stand for.
use Rattle.std.specs.Prelude.{ℕ, ◌==◌, ◌&&◌, nat_lt}
use Rattle.std.specs.Int.{bit_at}
use Rattle.label_model.specs.Labels.{Domains, Label, known, from}
use Rattle.label_audit.specs.declared.bit.Bit.{Bit}
use Rattle.label_audit.specs.declared.bit.Bit.TheVariants.{Known, From}

-- the set that a number has by its 16 bits
abbrev pub domains_in : ℕ → Domains
domains_in mask e = nat_lt e 16 && (bit_at mask e == 1)

-- the number of the domains that a bit may depend on
abbrev pub mask_in : Bit → ℕ
mask_in (Known b) = 0
mask_in (From mask) = mask

-- the label of a bit
abbrev pub label_in : Bit → Label
label_in (Known b) = known b
label_in (From mask) = from (domains_in mask)
