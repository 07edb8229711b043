-- Texts that an audit passes isolate every domain.
use Rattle.std.proofs.Common.{◌≡◌, ℕ, ◌<◌, Bool, true, false, List, [], length, Ok, Err, refl, subst, arith}
use Rattle.std.specs.Prelude.{Option, Some, None, Result, nat_le, if◌then◌else◌}
use Rattle.noc_model.specs.Plan.{Plan}
use Rattle.vl_tree.specs.Values.{Design}
use Rattle.vl_tree.specs.Spells.{Spells}
use Rattle.vl_tree.specs.declared.fault.TextFault.{TextFault}
use Rattle.vl_tree.proofs.Designs.{plain_spelled}
use Rattle.vl_model.specs.Rules.{IsSound, first_fault}
use Rattle.gen_kit.specs.Ports.{ports_fault}
use Rattle.label_model.specs.Lawful.{Isolates}
use Rattle.label_audit.specs.Audited.{port_domain}
use Rattle.label_audit.proofs.Sayings.{clean-text-isolates}
use Rattle.surf_cli.specs.declared.files.FileKind.TheVariants.{Description, Text}
use Rattle.surf_cli.specs.Files.{limit_of}
use Rattle.surf_cli.specs.Contents.{Contents}
use Rattle.surf_cli.specs.Jobs.{Audit}
use Rattle.surf_cli.specs.TextRead.{text_read, unless, judged_design, judged_text}
use Rattle.surf_cli.specs.declared.statuses.End.TheVariants.{TooLong}
use Rattle.surf_cli.specs.Meaning.{Stops, Audits, Makes, Judged, Faulty, Described, judged, with_judged, if_sound, with_text, over}
use Rattle.surf_cli.specs.Laws.{AuditedIsolates}
use Rattle.surf_cli.proofs.Described.{described-sound}
use Rattle.surf_cli.proofs.TextReads.{spelled-back}

-- a text without a fault spells the design, which is sound and has the plan's ports
abbrev Read : Plan → List ℕ → Design → Type 0
Read p text d = Spells text d × IsSound d × (ports_fault p d ≡ None)

sound-back : (p : Plan) (text : List ℕ) (d : Design) → judged_text p text ≡ Ok d → Read p text d
unfolding judged_text
sound-back p text d e = go (text_read text) refl e
  where
    go : (read : Result Design TextFault) → text_read text ≡ read → judged_design p read ≡ Ok d → Read p text d
    go (Err fault) is h = absurd cc
    go (Ok x) is h = rules (first_fault x) refl (ports_fault p x) refl h
      where
        rules : (r : Option TextFault) → first_fault x ≡ r → (q : Option TextFault) → ports_fault p x ≡ q
            → unless r (unless q (Ok x)) ≡ Ok d → Read p text d
        rules (Some fault) first q ports k = absurd cc
        rules None first (Some fault) ports k = absurd cc
        rules None first None ports k =
            let same : x ≡ d = cc in
            let spelled = spelled-back text x is in
            subst (Read p text) same (spelled, record { plain = plain_spelled text x spelled; rules = first }, ports)

abbrev Passed : List ℕ → List ℕ → Type 0
Passed description text = (p : Plan) × (design : Design) × (judged description ≡ Described p) × Spells text design
    × IsSound design × (ports_fault p design ≡ None) × ((e : ℕ) → Isolates design (port_domain p) e)

passed : (held : Contents) (bytes : List ℕ) → Makes (over Audit held) bytes → Passed held.description held.text
passed held bytes made = go (judged held.description) refl made
  where
    go : (j : Judged) → judged held.description ≡ j
        → Makes (with_judged j (λ p. with_text p held.text (λ d. Audits p d))) bytes
        → Passed held.description held.text
    go (Faulty fault) is h = absurd h
    go (Described p) is h = text (judged_text p held.text) refl h
      where
        some : 0 < length p.slots
        some = let e = (described-sound held.description p is).slot_count.0 in omega (arith, e)

        text : (r : Result Design TextFault) → judged_text p held.text ≡ r
            → Makes (if_sound r (λ d. Audits p d)) bytes → Passed held.description held.text
        text (Err fault) read k = absurd k
        text (Ok d) read k =
            let back = sound-back p held.text d read in
            (p, d, is, back.0, back.1, back.2, clean-text-isolates p d back.1 some k.0)

-- what the files of an audit hold
abbrev held_of : List ℕ → List ℕ → Contents
held_of description text = record { description = description; text = text; trace = [] }

pub audited-isolates : AuditedIsolates
audited-isolates d v description text bytes made =
    go (nat_le (length description) (limit_of Description)) (nat_le (length text) (limit_of Text)) made
  where
    go : (a b : Bool)
        → Makes (if a then (if b then over Audit (held_of description text) else Stops TooLong) else Stops TooLong) bytes
        → Passed description text
    go true true h = passed (held_of description text) bytes h
    go true false h = absurd h
    go false b h = absurd h
