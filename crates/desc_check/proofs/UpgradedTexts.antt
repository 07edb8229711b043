-- The texts of an upgraded draft are UTF-8.
use Rattle.std.proofs.Common.{◌≡◌, ℕ, zero, suc, ◌<◌, inl, inr, Bool, true, false, List, [], ◌∷◌, map, get_or, subst, rules, arith, lit<, if◌then◌else◌}
use Rattle.std.specs.Prelude.{All, codes}
use Rattle.std.specs.Str.{IsAscii, is_utf8}
use Rattle.std.proofs.lemmas.Str.{is_utf8-from_IsUtf8, IsUtf8-from_ascii, IsUtf8-nil}
use Rattle.std.proofs.lemmas.Option.{slice_get_cases}
use Rattle.std.proofs.lemmas.List.Elements.{All-map}
use Rattle.noc_model.specs.declared.plan.DomainPart.{DomainPart}
use Rattle.noc_model.specs.Plan.{Plan, name_of}
use Rattle.noc_model.specs.Sound.{IsNameByte, IsName, IsSound}
use Rattle.noc_desc.specs.declared.DraftDomain.{DraftDomain}
use Rattle.noc_desc.specs.declared.DraftTile.{DraftTile}
use Rattle.noc_desc.specs.Document.{AreTexts}
use Rattle.desc_check.specs.Upgrade.{hosted_by, tile_of, hosting, domain_draft, upgrade_of}

small : (b : ℕ) → IsNameByte b → b < 128
small b (inl h) = omega arith
small b (inr (inl h)) = omega arith
small b (inr (inr (inl h))) = omega arith
small b (inr (inr (inr (inl h)))) = omega arith
small b (inr (inr (inr (inr h)))) = omega arith

ascii : (bs : List ℕ) → All IsNameByte bs → IsAscii bs
ascii [] each i = lit< tt
ascii (b ∷ bs) each zero = small b (each 0 0 (omega arith))
ascii (b ∷ bs) each (suc i) = ascii bs (λ k z less. each (suc k) z (omega (arith, less))) i

ascii-text : (bs : List ℕ) → IsAscii bs → is_utf8 bs ≡ true
ascii-text bs h = is_utf8-from_IsUtf8 bs (IsUtf8-from_ascii bs h)

name-text : (p : Plan) → IsSound p → (d : ℕ) → is_utf8 (name_of p d) ≡ true
name-text p sound d = elim (slice_get_cases p.domains d).1 [
  | inl found ↦
      rw found.2 (let named = subst (λ (x : DomainPart). IsName x.name) found.3 (sound.names d found.0 found.1) in ascii-text (found.0).name (ascii (found.0).name named.2))
  | inr none ↦ rw none.1 (is_utf8-from_IsUtf8 [] IsUtf8-nil)
]

all-by : {X Y : Type 0} (P : Y → Type 0) (f : X → Y) → ((x : X) → P (f x)) → (xs : List X) → All P (map f xs)
all-by P f each xs = All-map P f xs (λ k z less. each (get_or xs k z))

shape-text : (b : Bool) → is_utf8 (if b then codes "torus" else codes "mesh") ≡ true
shape-text true = ascii-text (codes "torus") (search rules)
shape-text false = ascii-text (codes "mesh") (search rules)

-- the texts of a sound plan's draft
pub upgrade-texts : (p : Plan) → IsSound p → AreTexts (upgrade_of p)
upgrade-texts p sound = record {
  shape = shape-text p.torus;
  names = All-map (λ (x : DraftDomain). is_utf8 x.name ≡ true) domain_draft p.domains (λ k z less. (let named = sound.names k z less in ascii-text _ (ascii _ named.2)));
  hosts = all-by (λ (x : DraftTile). All (λ (n : List ℕ). is_utf8 n ≡ true) x.domains) (tile_of p) (λ n. all-by (λ (x : List ℕ). is_utf8 x ≡ true) (name_of p) (name-text p sound) (hosted_by p n)) (hosting p);
  slots = all-by (λ (x : List ℕ). is_utf8 x ≡ true) (name_of p) (name-text p sound) p.slots;
}
