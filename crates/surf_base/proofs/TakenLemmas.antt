-- Laws of reading a file in pieces.
use Rattle.std.proofs.Common.{◌≡◌, ℕ, List, ◌++◌, take, drop, Option, Some, None, refl, append_assoc}
use Rattle.std.proofs.lemmas.List.{take-append-drop}
use Rattle.surf_base.specs.Outside.{HandsOn}
use Rattle.surf_base.specs.Taken.{content_of}

-- a read changes nothing of the whole content
pub content_of-next : (had got piece : List ℕ) (old new : Option (List ℕ)) (n : ℕ)
    → got ≡ had ++ take n piece → HandsOn n piece old new → (old ≡ None → new ≡ None)
    → content_of got new ≡ content_of had old
content_of-next had got piece None new n gets observed unobserved = rw (unobserved refl) refl
content_of-next had got piece (Some rest) new n gets observed unobserved =
    let facts = observed rest refl in
    rw (gets, facts.2, facts.1, append_assoc had (take n rest) (drop n rest), take-append-drop n rest) refl
