-- What the files in memory hold after one more is put.
use Rattle.std.proofs.Common.{◌≡◌, ◌≢◌, ℕ, ◌+◌, ◌<◌, Bool, true, false, if◌then◌else◌, List, [], ◌∷◌, ◌++◌, length, take, drop, Option, MatchOption, Some, None, refl, ap, sym, ◌∙◌, arith}
use Rattle.std.specs.List.{slice_get}
use Rattle.std.specs.Option.{option_map_or}
use Rattle.std.specs.Str.{bytes_eq}
use Rattle.std.proofs.lemmas.Grind.{common_steps}
use Rattle.std.proofs.lemmas.List.{take_more}
use Rattle.std.proofs.lemmas.List.Sums.{fold-append}
use Rattle.std.proofs.lemmas.Option.{gets, get_or_from_slice_get}
use Rattle.std.proofs.lemmas.Slice.Eq.{bytes_eq-Decides}
use Rattle.surf_base.specs.Outside.{Absent, Holds}
use Rattle.surf_base.specs.HeldIn.{held_in, content_at}
use Rattle.surf_base.specs.declared.mem_files.MemFile.{MemFile}

-- one more file decides for its name
pub held_in-push : (files : List MemFile) (file : MemFile) (name : List ℕ)
    → held_in (files ++ file ∷ []) name ≡ (if bytes_eq file.name name then Holds file.content else held_in files name)
held_in-push files file name = rw fold-append refl

-- its name holds its content
pub held_in-put : (old new : List MemFile) (file : MemFile) (name : List ℕ)
    → new ≡ old ++ file ∷ [] → file.name ≡ name → held_in new name ≡ Holds file.content
held_in-put old new file name put named =
    let same : bytes_eq file.name name ≡ true = (bytes_eq-Decides file.name name).1 named in
    rw (put, held_in-push old file name, same) refl

-- each other name holds what it did
pub held_in-others : (old new : List MemFile) (file : MemFile) (name other : List ℕ)
    → new ≡ old ++ file ∷ [] → file.name ≡ name → other ≢ name → held_in new other ≡ held_in old other
held_in-others old new file name other put named differs =
    let differs' : bytes_eq file.name other ≡ false =
    not_same (λ e. differs (sym (bytes_eq-same file.name other e) ∙ named)) in
    rw (put, held_in-push old file other, differs') refl
  where
    bytes_eq-same : (xs ys : List ℕ) → bytes_eq xs ys ≡ true → xs ≡ ys
    bytes_eq-same xs ys = (bytes_eq-Decides xs ys).0

    not_same : {b : Bool} → (b ≡ true → ⊥) → b ≡ false
    not_same {b = true} h = absurd (h refl)
    not_same {b = false} h = refl

-- an earlier file keeps its content
pub content_at-push : (old new : List MemFile) (file : MemFile) (i : ℕ) → new ≡ old ++ file ∷ [] → i < length old
    → content_at new i ≡ content_at old i
content_at-push old new file i put before =
    let found : slice_get new i ≡ slice_get old i = grind (arith, common_steps, gets) in
    ap (λ o. option_map_or (λ (f : MemFile). f.content) o []) found

-- what is left of the opened file stays
pub left-put : (opened : Bool) (taken i : ℕ) (old new : List MemFile) (file : MemFile)
    → (opened ≡ true → i < length old) → new ≡ old ++ file ∷ []
    → (if opened then Some (drop taken (content_at new i)) else None) ≡ (if opened then Some (drop taken (content_at old i)) else None)
left-put true taken i old new file in_range put =
    ap (λ content. Some (drop taken content)) (content_at-push old new file i put (in_range refl))
left-put false taken i old new file in_range put = refl

-- the first files and the next one
pub take_next : (files : List MemFile) (n : ℕ) (file : MemFile)
    → n < length files → slice_get files n ≡ Some file → take (n + 1) files ≡ take n files ++ file ∷ []
take_next files n file before is = rw (take_more files n file before, get_or_from_slice_get files n file file is) refl

-- which of the first `n` files is the last one of the name
abbrev pub IsLast : List MemFile → List ℕ → ℕ → Option ℕ → Type 0
IsLast files name n found =
    MatchOption found (held_in (take n files) name ≡ Absent) (λ k. (k < length files) × (held_in (take n files) name ≡ Holds (content_at files k)))

-- the next file has the name
pub IsLast-same : (files : List MemFile) (name : List ℕ) (n : ℕ) (file : MemFile)
    → n < length files → slice_get files n ≡ Some file → file.name ≡ name → IsLast files name (n + 1) (Some n)
IsLast-same files name n file before is named =
    let content : content_at files n ≡ file.content = ap (λ o. option_map_or (λ (f : MemFile). f.content) o []) is in
    (before, held_in-put (take n files) (take (n + 1) files) file name (take_next files n file before is) named ∙ ap Holds (sym content))

-- the next file has another name
pub IsLast-differs : (files : List MemFile) (name : List ℕ) (n : ℕ) (file : MemFile) (found : Option ℕ)
    → n < length files → slice_get files n ≡ Some file → name ≢ file.name → IsLast files name n found
    → IsLast files name (n + 1) found
IsLast-differs files name n file None before is differs last =
    held_in-others (take n files) (take (n + 1) files) file file.name name (take_next files n file before is) refl differs
    ∙ last
IsLast-differs files name n file (Some k) before is differs last =
    (last.0, held_in-others (take n files) (take (n + 1) files) file file.name name (take_next files n file before is) refl differs ∙ last.1)
