-- Files that are read one after another.
use Rattle.std.proofs.Common.{◌⊎◌, inl, inr, ◌≡◌, ◌≢◌, ℕ, ◌+◌, ◌<◌, ◌≤◌, true, false, List, [], ◌∷◌, length, refl, sym, ap, ◌∙◌, subst, arith, if◌then◌else◌, Vec, Global}
use Rattle.std.specs.Prelude.{nat_le, replicate, Option, Some, None, Result, Ok, Err, IfOk, IfErr, IsErrOf, vec_len}
use Rattle.std.proofs.lemmas.Bool.Decides.{nat_tests}
use Rattle.std.proofs.lemmas.List.{length-replicate}
use Rattle.surf_base.specs.Outside.{Held, Unobserved, Absent, Holds, Rose}
use Rattle.surf_base.specs.Taken.{OnFailed, OnTooLong, UnlessTooLong}
use Rattle.surf_base.specs.declared.reading.TakeFault.{TakeFault}
use Rattle.surf_base.specs.declared.reading.TakeFault.TheVariants as fault
use Rattle.surf_base.proofs.OutsideLemmas.{Rose-wider}
use Rattle.surf_cli.specs.declared.files.FileKind.{FileKind}
use Rattle.surf_cli.specs.declared.statuses.End.TheVariants.{TooLong}
use Rattle.surf_cli.specs.Files.{NamedFile, limit_of}
use Rattle.surf_cli.specs.Contents.{Contents, with_content}
use Rattle.surf_cli.specs.Meaning.{Outcome, Stops, with_file, with_files}
use Rattle.surf_cli.specs.Runs.{MayHold, MayHoldAll, NamesAbsent, WithinLast}
use Rattle.surf_cli.specs.Reading.{GotFile, NotGot, GotFiles, GotNone, IsCause, StopsAt}

-- ---- one file

read-short : (kind : FileKind) (bytes : List ℕ) → length bytes ≤ limit_of kind → (next : List ℕ → Outcome) → with_file kind (Some bytes) next ≡ next bytes
read-short kind bytes short next =
    let fits : nat_le (length bytes) (limit_of kind) ≡ true = grind (arith, nat_tests) in
    ap (λ b. if b then next bytes else Stops TooLong) fits

read-long : (kind : FileKind) (bytes : List ℕ) → limit_of kind < length bytes → (next : List ℕ → Outcome) → with_file kind (Some bytes) next ≡ Stops TooLong
read-long kind bytes long next =
    let past : nat_le (length bytes) (limit_of kind) ≡ false = grind (arith, nat_tests) in
    ap (λ b. if b then next bytes else Stops TooLong) past

may-hold : (held : Held) (bytes : List ℕ) → held ≢ Absent → ((told : List ℕ) → held ≡ Holds told → bytes ≡ told) → MayHold held (Some bytes)
may-hold Unobserved bytes present same = tt
may-hold Absent bytes present same = absurd (present refl)
may-hold (Holds told) bytes present same = ap Some (same told refl)

-- a file that was read whole
pub file-got : (file : NamedFile) (held held' : List ℕ → Held) (a b t : ℕ) (r : Result (Vec ℕ Global) TakeFault) → held' ≡ held → a ≤ b → IfOk r (λ v. vec_len v ≡ t) → UnlessTooLong r (t ≤ limit_of file.kind)
    → ((bytes : List ℕ) → held file.name ≡ Holds bytes → IfOk r (λ v. v.items ≡ bytes)) → (held file.name ≡ Absent → IsErrOf r fault.Failed) → IfOk r (λ v. GotFile file held held' a b t v.items)
file-got file held held' a b t (Ok v) stays counts count within content absent = record {
  stays = stays;
  counts = counts;
  within = within;
  observed = may-hold (held file.name) v.items (λ gone. (let e = absent gone in absurd cc)) content;
  short = omega (arith, count, within);
}
file-got file held held' a b t (Err f) stays counts count within content absent = tt

-- what a file of which this is observed may hold
some-content : Held → Option (List ℕ)
some-content Unobserved = None
some-content Absent = None
some-content (Holds bytes) = Some bytes

may-some : (held : Held) → MayHold held (some-content held)
unfolding some-content
may-some Unobserved = tt
may-some Absent = refl
may-some (Holds bytes) = refl

-- what a file may hold that is too long
record Long (kind : FileKind) (held : Held) : Type 0 where
  content : Option (List ℕ)
  observed : MayHold held content
  meant : (next : List ℕ → Outcome) → with_file kind content next ≡ Stops TooLong

long-content : (kind : FileKind) (held : Held) → held ≢ Absent → ((told : List ℕ) → held ≡ Holds told → limit_of kind < length told) → Long kind held
long-content kind Unobserved present longer = record {
  content = Some (replicate (limit_of kind + 1) 0);
  observed = tt;
  meant = read-long kind (replicate (limit_of kind + 1) 0) (omega (arith, length-replicate {A = ℕ} (limit_of kind + 1) 0));
}
long-content kind Absent present longer = absurd (present refl)
long-content kind (Holds told) present longer = record { content = Some told; observed = refl; meant = read-long kind told (longer told refl) }

not-got : (file : NamedFile) (held held' : List ℕ → Held) (a b t : ℕ) (f : TakeFault) → held' ≡ held → a ≤ b → OnFailed {T = Vec ℕ Global} (Err f) (Rose a b ⊎ (held file.name ≡ Absent))
    → OnTooLong {T = Vec ℕ Global} (Err f) (t ≡ limit_of file.kind + 1) → ((bytes : List ℕ) → held file.name ≡ Holds bytes → OnTooLong {T = Vec ℕ Global} (Err f) (limit_of file.kind < length bytes))
    → (held file.name ≡ Absent → f ≡ fault.Failed) → NotGot file held held' a b t f
not-got file held held' a b t fault.Failed stays counts (inl rose) past longer absent = record {
  stays = stays;
  counts = counts;
  cause = inl rose;
  content = some-content (held file.name);
  observed = may-some (held file.name);
  meant = λ next. inl rose;
}
not-got file held held' a b t fault.Failed stays counts (inr gone) past longer absent = record {
  stays = stays;
  counts = counts;
  cause = inr (inl gone);
  content = None;
  observed = subst (λ h. MayHold h None) (sym gone) refl;
  meant = λ next. inr refl;
}
not-got file held held' a b t fault.TooLong stays counts failed past longer absent =
    let long = long-content file.kind (held file.name) (λ gone. (let e = absent gone in absurd cc)) longer in
    record { stays = stays; counts = counts; cause = inl past; content = long.content; observed = long.observed; meant = long.meant }
not-got file held held' a b t (fault.Memory refused) stays counts failed past longer absent = record {
  stays = stays;
  counts = counts;
  cause = tt;
  content = some-content (held file.name);
  observed = may-some (held file.name);
  meant = λ next. tt;
}

-- a file that was not read
pub file-not-got : (file : NamedFile) (held held' : List ℕ → Held) (a b t : ℕ) (r : Result (Vec ℕ Global) TakeFault) → held' ≡ held → a ≤ b → OnFailed r (Rose a b ⊎ (held file.name ≡ Absent))
    → OnTooLong r (t ≡ limit_of file.kind + 1) → ((bytes : List ℕ) → held file.name ≡ Holds bytes → OnTooLong r (limit_of file.kind < length bytes)) → (held file.name ≡ Absent → IsErrOf r fault.Failed)
    → IfErr r (λ f. NotGot file held held' a b t f)
file-not-got file held held' a b t (Ok v) stays counts failed past longer absent = tt
file-not-got file held held' a b t (Err f) stays counts failed past longer absent = not-got file held held' a b t f stays counts failed past longer (λ gone. (let e = absent gone in cc))

-- ---- one after another

within-more : (taken taken' : ℕ) (file : NamedFile) (files : List NamedFile) → taken ≤ limit_of file.kind → (files ≡ [] → taken' ≡ taken) → WithinLast taken' files → WithinLast taken' (file ∷ files)
within-more taken taken' file [] within stays more = (let e = stays refl in omega arith)
within-more taken taken' file (next ∷ files) within stays more = more

-- one file, and then the others
pub files-read : (list : List NamedFile) (held held' held'' : List ℕ → Held) (file : NamedFile) (files : List NamedFile) (a b c t u : ℕ) (bytes : List ℕ) (got mid got' : Contents)
    → list ≡ file ∷ files → GotFile file held held' a b t bytes → mid ≡ with_content file.kind bytes got → GotFiles files held' held'' b c u mid got' → (files ≡ [] → u ≡ t)
    → GotFiles list held held'' a c u got got'
files-read list held held' held'' file files a b c t u bytes got mid got' e first is more still =
    subst (λ xs. GotFiles xs held held'' a c u got got') (sym e)
    (record {
      stays = more.stays ∙ first.stays;
      counts = omega (arith, first.counts, more.counts);
      within = within-more t u file files first.within still more.within;
      contents = Some bytes ∷ more.contents;
      observed = (first.observed, subst (λ h. MayHoldAll h files more.contents) first.stays more.observed);
      meant = λ next.
          read-short file.kind bytes first.short (λ x. with_files files more.contents (with_content file.kind x got) next)
          ∙ ap (λ z. with_files files more.contents z next) (sym is)
          ∙ more.meant next;
    })

-- what files of which this is observed may hold
some-contents : (List ℕ → Held) → List NamedFile → List (Option (List ℕ))
some-contents held [] = []
some-contents held (file ∷ files) = some-content (held file.name) ∷ some-contents held files

may-some-all : (held : List ℕ → Held) (files : List NamedFile) → MayHoldAll held files (some-contents held files)
unfolding some-contents
may-some-all held [] = tt
may-some-all held (file ∷ files) = (may-some (held file.name), may-some-all held files)

cause-first : (file : NamedFile) (files : List NamedFile) (f : TakeFault) (held : List ℕ → Held) (a b t : ℕ) → IsCause (file ∷ []) f held a b t → IsCause (file ∷ files) f held a b t
cause-first file files fault.Failed held a b t (inl rose) = inl rose
cause-first file files fault.Failed held a b t (inr (inl gone)) = inr (inl gone)
cause-first file files fault.Failed held a b t (inr (inr never)) = absurd never
cause-first file files fault.TooLong held a b t (inl past) = inl past
cause-first file files fault.TooLong held a b t (inr never) = absurd never
cause-first file files (fault.Memory refused) held a b t cause = tt

-- the first is not read
pub none-first : (list : List NamedFile) (held held' : List ℕ → Held) (file : NamedFile) (files : List NamedFile) (a b t : ℕ) (f : TakeFault)
    → list ≡ file ∷ files → NotGot file held held' a b t f → GotNone list held held' a b t f
none-first list held held' file files a b t f e first =
    subst (λ xs. GotNone xs held held' a b t f) (sym e)
    (record {
      stays = first.stays;
      counts = first.counts;
      some = λ none. absurd cc;
      cause = cause-first file files f held a b t first.cause;
      contents = first.content ∷ some-contents held files;
      observed = (first.observed, may-some-all held files);
      meant = λ got next. first.meant (λ bytes. with_files files (some-contents held files) (with_content file.kind bytes got) next);
    })

cause-later : (file : NamedFile) (files : List NamedFile) (f : TakeFault) (held held' : List ℕ → Held) (a b c t : ℕ) → held' ≡ held → a ≤ b → IsCause files f held' b c t → IsCause (file ∷ files) f held a c t
cause-later file files fault.Failed held held' a b c t stays less (inl rose) = inl (Rose-wider a b c c less (omega arith) rose)
cause-later file files fault.Failed held held' a b c t stays less (inr gone) = inr (inr (subst (λ h. NamesAbsent h files) stays gone))
cause-later file files fault.TooLong held held' a b c t stays less past = inr past
cause-later file files (fault.Memory refused) held held' a b c t stays less cause = tt

stops-later : (m m' : Outcome) (f : TakeFault) (a b c : ℕ) → m ≡ m' → a ≤ b → StopsAt m' f b c → StopsAt m f a c
stops-later m m' fault.Failed a b c e less (inl rose) = inl (Rose-wider a b c c less (omega arith) rose)
stops-later m m' fault.Failed a b c e less (inr ends) = inr (e ∙ ends)
stops-later m m' fault.TooLong a b c e less ends = e ∙ ends
stops-later m m' (fault.Memory refused) a b c e less ends = tt

-- a later one is not read
pub none-later : (list : List NamedFile) (held held' held'' : List ℕ → Held) (file : NamedFile) (files : List NamedFile) (a b c t u : ℕ) (bytes : List ℕ) (f : TakeFault)
    → list ≡ file ∷ files → GotFile file held held' a b t bytes → GotNone files held' held'' b c u f → GotNone list held held'' a c u f
none-later list held held' held'' file files a b c t u bytes f e first more =
    subst (λ xs. GotNone xs held held'' a c u f) (sym e)
    (record {
      stays = more.stays ∙ first.stays;
      counts = omega (arith, first.counts, more.counts);
      some = λ none. absurd cc;
      cause = cause-later file files f held held' a b c u first.stays first.counts more.cause;
      contents = Some bytes ∷ more.contents;
      observed = (first.observed, subst (λ h. MayHoldAll h files more.contents) first.stays more.observed);
      meant = λ got next.
          stops-later _ _ f a b c (read-short file.kind bytes first.short (λ x. with_files files more.contents (with_content file.kind x got) next)) first.counts
          (more.meant (with_content file.kind bytes got) next);
    })
