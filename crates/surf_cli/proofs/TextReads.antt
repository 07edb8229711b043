-- What a text says, from what reading, the rules and the ports say.
use Rattle.std.proofs.Common.{◌≡◌, inl, inr, ℕ, ◌+◌, ◌-◌, ◌<◌, ◌≤◌, zero, suc, Bool, true, false, List, [], ◌∷◌, length, Ok, Err, refl, sym, ap, subst, ◌∙◌, arith}
use Rattle.std.specs.Prelude.{nat_lt, if◌then◌else◌, Option, Some, None, Result}
use Rattle.std.specs.List.{prefix_len}
use Rattle.std.proofs.lemmas.Bool.Decides.{nat_tests}
use Rattle.noc_model.specs.Plan.{Plan}
use Rattle.vl_tree.specs.Values.{Design}
use Rattle.vl_tree.specs.Tokens.{Piece, piece_at, tokens_of, unread, unread_at, unread_behind}
use Rattle.vl_tree.specs.Reading.{design_at}
use Rattle.vl_tree.specs.Spells.{is_text_byte, Spells, ByteFault, TokenFault, GrammarFault}
use Rattle.vl_tree.specs.Faults.{IsMemory, MemoryOr, IsReadFault}
use Rattle.vl_tree.specs.declared.fault.TextFault.{TextFault}
use Rattle.vl_tree.specs.declared.fault.TextFault.TheVariants.{Byte, Token, Grammar, NameTwice, NameUnknown, Width, Order, Driver, Mealy, MemSize, Instance, Ports, Memory}
use Rattle.vl_read.proofs.Faulted.{all_long, byte_here, byte_place, token_here, spelled_here, spelled_read, grammar_here, one_place, not_spelled}
use Rattle.vl_model.specs.Rules.{first_fault}
use Rattle.vl_rules.specs.Answer.{IsFirstFault}
use Rattle.gen_kit.specs.Ports.{ports_fault}
use Rattle.surf_cli.specs.declared.statuses.End.{End}
use Rattle.surf_cli.specs.declared.statuses.End.TheVariants.{Refused}
use Rattle.surf_cli.specs.declared.refusals.Refusal.TheVariants.{Text}
use Rattle.surf_cli.specs.TextRead.{read_tokens, text_read, unless, judged_design, judged_text}
use Rattle.surf_cli.specs.Meaning.{Outcome, if_sound, with_text}
use Rattle.surf_cli.specs.Answers.{IsRefused, EndsForText}
use Rattle.surf_cli.proofs.Judged.{halts}

unless-memory : (f : TextFault) (P : Type 0) → (IsMemory f → ⊥) → MemoryOr f P → P
unless-memory (Byte n) P told h = h
unless-memory (Token n) P told h = h
unless-memory (Grammar n) P told h = h
unless-memory (NameTwice n) P told h = h
unless-memory (NameUnknown n) P told h = h
unless-memory (Width n) P told h = h
unless-memory (Order n) P told h = h
unless-memory (Driver n) P told h = h
unless-memory (Mealy n) P told h = h
unless-memory (MemSize n) P told h = h
unless-memory (Instance n) P told h = h
unless-memory (Ports n) P told h = h
unless-memory (Memory m) P told h = absurd (told tt)

-- ---- reading

-- what reading says, by its two tests and what the tokens are
abbrev said : List ℕ → Bool → Bool → Result Design ℕ → Result Design TextFault
said bytes long some read =
    if long then Err (Byte (prefix_len is_text_byte bytes))
    else if some then Err (Token (length bytes - unread bytes))
    else read_tokens (length bytes) read

said-is : (bytes : List ℕ) (long some : Bool) (read : Result Design ℕ) → nat_lt (prefix_len is_text_byte bytes) (length bytes) ≡ long → nat_lt 0 (unread bytes) ≡ some
    → design_at (tokens_of bytes) ≡ read → text_read bytes ≡ said bytes long some read
unfolding text_read
said-is bytes long some read a b c =
    ap (λ t. said bytes t (nat_lt 0 (unread bytes)) (design_at (tokens_of bytes))) a
    ∙ ap (λ t. said bytes long t (design_at (tokens_of bytes))) b
    ∙ ap (said bytes long some) c

is-clean : (bytes : List ℕ) → length bytes ≤ prefix_len is_text_byte bytes → nat_lt (prefix_len is_text_byte bytes) (length bytes) ≡ false
is-clean bytes clean = grind (arith, nat_tests)

is-whole : (bytes : List ℕ) → unread bytes ≡ 0 → nat_lt 0 (unread bytes) ≡ false
is-whole bytes whole = grind (arith, nat_tests)

-- the design that the bytes spell is read
pub read-spelled : (bytes : List ℕ) (d : Design) → Spells bytes d → text_read bytes ≡ Ok d
read-spelled bytes d s =
    let all = all_long is_text_byte bytes s.clean in
    said-is bytes false false (Ok d) (is-clean bytes (omega (arith, all))) (is-whole bytes s.whole) (spelled_read bytes d s)

read-byte : (bytes : List ℕ) (n : ℕ) → ByteFault bytes n → text_read bytes ≡ Err (Byte n)
read-byte bytes n f =
    let at = byte_place bytes n f in
    let long : nat_lt (prefix_len is_text_byte bytes) (length bytes) ≡ true = (let a = at.0 in let b = at.1 in grind (arith, nat_tests)) in
    said-is bytes true (nat_lt 0 (unread bytes)) (design_at (tokens_of bytes)) long refl refl ∙ ap (λ k. Err (Byte k)) at.0

read-token : (bytes : List ℕ) (n : ℕ) → TokenFault bytes n → text_read bytes ≡ Err (Token n)
read-token bytes n f =
    let all = all_long is_text_byte bytes f.clean in
    let some : nat_lt 0 (unread bytes) ≡ true = (let a = f.some in grind (arith, nat_tests)) in
    let at : length bytes - unread bytes ≡ n = omega (arith, f.at) in
    said-is bytes false true (design_at (tokens_of bytes)) (is-clean bytes (omega (arith, all))) some refl ∙ ap (λ k. Err (Token k)) at

read-grammar : (bytes : List ℕ) (n : ℕ) → GrammarFault bytes n → text_read bytes ≡ Err (Grammar n)
read-grammar bytes n f =
    let all = all_long is_text_byte bytes f.clean in
    let clean : length bytes ≤ prefix_len is_text_byte bytes = omega (arith, all) in
    go clean (design_at (tokens_of bytes)) refl
  where
    go : length bytes ≤ prefix_len is_text_byte bytes → (read : Result Design ℕ) → design_at (tokens_of bytes) ≡ read → text_read bytes ≡ Err (Grammar n)
    go clean (Ok d) e = absurd (not_spelled bytes n d f (spelled_here bytes d clean f.whole e))
    go clean (Err left) e =
        said-is bytes false false (Err left) (is-clean bytes clean) (is-whole bytes f.whole) e
        ∙ ap (λ k. Err (Grammar k)) (one_place bytes (length bytes - left) n (grammar_here bytes left clean f.whole e).at f.at)

-- and the first fault that the bytes have
pub read-first : (bytes : List ℕ) (f : TextFault) → IsReadFault bytes f → text_read bytes ≡ Err f
read-first bytes (Byte n) h = read-byte bytes n h
read-first bytes (Token n) h = read-token bytes n h
read-first bytes (Grammar n) h = read-grammar bytes n h
read-first bytes (NameTwice n) h = absurd h
read-first bytes (NameUnknown n) h = absurd h
read-first bytes (Width n) h = absurd h
read-first bytes (Order n) h = absurd h
read-first bytes (Driver n) h = absurd h
read-first bytes (Mealy n) h = absurd h
read-first bytes (MemSize n) h = absurd h
read-first bytes (Instance n) h = absurd h
read-first bytes (Ports n) h = absurd h
read-first bytes (Memory m) h = absurd h

pub read-fault : (bytes : List ℕ) (f : TextFault) → (IsMemory f → ⊥) → MemoryOr f (IsReadFault bytes f) → text_read bytes ≡ Err f
read-fault bytes f told h = read-first bytes f (unless-memory f (IsReadFault bytes f) told h)

-- ---- and the other way round

clean-of : (bytes : List ℕ) → nat_lt (prefix_len is_text_byte bytes) (length bytes) ≡ false → length bytes ≤ prefix_len is_text_byte bytes
clean-of bytes e = grind (arith, nat_tests)

long-of : (bytes : List ℕ) → nat_lt (prefix_len is_text_byte bytes) (length bytes) ≡ true → prefix_len is_text_byte bytes < length bytes
long-of bytes e = grind (arith, nat_tests)

some-of : (bytes : List ℕ) → nat_lt 0 (unread bytes) ≡ true → 0 < unread bytes
some-of bytes e = grind (arith, nat_tests)

whole-of : (bytes : List ℕ) → nat_lt 0 (unread bytes) ≡ false → unread bytes ≡ 0
whole-of bytes e = (let h : unread bytes ≤ 0 = grind (arith, nat_tests) in omega arith)

unread-within : (k : ℕ) (bytes : List ℕ) → unread_behind k bytes ≤ length bytes
unfolding unread_behind
unread-within k [] = omega arith
unread-within zero (b ∷ bytes) = go (piece_at (b ∷ bytes)) (λ j. unread-within j bytes)
  where
    go : (o : Option Piece) → ((j : ℕ) → unread_behind j bytes ≤ length bytes) → unread_at o (length bytes + 1) (λ j. unread_behind j bytes) ≤ suc (length bytes)
    go None h = omega arith
    go (Some p) h = let within = h (p.len - 1) in omega (arith, within)
unread-within (suc k) (b ∷ bytes) = let within = unread-within k bytes in omega (arith, within)

spelled-by : (bytes : List ℕ) (d : Design) (long some : Bool) (read : Result Design ℕ) → nat_lt (prefix_len is_text_byte bytes) (length bytes) ≡ long → nat_lt 0 (unread bytes) ≡ some
    → design_at (tokens_of bytes) ≡ read → said bytes long some read ≡ Ok d → Spells bytes d
spelled-by bytes d true some read a b c e = absurd cc
spelled-by bytes d false true read a b c e = absurd cc
spelled-by bytes d false false (Err left) a b c e = absurd cc
spelled-by bytes d false false (Ok x) a b c e = let same : x ≡ d = cc in subst (Spells bytes) same (spelled_here bytes x (clean-of bytes a) (whole-of bytes b) c)

-- what is read is spelled so
pub spelled-back : (bytes : List ℕ) (d : Design) → text_read bytes ≡ Ok d → Spells bytes d
spelled-back bytes d e =
    spelled-by bytes d (nat_lt (prefix_len is_text_byte bytes) (length bytes)) (nat_lt 0 (unread bytes)) (design_at (tokens_of bytes)) refl refl refl
    (sym (said-is bytes (nat_lt (prefix_len is_text_byte bytes) (length bytes)) (nat_lt 0 (unread bytes)) (design_at (tokens_of bytes)) refl refl refl) ∙ e)

fault-by : (bytes : List ℕ) (f : TextFault) (long some : Bool) (read : Result Design ℕ) → nat_lt (prefix_len is_text_byte bytes) (length bytes) ≡ long → nat_lt 0 (unread bytes) ≡ some
    → design_at (tokens_of bytes) ≡ read → said bytes long some read ≡ Err f → IsReadFault bytes f
fault-by bytes f true some read a b c e =
    let same : Byte (prefix_len is_text_byte bytes) ≡ f = cc in
    subst (IsReadFault bytes) same (byte_here bytes (prefix_len is_text_byte bytes) refl (long-of bytes a))
fault-by bytes f false true read a b c e =
    let same : Token (length bytes - unread bytes) ≡ f = cc in
    subst (IsReadFault bytes) same (token_here bytes (length bytes - unread bytes) (unread bytes) (clean-of bytes a) refl (some-of bytes b) (unread-within 0 bytes) refl)
fault-by bytes f false false (Ok x) a b c e = absurd cc
fault-by bytes f false false (Err left) a b c e =
    let same : Grammar (length bytes - left) ≡ f = cc in
    subst (IsReadFault bytes) same (grammar_here bytes left (clean-of bytes a) (whole-of bytes b) c)

-- what is refused has the fault
pub fault-back : (bytes : List ℕ) (f : TextFault) → text_read bytes ≡ Err f → IsReadFault bytes f
fault-back bytes f e =
    fault-by bytes f (nat_lt (prefix_len is_text_byte bytes) (length bytes)) (nat_lt 0 (unread bytes)) (design_at (tokens_of bytes)) refl refl refl
    (sym (said-is bytes (nat_lt (prefix_len is_text_byte bytes) (length bytes)) (nat_lt 0 (unread bytes)) (design_at (tokens_of bytes)) refl refl refl) ∙ e)

-- ---- the rules and the ports

rules-fault : (d : Design) (f : TextFault) → (IsMemory f → ⊥) → IsFirstFault d f → first_fault d ≡ Some f
rules-fault d (Byte n) told h = h
rules-fault d (Token n) told h = h
rules-fault d (Grammar n) told h = h
rules-fault d (NameTwice n) told h = h
rules-fault d (NameUnknown n) told h = h
rules-fault d (Width n) told h = h
rules-fault d (Order n) told h = h
rules-fault d (Driver n) told h = h
rules-fault d (Mealy n) told h = h
rules-fault d (MemSize n) told h = h
rules-fault d (Instance n) told h = h
rules-fault d (Ports n) told h = h
rules-fault d (Memory m) told h = absurd (told tt)

pub judged-unread : (p : Plan) (bytes : List ℕ) (f : TextFault) → text_read bytes ≡ Err f → judged_text p bytes ≡ Err f
unfolding judged_text
judged-unread p bytes f e = ap (judged_design p) e

judged-design : (p : Plan) (bytes : List ℕ) (d : Design) (rules ports : Option TextFault) → text_read bytes ≡ Ok d → first_fault d ≡ rules → ports_fault p d ≡ ports
    → judged_text p bytes ≡ unless rules (unless ports (Ok d))
unfolding judged_text
judged-design p bytes d rules ports e r q =
    ap (judged_design p) e ∙ ap (λ o. unless o (unless (ports_fault p d) (Ok d))) r ∙ ap (λ o. unless rules (unless o (Ok d))) q

pub judged-unsound : (p : Plan) (bytes : List ℕ) (d : Design) (f : TextFault) → Spells bytes d → (IsMemory f → ⊥) → IsFirstFault d f → judged_text p bytes ≡ Err f
judged-unsound p bytes d f s told h = judged-design p bytes d (Some f) (ports_fault p d) (read-spelled bytes d s) (rules-fault d f told h) refl

pub judged-other : (p : Plan) (bytes : List ℕ) (d : Design) (f : TextFault) → Spells bytes d → first_fault d ≡ None → ports_fault p d ≡ Some f → judged_text p bytes ≡ Err f
judged-other p bytes d f s rules ports = judged-design p bytes d None (Some f) (read-spelled bytes d s) rules ports

-- the design of a text that has no fault
pub text-sound : (p : Plan) (bytes : List ℕ) (d : Design) → Spells bytes d → first_fault d ≡ None → ports_fault p d ≡ None → (next : Design → Outcome) → with_text p bytes next ≡ next d
text-sound p bytes d s rules ports next = ap (λ r. if_sound r next) (judged-design p bytes d None None (read-spelled bytes d s) rules ports)

-- how a run ends that meets this fault
pub text-refused : (p : Plan) (bytes : List ℕ) (f : TextFault) (end : End) → EndsForText f end → ((IsMemory f → ⊥) → judged_text p bytes ≡ Err f)
    → (next : Design → Outcome) → IsRefused (with_text p bytes next) end
text-refused p bytes f end (inl e) h next = inl e
text-refused p bytes f end (inr e) h next = inr record { refusal = Text f; of_contents = e.0; is = e.1; meant = halts _ (Refused (Text f)) (ap (λ r. if_sound r next) (h e.0)) }
