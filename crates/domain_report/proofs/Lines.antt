-- The lines of the events so far, and how many of each kind these are.
use Rattle.std.proofs.Common.{◌≡◌, ℕ, ◌+◌, ◌<◌, Bool, true, false, List, [], ◌∷◌, ◌++◌, length, get_or, take, drop, sym, ap, ◌∙◌, append_assoc, arith}
use Rattle.std.specs.Prelude.{flat_map, filter, ◌==◌, if◌then◌else◌, count_by, codes, decimal}
use Rattle.std.proofs.lemmas.Bool.Decides.{nat_tests}
use Rattle.std.proofs.lemmas.List.{append-nil, take-append-drop}
use Rattle.std.proofs.lemmas.List.Elements.{filter_more, filter-append}
use Rattle.std.proofs.lemmas.List.Concat.{flat_map-append}
use Rattle.std.proofs.lemmas.List.Sums.{sum_by_push}
use Rattle.noc_model.specs.declared.Event.{Event}
use Rattle.noc_model.specs.Plan.{Plan, name_of}
use Rattle.noc_model.specs.Report.{event_line, report, is_take, is_wait, is_drop, is_got}
use Rattle.domain_report.specs.declared.counts.Counts.{Counts}
use Rattle.domain_report.specs.Counts.{counts_of, end_line}

-- the domain's events
abbrev pub own : ℕ → List Event → List Event
own d es = filter (λ (e : Event). e.domain == d) es

-- one more event
at_next : (b : Bool) (d : ℕ) (es : List Event) (i : ℕ) (z : Event) → i < length es → ((get_or es i z).domain == d) ≡ b
    → own d (take (i + 1) es) ≡ own d (take i es) ++ (if b then get_or es i z ∷ [] else [])
at_next b d es i z less test =
    filter_more (λ (e : Event). e.domain == d) es i z less
    ∙ ap (λ (c : Bool). own d (take i es) ++ (if c then get_or es i z ∷ [] else [])) test

-- one more that is the domain's
own-more : (d : ℕ) (es : List Event) (i : ℕ) (z : Event) → i < length es → (get_or es i z).domain ≡ d
    → own d (take (i + 1) es) ≡ own d (take i es) ++ get_or es i z ∷ []
own-more d es i z less is = at_next true d es i z less (grind (arith, nat_tests))

-- one more that isn't
pub own-same : (d : ℕ) (es : List Event) (i : ℕ) (z : Event) → i < length es → ((get_or es i z).domain ≡ d → ⊥)
    → own d (take (i + 1) es) ≡ own d (take i es)
own-same d es i z less isnt = at_next false d es i z less (grind (arith, nat_tests)) ∙ append-nil (own d (take i es))

-- the lines of the events so far, and of one more
pub lines-more : (d : ℕ) (es : List Event) (i : ℕ) (z : Event) → i < length es → (get_or es i z).domain ≡ d
    → flat_map event_line (own d (take i es)) ++ event_line (get_or es i z) ≡ flat_map event_line (own d (take (i + 1) es))
lines-more d es i z less is = sym
    (ap (flat_map event_line) (own-more d es i z less is) ∙ flat_map-append event_line (own d (take i es)) (get_or es i z ∷ [])
    ∙ ap (λ (t : List ℕ). flat_map event_line (own d (take i es)) ++ t) (append-nil (event_line (get_or es i z))))

-- the lines of the events so far, and of the others
pub lines-split : (d : ℕ) (es : List Event) (i : ℕ)
    → flat_map event_line (own d (take i es)) ++ flat_map event_line (own d (drop i es)) ≡ flat_map event_line (own d es)
lines-split d es i = sym
    (ap (λ (xs : List Event). flat_map event_line (own d xs)) (sym (take-append-drop i es))
    ∙ ap (flat_map event_line) (filter-append (λ (e : Event). e.domain == d) (take i es) (drop i es))
    ∙ flat_map-append event_line (own d (take i es)) (own d (drop i es)))

-- how many pass, with one more
count-more : (p : Event → Bool) (n : ℕ) (d : ℕ) (es : List Event) (i : ℕ) (z : Event) → i < length es
    → (get_or es i z).domain ≡ d → n ≡ count_by p (own d (take i es))
    → n + (if p (get_or es i z) then 1 else 0) ≡ count_by p (own d (take (i + 1) es))
count-more p n d es i z less is so_far =
    ap (λ k. k + (if p (get_or es i z) then 1 else 0)) so_far
    ∙ sym (ap (count_by p) (own-more d es i z less is) ∙ sum_by_push (λ (e : Event). if p e then 1 else 0) (own d (take i es)) (get_or es i z))

-- what one more event makes of the counts
pub counts-more : (m n : Counts) (d : ℕ) (es : List Event) (i : ℕ) (z : Event) → i < length es
    → (get_or es i z).domain ≡ d → m ≡ counts_of (own d (take i es))
    → n.takes ≡ m.takes + (if is_take (get_or es i z).kind then 1 else 0)
    → n.waits ≡ m.waits + (if is_wait (get_or es i z).kind then 1 else 0)
    → n.drops ≡ m.drops + (if is_drop (get_or es i z).kind then 1 else 0)
    → n.gots ≡ m.gots + (if is_got (get_or es i z).kind then 1 else 0)
    → n ≡ counts_of (own d (take (i + 1) es))
counts-more m n d es i z less is so_far takes waits drops gots =
    let a =
    takes ∙ count-more (λ (e : Event). is_take e.kind) m.takes d es i z less is (ap (λ (c : Counts). c.takes) so_far) in
    let b =
    waits ∙ count-more (λ (e : Event). is_wait e.kind) m.waits d es i z less is (ap (λ (c : Counts). c.waits) so_far) in
    let e =
    drops ∙ count-more (λ (e : Event). is_drop e.kind) m.drops d es i z less is (ap (λ (c : Counts). c.drops) so_far) in
    let f =
    gots ∙ count-more (λ (e : Event). is_got e.kind) m.gots d es i z less is (ap (λ (c : Counts). c.gots) so_far) in
    λ t. record { takes = a t; waits = b t; drops = e t; gots = f t }

-- an end of six pieces after all that stands before
end_apart : (x a b c d e f : List ℕ) → x ++ (a ++ b ++ c ++ d ++ e ++ f) ≡ x ++ a ++ b ++ c ++ d ++ e ++ f
end_apart x a b c d e f =
    sym (append_assoc x (a ++ b ++ c ++ d ++ e) f) ∙ ap (λ (t : List ℕ). t ++ f)
    (sym (append_assoc x (a ++ b ++ c ++ d) e) ∙ ap (λ (t : List ℕ). t ++ e)
    (sym (append_assoc x (a ++ b ++ c) d) ∙ ap (λ (t : List ℕ). t ++ d)
    (sym (append_assoc x (a ++ b) c) ∙ ap (λ (t : List ℕ). t ++ c) (sym (append_assoc x a b)))))

-- a report by its name and its counts
whole : List ℕ → List Event → Counts → List ℕ
whole name es n =
    codes "domain " ++ name ++ 10 ∷ flat_map event_line es
    ++ codes "end " ++ decimal n.takes ++ 32 ∷ decimal n.waits ++ 32 ∷ decimal n.drops ++ 32 ∷ decimal n.gots ++ 10 ∷ []

-- a title, lines and the line of the counts are the report
pub report-is : (p : Plan) (d : ℕ) (name : List ℕ) (es : List Event) (n : Counts) → name ≡ name_of p d
    → n ≡ counts_of es
    → codes "domain " ++ name ++ 10 ∷ [] ++ flat_map event_line es ++ end_line n ≡ report p d es
unfolding whole
report-is p d name es n named counted =
    let x = codes "domain " ++ name in
    ap (λ (t : List ℕ). t ++ end_line n) (append_assoc x (10 ∷ []) (flat_map event_line es))
    ∙ end_apart (x ++ 10 ∷ flat_map event_line es) (codes "end ") (decimal n.takes) (32 ∷ decimal n.waits) (32 ∷ decimal n.drops) (32 ∷ decimal n.gots) (10 ∷ [])
    ∙ ap (λ (bytes : List ℕ). whole bytes es n) named ∙ ap (whole (name_of p d) es) counted
