use Rattle.std.proofs.Common.{◌≡◌, List, length, sym, ◌∙◌, ap, subst}
use Rattle.std.specs.Prelude.{slice_get}
use Rattle.std.proofs.lemmas.List.{with_items_is}
use Rattle.vl_tree.specs.Values.{Design}
use Rattle.vl_tree.specs.Read.{read_design, read_leaves}
use Rattle.vl_tree.proofs.Plainly.{plain_is}
use Rattle.vl_model.specs.Lines.{leaf_named}
use Rattle.vl_model.specs.Rules.{IsSound}
use Rattle.vl_run.specs.State.{Part}
use Rattle.vl_run.specs.Shown.{AllRefreshed}
use Rattle.vl_run.specs.Running.{running}
use Rattle.vl_run.specs.Put.{instances, memory_line, parts_with, with_word_in}
use Rattle.vl_run.specs.Stands.{Running, Stands}
use Rattle.vl_model.specs.Settle.{inside_reset}
use Rattle.vl_model.proofs.Passed.{leaf-sound}
use Rattle.vl_run.proofs.FirstPut.{first-put}
use Rattle.vl_run.proofs.Refreshed.{stands-again}
use Rattle.vl_run.proofs.WordPut.{memory-kind, put-parts, length-with}
use Rattle.vl_run.proofs.machine.Machine.put_mem.Goals as goal

pub returns-clause-puts : goal.returns-clause-puts
returns-clause-puts c = λ inside u l m stands at named is-memory within fits. (
    let s = c.args.self.now in
    let d : Design = read_design s.sound.design in
    let sound : IsSound d = record { plain = plain_is d s.sound.plain; rules = s.sound.rules } in
    let same : c.design.result.now ≡ s.sound.design = c.design.ensures.same in
    let row : c.memory_line-row.result ≡ memory_line l c.args.mem =
    c.memory_line-row.ensures u l (ap (λ z. slice_get (instances z.top.items) c.args.instance) same ∙ at) (ap (λ z. leaf_named (read_leaves z.leaves) u.0) same ∙ named) in
    let put : c.put_word.new.parts ≡ parts_with c.args.instance (memory_line l c.args.mem) c.args.index c.args.value s.parts.items =
    c.put_word.ensures ∙ ap (λ r. parts_with c.args.instance r c.args.index c.args.value c.as_mut_slice.result.now) row
    ∙ ap (parts_with c.args.instance (memory_line l c.args.mem) c.args.index c.args.value) c.as_mut_slice.ensures.value in
    let long = ap length put ∙ length-with c.args.instance (memory_line l c.args.mem) c.args.index c.args.value s.parts.items ∙ sym s.parts.ok.0 in
    let back = with_items_is s.parts c.put_word.new.parts long ∙ put in
    let r : Running = running c.refresh.new.self in
    let parts : AllRefreshed (parts_with c.args.instance (memory_line l c.args.mem) c.args.index c.args.value s.parts.items) r.parts = subst (λ (ys : List Part). AllRefreshed ys r.parts) back c.refresh.ensures.parts in
    stands-again d sound stands.top stands.places (with_word_in inside u.1 m.name c.args.index c.args.value)
    (parts_with c.args.instance (memory_line l c.args.mem) c.args.index c.args.value s.parts.items)
    (put-parts d sound inside s.parts.items s.tops s.ports.items stands c.args.instance u at l named c.args.mem m is-memory c.args.index c.args.value within fits)
    s.tops s.ports.items stands.room stands.ports r c.refresh.ensures.design c.refresh.ensures.ports parts c.refresh.ensures.tops)

pub returns-clause-first : goal.returns-clause-first
returns-clause-first c = λ first u l m stands at named is-memory within fits. (
    let s = c.args.self.now in
    let d : Design = read_design s.sound.design in
    let sound : IsSound d = record { plain = plain_is d s.sound.plain; rules = s.sound.rules } in
    let kind = memory-kind (λ n. 0) l (leaf-sound d sound.rules u.0 l named) c.args.mem m is-memory c.args.index c.args.value within fits in
    subst (Stands _) (first-put d sound first c.args.instance u l m.name c.args.index c.args.value at named kind)
    (returns-clause-puts c (inside_reset d.leaves d.top.items first) u l m stands at named is-memory within fits))
