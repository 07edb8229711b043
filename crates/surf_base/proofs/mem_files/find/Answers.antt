use Rattle.std.proofs.Common.{◌≡◌, ◌≢◌, ◌<◌, length, Some, refl, sym, ◌∙◌, arith}
use Rattle.std.specs.List.{slice_get}
use Rattle.std.proofs.lemmas.Option.{slice_get_read}
use Rattle.std.proofs.lemmas.Slice.Eq.{bytes_eq-Decides}
use Rattle.surf_base.proofs.MemFilesLemmas.{IsLast-same, IsLast-differs}
use Rattle.surf_base.proofs.mem_files.find.Goals as goal
use Rattle.surf_base.proofs.mem_files.find.Goals.{then-eq, else-eq}

pub loop-i-preserved : goal.loop-i-preserved
loop-i-preserved c =
    let before : c.loop-i.i < length c.args.files.now = omega arith in
    let is : slice_get c.args.files.now c.loop-i.i ≡ Some c.index-files-i.result =
    slice_get_read _ _ _ _ refl before c.index-files-i.is in
    let same = bytes_eq-Decides c.as_slice.result.now c.args.name.now in
    elim c.if-eq.branch [
      | then-eq w ↦
          rw w.found-is (IsLast-same _ c.args.name.now _ _ before is (sym c.as_slice.ensures ∙ same.0 (sym c.eq.ensures ∙ w.if-eq.true)))
      | else-eq w ↦
          let differs : c.args.name.now ≢ c.index-files-i.result.name = λ e. let yes = same.1 (c.as_slice.ensures ∙ sym e) in (cc) in
          rw w.found-is (IsLast-differs _ c.args.name.now _ _ _ before is differs c.loop-i.invariant)
    ]
