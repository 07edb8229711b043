use Rattle.std.proofs.Common.{◌∙◌, sym, ap}
use Rattle.vl_tree.specs.Read.{read}
use Rattle.vl_rules.specs.Scope.{widths_at}
use Rattle.vl_rules.specs.Widths.{width_in}
use Rattle.vl_rules.proofs.Sized.{two_width, choose_width, read_two, read_choose}
use Rattle.vl_rules.proofs.widths.+width.Goals as goal

pub width-returns-in_ok-u-in-Two : goal.width-returns-in_ok-u-in-Two
width-returns-in_ok-u-in-Two t c =
    c.two.ensures
    ∙ sym (two_width (widths_at c.args.table.now c.args.number) c.in-Two.op (read c.in-Two.a) (read c.in-Two.b) c.in_ok-w-in-Two.w c.in_ok-u-in-Two.u c.in_ok-w-in-Two.ensures c.in_ok-u-in-Two.ensures)
    ∙ ap (width_in (widths_at c.args.table.now c.args.number)) (sym (ap read c.in-Two.is ∙ read_two c.in-Two.op c.in-Two.a c.in-Two.b))

pub width-returns-in_ok-u-in-If : goal.width-returns-in_ok-u-in-If
width-returns-in_ok-u-in-If t c =
    c.choice.ensures
    ∙ sym (choose_width (widths_at c.args.table.now c.args.number) (read c.in-If.c) (read c.in-If.a) (read c.in-If.b) c.in_ok-k-in-If.k c.in_ok-w-in-If.w c.in_ok-u-in-If.u c.in_ok-k-in-If.ensures c.in_ok-w-in-If.ensures c.in_ok-u-in-If.ensures)
    ∙ ap (width_in (widths_at c.args.table.now c.args.number)) (sym (ap read c.in-If.is ∙ read_choose c.in-If.c c.in-If.a c.in-If.b))
