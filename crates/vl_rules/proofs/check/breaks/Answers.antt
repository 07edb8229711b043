use Rattle.std.proofs.Common.{◌∙◌, sym, ap}
use Rattle.std.specs.Prelude.{not}
use Rattle.vl_model.specs.Rules.{name_twice, name_unknown, wrong_width, wrong_order, wrong_driver, goes_through, wrong_size, wrong_joins}
use Rattle.vl_rules.specs.Lines.{line_of}
use Rattle.vl_rules.specs.Site.{site_at}
use Rattle.vl_rules.specs.Check.{test_of}
use Rattle.vl_rules.proofs.check.breaks.Goals as goal

pub returns-in-NameTwice : goal.returns-in-NameTwice
unfolding name_twice
returns-in-NameTwice c =
    c.repeats.ensures
    ∙ ap (λ k. test_of k (site_at c.args.site.now c.args.number (line_of c.args.line.now))) (sym c.in-NameTwice.is)

pub returns-in-NameUnknown : goal.returns-in-NameUnknown
unfolding name_unknown
returns-in-NameUnknown c =
    ap not c.knows_line.ensures
    ∙ ap (λ k. test_of k (site_at c.args.site.now c.args.number (line_of c.args.line.now))) (sym c.in-NameUnknown.is)

pub returns-in-Width : goal.returns-in-Width
unfolding wrong_width
returns-in-Width c =
    ap not c.fits_line.ensures
    ∙ ap (λ k. test_of k (site_at c.args.site.now c.args.number (line_of c.args.line.now))) (sym c.in-Width.is)

pub returns-in-Order : goal.returns-in-Order
unfolding wrong_order
returns-in-Order c =
    c.reads_early.ensures
    ∙ ap (λ k. test_of k (site_at c.args.site.now c.args.number (line_of c.args.line.now))) (sym c.in-Order.is)

pub returns-in-Driver : goal.returns-in-Driver
unfolding wrong_driver
returns-in-Driver c =
    c.lacks_driver.ensures
    ∙ ap (λ k. test_of k (site_at c.args.site.now c.args.number (line_of c.args.line.now))) (sym c.in-Driver.is)

pub returns-in-Mealy : goal.returns-in-Mealy
unfolding goes_through
returns-in-Mealy c =
    c.is_through.ensures
    ∙ ap (λ k. test_of k (site_at c.args.site.now c.args.number (line_of c.args.line.now))) (sym c.in-Mealy.is)

pub returns-in-MemSize : goal.returns-in-MemSize
unfolding wrong_size
returns-in-MemSize c =
    ap not c.has_size.ensures
    ∙ ap (λ k. test_of k (site_at c.args.site.now c.args.number (line_of c.args.line.now))) (sym c.in-MemSize.is)

pub returns-in_ok-joins_each-in-Instance : goal.returns-in_ok-joins_each-in-Instance
unfolding wrong_joins
returns-in_ok-joins_each-in-Instance c =
    ap not c.in_ok-joins_each-in-Instance.ensures
    ∙ ap (λ k. test_of k (site_at c.args.site.now c.args.number (line_of c.args.line.now))) (sym c.in-Instance.is)
