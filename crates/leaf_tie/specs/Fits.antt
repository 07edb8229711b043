-- Items whose widths agree, by the widths of the names that they use.
use Rattle.std.specs.Prelude.{◌≡◌, ◌+◌, true, List}
use Rattle.std.specs.List.{AllByRecursion}
use Rattle.vl_tree.specs.Values.{Item, wire, reg, mem, assign, clocked, store}
use Rattle.vl_model.specs.Meaning.{Widths, width_of, agrees}

-- what a declaration makes of the widths
abbrev pub Declares : Widths → Item → Type 0
Declares w (wire h n) = w.net n ≡ h + 1
Declares w (reg h n) = w.net n ≡ h + 1
Declares w (mem h n last) = w.word n ≡ h + 1
Declares w (assign n e) = Unit {0}
Declares w (clocked n k e) = Unit {0}
Declares w (store c n i e) = Unit {0}

-- the widths of an item agree
abbrev pub ItemFits : Widths → Item → Type 0
ItemFits w (wire h n) = Unit {0}
ItemFits w (reg h n) = Unit {0}
ItemFits w (mem h n last) = Unit {0}
ItemFits w (assign n e) = (agrees w e ≡ true) × (width_of w e ≡ w.net n)
ItemFits w (clocked n k e) = (agrees w e ≡ true) × (width_of w e ≡ w.net n) × (k.width ≡ w.net n)
ItemFits w (store c n i e) = (agrees w c ≡ true) × (width_of w c ≡ 1) × (agrees w i ≡ true) × (agrees w e ≡ true)
    × (width_of w e ≡ w.word n)

-- what all these items make of the widths
abbrev pub AllDeclare : Widths → List Item → Type 0
AllDeclare w is = AllByRecursion (Declares w) is

-- the widths of all these items agree
abbrev pub AllFit : Widths → List Item → Type 0
AllFit w is = AllByRecursion (ItemFits w) is
