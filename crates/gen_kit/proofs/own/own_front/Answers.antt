-- The tests of the tag choose the front.
use Rattle.std.proofs.Common.{◌≡◌, true, false, nat_lt, arith}
use Rattle.std.proofs.lemmas.Bool.Decides.{nat_tests}
use Rattle.gen_kit.specs.OwnNames.{own_front}
use Rattle.gen_kit.proofs.own.own_front.Goals as goal

pub returns-then-tag-lt1024 : goal.returns-then-tag-lt1024
unfolding own_front
returns-then-tag-lt1024 c =
    let a : nat_lt c.args.tag 1024 ≡ true = grind (arith, nat_tests, c.if-tag-lt1024.true) in
    rw (a, ← c.domain_port.ensures) c.lettered.ensures

pub returns-then-tag-lt2048 : goal.returns-then-tag-lt2048
unfolding own_front
returns-then-tag-lt2048 c =
    let a : nat_lt c.args.tag 1024 ≡ false = grind (arith, nat_tests, c.if-tag-lt1024.false) in
    let b : nat_lt c.args.tag 2048 ≡ true = grind (arith, nat_tests, c.if-tag-lt2048.true) in
    rw (a, b) c.lettered-then-tag-lt2048.ensures

pub returns-then-tag-lt4096 : goal.returns-then-tag-lt4096
unfolding own_front
returns-then-tag-lt4096 c =
    let a : nat_lt c.args.tag 1024 ≡ false = grind (arith, nat_tests, c.if-tag-lt1024.false) in
    let b : nat_lt c.args.tag 2048 ≡ false = grind (arith, nat_tests, c.if-tag-lt2048.false) in
    let d : nat_lt c.args.tag 4096 ≡ true = grind (arith, nat_tests, c.if-tag-lt4096.true) in
    rw (a, b, d, ← c.domain_port-place.ensures) c.lettered-then-tag-lt4096.ensures

pub returns-then-tag-lt5120 : goal.returns-then-tag-lt5120
unfolding own_front
returns-then-tag-lt5120 c =
    let a : nat_lt c.args.tag 1024 ≡ false = grind (arith, nat_tests, c.if-tag-lt1024.false) in
    let b : nat_lt c.args.tag 2048 ≡ false = grind (arith, nat_tests, c.if-tag-lt2048.false) in
    let d : nat_lt c.args.tag 4096 ≡ false = grind (arith, nat_tests, c.if-tag-lt4096.false) in
    let e : nat_lt c.args.tag 5120 ≡ true = grind (arith, nat_tests, c.if-tag-lt5120.true) in
    rw (a, b, d, e) c.lettered-then-tag-lt5120.ensures

pub returns-else-tag-lt5120 : goal.returns-else-tag-lt5120
unfolding own_front
returns-else-tag-lt5120 c =
    let a : nat_lt c.args.tag 1024 ≡ false = grind (arith, nat_tests, c.if-tag-lt1024.false) in
    let b : nat_lt c.args.tag 2048 ≡ false = grind (arith, nat_tests, c.if-tag-lt2048.false) in
    let d : nat_lt c.args.tag 4096 ≡ false = grind (arith, nat_tests, c.if-tag-lt4096.false) in
    let e : nat_lt c.args.tag 5120 ≡ false = grind (arith, nat_tests, c.if-tag-lt5120.false) in
    rw (a, b, d, e, ← c.domain_port-place-else-tag-lt5120.ensures) c.lettered-else-tag-lt5120.ensures
