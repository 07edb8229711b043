-- Few tiles, ports, channels and flits make few places.
use Rattle.std.proofs.Common.{ℕ, ◌≤◌, ◌<◌, ◌+◌, ◌*◌, arith, refl, length}
use Rattle.std.proofs.lemmas.Nat.{mul-le}
use Rattle.noc_model.proofs.plan.Parts.places.Goals as goal

few_places : (a b l q : ℕ) → a ≤ 256 → b ≤ 7 → l ≤ 128 → q ≤ 16 → a * b * l * q < 4294967296
few_places a b l q ha hb hl hq =
    let two = mul-le a b 256 7 ha hb in
    let three = mul-le (a * b) l (256 * 7) 128 two hl in
    let four = mul-le (a * b * l) q (256 * 7 * 128) 16 three hq in
    omega arith

pub overflow_mul-result-3 : goal.overflow_mul-result-3
overflow_mul-result-3 c =
    let tiles : c.product_of.result ≤ 256 =
    rw (c.product_of.ensures, c.as_slice-sides.ensures.value) c.requires.tiles in
    let ports : 1 + 2 * length c.as_slice-sides.result.now ≤ 7 =
    rw c.as_slice-sides.ensures.value (let d = c.requires.dims in omega arith) in
    let few =
    few_places c.product_of.result (1 + 2 * length c.as_slice-sides.result.now) c.all_link_channels-channels.result c.args.self.now.buffer tiles ports c.all_link_channels-channels.ensures.few c.requires.buffer in
    omega (arith, few)

pub returns : goal.returns
returns c =
    rw (c.product_of.ensures, c.as_slice-sides.ensures.value, c.all_link_channels-channels.ensures.value, c.classes_of.ensures.value, c.deref.ensures.value) refl
