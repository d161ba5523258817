use Rattle.exports.proofs.OrderLaws.{Sorted, sorted, dims_refused, masks_short, places_short, order_reported}
use Rattle.exports.proofs.order.thresholm_order_of.Goals.{After-blades_or_none-count}
use Rattle.exports.proofs.order.thresholm_order_of.Goals as goal

-- What is known of the order and of its count.
known : (c : After-blades_or_none-count) → Sorted c.args.dims c.in-Ok.order c.blades_or_none-count.result
known c = sorted _ _ _ c.in-Ok.ensures c.blades_or_none-count.ensures

pub returns-in-Err : goal.returns-in-Err
returns-in-Err c =
    let a = c.args in
    dims_refused a.dims a.masks.now a.places.now a.to_count.now _ c.in-Err.refusal c.in-Err.ensures c.number.ensures

pub returns-then-masks-count : goal.returns-then-masks-count
returns-then-masks-count c =
    let a = c.args in
    let k = known (goal.at.returns-then-masks-count c).After-blades_or_none-count in
    masks_short a.dims a.masks.now a.places.now a.to_count.now _ k.small k.counted _ c.number-then-masks-count.ensures c.if-masks-count.true

pub returns-then-places-count : goal.returns-then-places-count
returns-then-places-count c =
    let a = c.args in
    let k = known (goal.at.returns-then-places-count c).After-blades_or_none-count in
    places_short a.dims a.masks.now a.places.now a.to_count.now _ k.small k.counted _ c.number-then-places-count.ensures c.if-masks-count.false c.if-places-count.true

pub copy_masks-requires : goal.copy_masks-requires
copy_masks-requires c =
    let k = known (goal.at.copy_masks-requires c).After-blades_or_none-count in
    (k.few, c.if-masks-count.false, k.masks_full)

pub copy_masks-requires-2 : goal.copy_masks-requires-2
copy_masks-requires-2 c =
    let k = known (goal.at.copy_masks-requires-2 c).After-blades_or_none-count in
    (k.few, c.if-places-count.false, k.places_full)

pub returns : goal.returns
returns c =
    let a = c.args in
    order_reported a.dims c.in-Ok.order c.blades_or_none-count.result a.masks.now _ a.places.now _ a.to_count.now (known (goal.at.returns c).After-blades_or_none-count) c.if-masks-count.false c.if-places-count.false c.copy_masks.ensures c.copy_masks-2.ensures
