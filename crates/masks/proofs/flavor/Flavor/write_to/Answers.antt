use mathlib.Core.Path.{refl}
use mathlib.Core.List.{[]}
use Prim.Native.Nat.{◌≤◌, ◌<◌}
use native.Mathlib.Omega.{arith}
use borrow.Author.Tests.{lt-ltb, le-ltb}
use lib.ListN.{length}
use Rattle.masks.specs.declared.outcome.Refusal.TheVariants.{NoRoom}
use Rattle.masks.specs.Outcome.{no_room, refusal}
use Rattle.masks.specs.Text.{text_of, write_flavor}
use Rattle.masks.proofs.OutcomeLaws.{refused_first, refused_later, writes_refused, writes_done}
use Rattle.masks.proofs.flavor.Flavor.write_to.Goals as goal

pub returns-then-out-count : goal.returns-then-out-count
unfolding write_flavor
returns-then-out-count c =
    let a = c.args in
    let h : length a.out.now < length (text_of a.self) = omega (arith, c.text_length-count.ensures) in
    writes_refused _ NoRoom _ a.out.now (refused_first (no_room (length a.out.now) (length (text_of a.self))) [] (lt-ltb _ _ h))

pub returns : goal.returns
unfolding write_flavor refusal
returns c =
    let a = c.args in
    let h : length (text_of a.self) ≤ length a.out.now = omega (arith, c.text_length-count.ensures) in
    writes_done _ _ _ a.out.now _ (refused_later (no_room (length a.out.now) (length (text_of a.self))) [] (le-ltb _ _ h)) refl c.text_length-count.ensures c.put_text.ensures
