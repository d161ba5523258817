use mathlib.Core.Path.{◌≡◌, sym, ap₂, ◌∙◌}
use mathlib.Core.List.{List}
use Prim.Native.Nat.{◌<◌}
use native.Mathlib.Omega.{arith}
use lib.Ieee.{Float, nan, of_bits, of_fields}
use lib.ListN.{length, get_or, set, drop, length-set, get_or-append}
use lib.Pow.{pow_pos}
use Rattle.std.specs.Prelude.{Ok, Err}
use Rattle.std.proofs.lemmas.Result.{err_from_is_err_and}
use Rattle.masks.specs.declared.outcome.Refusal.{Refusal}
use Rattle.masks.specs.declared.shape.Shape.{Shape}
use Rattle.masks.specs.Outcome.{Gives, nought, refusal}
use Rattle.masks.specs.Shape.{set_dims}
use Rattle.masks.proofs.OutcomeLaws.{unless_ok}
use Rattle.arithmetic.specs.declared.outcome.Taken.{Taken}
use Rattle.arithmetic.specs.Kept.{kept_tests, without_scalar, take_scalar, GivesTaken}
use Rattle.arithmetic.proofs.KeptLaws.{accepted_kept, copy_refused, copy_accepted, copy_laid, copy_room, copy_changed, set_laid}
use Rattle.arithmetic.proofs.kept.take_scalar.Goals as goal

abbrev with_scalar : Shape → Float → Taken
with_scalar s x = record { shape = s; value = x }

taken_refused : (s : Shape) (a : List Float) (e : Refusal) (before mid : List Float) → Gives (set_dims s s.dims a (length before)) (Err e) before mid → GivesTaken (take_scalar s a (length before)) (Err e) before mid
unfolding take_scalar
taken_refused s a e before mid g = let w = copy_refused s a e before mid g without_scalar in record { answered = w.answered; left = w.left }

module _ (s : Shape) (a : List Float) (t : Shape) (before mid : List Float) (g : Gives (set_dims s s.dims a (length before)) (Ok t) before mid) where
  some : 0 < length a
  some = omega (arith, (copy_accepted s a t before mid g).counted, pow_pos s.dims)

  in_copy : 0 < length mid
  in_copy = omega (arith, some, copy_room s a t before mid g)

  taken_done : GivesTaken (take_scalar s a (length before)) (Ok (with_scalar t (get_or mid 0 nan))) before (set mid 0 nought)
  unfolding take_scalar
  taken_done =
      let w = copy_changed s a t before mid g without_scalar (set mid 0 nought) (length-set a 0 nought) (set_laid (length a) mid 0 nought some (copy_room s a t before mid g)) in
      let first : get_or mid 0 nan ≡ get_or a 0 nan = rw (copy_laid s a t before mid g) (get_or-append a (drop (length a) before) nan 0 some) in
      let all = unless_ok (λ k. nought) (refusal (kept_tests s a (length before))) (get_or a 0 nan) (accepted_kept s a (length before) (copy_accepted s a t before mid g)) in
      record { answered = (w.answered.0, ap₂ with_scalar w.answered.1 (first ∙ sym all)); left = w.left }

pub returns-in_err-shape : goal.returns-in_err-shape
returns-in_err-shape c =
    let s = c.args in
    let p = err_from_is_err_and c.from_residual.result c.from_residual.ensures.1 in
    let f = c.in_err-shape in
    rw (p.1, p.2) (taken_refused s.shape s.a.now f.field-0.0 s.out.now _ f.ensures)

pub bounds-out-0 : goal.bounds-out-0
bounds-out-0 c =
    let s = c.args in
    in_copy s.shape s.a.now c.in_ok-shape.shape s.out.now _ c.in_ok-shape.ensures

pub bounds-out-0-2 : goal.bounds-out-0-2
bounds-out-0-2 c =
    let s = c.args in
    in_copy s.shape s.a.now c.in_ok-shape.shape s.out.now _ c.in_ok-shape.ensures

pub returns : goal.returns
unfolding of_bits of_fields
returns c =
    let s = c.args in
    taken_done s.shape s.a.now c.in_ok-shape.shape s.out.now _ c.in_ok-shape.ensures
