use mathlib.Core.Path.{◌≡◌, refl, sym, ap, ◌∙◌, subst}
use native.Mathlib.Omega.{arith}
use lib.ListN.{length}
use Rattle.std.specs.Prelude.{Some}
use Rattle.std.proofs.lemmas.Result.{err_from_is_err_and}
use Rattle.masks.specs.declared.build.Packing.TheVariants.{Full, Half, Grade}
use Rattle.masks.specs.declared.outcome.Refusal.TheVariants.{TooManyDims, WrongCount, NoRoom}
use Rattle.masks.specs.Build.{odd_of, packing, unpacked, blades_of_side}
use Rattle.masks.proofs.ListLaws.{missing_err}
use Rattle.masks.proofs.OutcomeLaws.{gives_refused, gives_ok}
use Rattle.masks.proofs.BuildLaws.{Packs, packing_fits, grade_fits, pack_wide, pack_none, pack_short, pack_done}
use Rattle.masks.proofs.build.pack.Goals.{In_ok-packing}
use Rattle.masks.proofs.build.pack.Goals as goal

-- the packing that was found, and what it says
module _ (c : In_ok-packing) where
  found : packing (odd_of c.args.parity) c.args.dims (length c.args.v.now) ≡ Some c.in_ok-packing.packing
  found = sym c.packing_of.ensures ∙ c.in_ok-packing.ensures.ok_part

  says : Packs (Some c.in_ok-packing.packing) c.args.dims (length c.args.v.now)
  says = subst (λ q. Packs q c.args.dims (length c.args.v.now)) found (packing_fits c.args.dims (length c.args.v.now) (odd_of c.args.parity))

pub returns-then-dims-gt-MAX_DIMS : goal.returns-then-dims-gt-MAX_DIMS
unfolding blades_of_side
returns-then-dims-gt-MAX_DIMS c =
    let a = c.args in
    gives_refused _ TooManyDims _ a.out.now (pack_wide a.dims (packing (odd_of a.parity) a.dims (length a.v.now)) (length a.out.now) (omega arith))

pub returns-in_err-packing : goal.returns-in_err-packing
unfolding blades_of_side
returns-in_err-packing c =
    let a = c.args in
    let p = err_from_is_err_and c.from_residual.result c.from_residual.ensures.1 in
    let f = c.in_err-packing in
    rw (p.1, p.2, missing_err _ _ _ f.ensures.value)
    (gives_refused _ WrongCount _ a.out.now (pack_none a.dims (packing (odd_of a.parity) a.dims (length a.v.now)) (length a.out.now) (omega arith) (ap unpacked (sym c.packing_of.ensures ∙ f.ensures.ok_part))))

pub returns-then-out-blades : goal.returns-then-out-blades
unfolding blades_of_side
returns-then-out-blades c =
    let a = c.args in
    let p = packing (odd_of a.parity) a.dims (length a.v.now) in
    gives_refused _ NoRoom _ a.out.now
    (pack_short a.dims p (length a.out.now) (omega arith) (ap unpacked (found (goal.at.returns-then-out-blades c).In_ok-packing)) (omega (arith, c.blades.ensures)))

pub copy_all-requires : goal.copy_all-requires
copy_all-requires c =
    let p = rw c.in-Full.is at (says (goal.at.copy_all-requires c).In_ok-packing) in
    omega (arith, c.blades.ensures, p)

pub fill_half-requires : goal.fill_half-requires
fill_half-requires c =
    let p = rw c.in-Half.is at (says (goal.at.fill_half-requires c).In_ok-packing) in
    (omega arith, p, omega (arith, c.blades.ensures))

pub fill_grade-requires : goal.fill_grade-requires
fill_grade-requires c =
    let g = c.in-Grade.g in
    let p = rw c.in-Grade.is at (says (goal.at.fill_grade-requires c).In_ok-packing) in
    omega (arith, p, grade_fits c.args.dims g _ p.0 p.1, c.blades.ensures)

pub returns-in-Full : goal.returns-in-Full
unfolding blades_of_side
returns-in-Full c =
    let a = c.args in
    rw (found (goal.at.returns-in-Full c).In_ok-packing, c.in-Full.is)
    (gives_ok _ _ _ _ _ (pack_done a.dims (Some Full) (length a.out.now) (omega arith) refl (omega (arith, c.blades.ensures))) refl c.shape_of.ensures c.copy_all.ensures)

pub returns-in-Half : goal.returns-in-Half
unfolding blades_of_side
returns-in-Half c =
    let a = c.args in
    rw (found (goal.at.returns-in-Half c).In_ok-packing, c.in-Half.is)
    (gives_ok _ _ _ _ _ (pack_done a.dims (Some Half) (length a.out.now) (omega arith) refl (omega (arith, c.blades.ensures))) refl c.shape_of-in-Half.ensures c.fill_half.ensures)

pub returns-in-Grade : goal.returns-in-Grade
unfolding blades_of_side
returns-in-Grade c =
    let a = c.args in
    rw (found (goal.at.returns-in-Grade c).In_ok-packing, c.in-Grade.is)
    (gives_ok _ _ _ _ _ (pack_done a.dims (Some (Grade c.in-Grade.g)) (length a.out.now) (omega arith) refl (omega (arith, c.blades.ensures))) refl c.shape_of-in-Grade.ensures c.fill_grade.ensures)
