use mathlib.Core.Path.{◌≡◌, refl}
use Prim.Native.Nat.{ℕ, zero, suc}
use Rattle.masks.specs.declared.flavor.Flavor.TheVariants.{Cl}
use Rattle.masks.specs.ShapeBytes.{flavor_from}
use Rattle.masks.proofs.shape_bytes.flavor_from.Goals as goal

any_other : (kind p n z : ℕ) → (kind ≡ 0 → ⊥) → (kind ≡ 1 → ⊥) → Cl p n z ≡ flavor_from kind p n z
any_other zero p n z g h = absurd (g refl)
any_other (suc zero) p n z g h = absurd (h refl)
any_other (suc (suc k)) p n z g h = refl

pub returns-in_default : goal.returns-in_default
returns-in_default c =
    let a = c.args in
    any_other a.kind a.p a.n a.z c.in_default.in_default-own.rest.0.1 c.in_default.in_default-own.rest.1
