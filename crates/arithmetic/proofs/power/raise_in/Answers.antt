use mathlib.Core.Path.{◌≡◌, refl, sym, ap, subst, ◌∙◌}
use mathlib.Core.Bool.{cond}
use mathlib.Core.List.{List, [], ◌∷◌, ◌++◌}
use Prim.Native.Nat.{ℕ, ◌+◌, ◌^◌, ◌/◌, ◌%◌, ◌≤◌, ◌<◌}
use native.Mathlib.Omega.{arith}
use borrow.Author.Tests.{eq-eqb, ne_eqb}
use lib.Dec.{eqb}
use lib.Ieee.{Float, binary64, of_bits, of_fields}
use lib.ListN.{length, take, drop}
use lib.Pow.{pow_pos, pow_mono}
use lib.Seq.{length-take-le}
use Rattle.std.specs.Prelude.{Result, Ok, Err, IsOk}
use Rattle.masks.specs.declared.outcome.Refusal.{Refusal}
use Rattle.masks.specs.declared.shape.Shape.{Shape}
use Rattle.masks.specs.Build.{at_grade, scalar}
use Rattle.masks.specs.Flavor.{added_dims}
use Rattle.masks.specs.Order.{start}
use Rattle.masks.specs.Outcome.{Outcome, Gives, IsAnswer, value, laid}
use Rattle.masks.specs.Shape.{with_dims}
use Rattle.masks.proofs.BuildLaws.{length_grade_set, one_built}
use Rattle.masks.proofs.ListLaws.{lay_front, laid_length, take_laid}
use Rattle.masks.proofs.OutcomeLaws.{refuses}
use Rattle.product.proofs.ListLaws.{laid_over}
use Rattle.masks.proofs.OrderLaws.{blades_le}
use Rattle.product.specs.declared.mode.Mode.TheVariants.{All}
use Rattle.product.proofs.PairwiseLaws.{product_length}
use Rattle.arithmetic.specs.inner.Given.{InOrder}
use Rattle.arithmetic.specs.Scale.{unity}
use Rattle.arithmetic.specs.Operators.{multiplication}
use Rattle.arithmetic.specs.Dual.{ample}
use Rattle.arithmetic.specs.Inverse.{square_of}
use Rattle.arithmetic.specs.Power.{raised, by_digits}
use Rattle.arithmetic.proofs.PowerLaws.{raised_none, raised_next, grown_length}
use Rattle.arithmetic.proofs.power.raise_in.Invariants.{Left, kept}
use Rattle.arithmetic.proofs.power.raise_in.Goals.{At-loop-p, Joined-p-eq1, then-p-eq1, else-p-eq1}
use Rattle.arithmetic.proofs.power.raise_in.Goals as goal

-- What was laid over an output is laid over itself.
over_itself : (xs out after : List Float) → after ≡ laid xs out → after ≡ laid xs after
over_itself xs out after e = e ∙ sym (laid_over xs xs out refl) ∙ ap (laid xs) (sym e)

-- What is laid over a value as long is laid over what was there before.
over_again : (xs ys out mid after : List Float) → length xs ≡ length ys → mid ≡ laid ys out → after ≡ laid xs mid → after ≡ laid xs out
over_again xs ys out mid after l e q = q ∙ ap (laid xs) e ∙ laid_over xs ys out l

long_as : (xs out after : List Float) → length xs ≤ length out → after ≡ laid xs out → length after ≡ length out
long_as xs out after l e = ap length e ∙ laid_length xs out l

-- The shape of the value, and the value that the turns start from.
abbrev grown : Shape → Shape
grown s = with_dims s (s.dims + added_dims s.flavor)

abbrev one : Shape → List Float
one s = (scalar s.dims unity s.flavor ample).coefs

module _ {s : Shape} {power : ℕ} {x out₀ base₀ out base : List Float} where
  module _ {f : List Float → List Float} {p : ℕ} (t : Left s power x out₀ base₀ f out base p) where
    bottom : (j : ℕ) → j ≡ 2 ^ s.dims → take j base ≡ t.b
    bottom j e = ap (take j) t.at_base ∙ take_laid j t.b base₀ (t.wide ∙ sym e)

  -- ---- a digit

  module _ {p : ℕ} (t : Left s power x out₀ base₀ kept out base p) where
    front : (g : Shape) → g ≡ grown s → take (2 ^ g.dims) out ≡ t.r
    front g e = ap (λ (u : Shape). take (2 ^ u.dims) out) e ∙ ap (take (2 ^ (grown s).dims)) t.at_out ∙ take_laid (2 ^ (grown s).dims) t.r out₀ t.long

    -- The value times the base.
    abbrev times : List Float
    times = (multiplication (grown s) s t.r t.b ample).coefs

    module _ (i : 0 < p) (out' : List Float) where
      taken : (r' : List Float) → r' ≡ cond (eqb (p % 2) 1) times t.r → length r' ≡ 2 ^ (grown s).dims → out' ≡ laid r' out₀ → Left s power x out₀ base₀ (square_of s) out' base (p / 2)
      taken r' e l q =
          let j = raised_next s t.k p t.r t.b i t.few in
          record {
            k = j.0;
            r = r';
            b = t.b;
            few = j.1;
            long = l;
            wide = t.wide;
            at_out = q;
            at_base = t.at_base;
            same = ap (λ (ys : List Float). raised s j.0 (p / 2) ys (square_of s t.b)) e ∙ sym j.2 ∙ t.same;
          }

      odd : (g : Shape) (j : ℕ) → (grown s).dims ≤ 9 → g ≡ grown s → j ≡ 2 ^ s.dims → p % 2 ≡ 1
          → out' ≡ laid (multiplication g s (take (2 ^ g.dims) out) (take j base) 512).coefs out → Left s power x out₀ base₀ (square_of s) out' base (p / 2)
      odd g j h e f d q =
          let l = grown_length (grown s) s t.r t.b refl (omega arith) h t.long t.wide in
          taken times (rw (eq-eqb (p % 2) 1 d)) l
          (over_again times t.r out₀ out out' (l ∙ sym t.long) t.at_out (q ∙ (rw (front g e, bottom t j f, e))))

      even : (p % 2 ≡ 1 → ⊥) → out' ≡ out → Left s power x out₀ base₀ (square_of s) out' base (p / 2)
      even d q = taken t.r (rw (ne_eqb (p % 2) 1 d)) t.long (q ∙ t.at_out)

  -- ---- the base

  module _ {p : ℕ} (m : Left s power x out₀ base₀ (square_of s) out base p) where
    -- It is squared for the next digit.
    goes_on : {base' : List Float} (j : ℕ) → j ≡ 2 ^ s.dims → base' ≡ laid (square_of s (take j base)) base → Left s power x out₀ base₀ kept out base' p
    goes_on {base'} j e q =
        let l = product_length All s.flavor s.dims binary64 m.b m.b in
        record {
          k = m.k;
          r = m.r;
          b = square_of s m.b;
          few = m.few;
          long = m.long;
          wide = l;
          at_out = m.at_out;
          at_base = over_again (square_of s m.b) m.b base₀ base base' (l ∙ sym m.wide) m.at_base (q ∙ ap (λ (ys : List Float). laid (square_of s ys) base) (bottom m j e));
          same = m.same;
        }

    -- Where no digit is left it does not matter.
    stops : p ≤ 0 → Left s power x out₀ base₀ kept out base p
    stops i =
        let z : p ≡ 0 = omega arith in
        let none : (ys : List Float) → raised s m.k p m.r ys ≡ m.r = λ ys. ap (λ (q : ℕ). raised s m.k q m.r ys) z ∙ raised_none s m.k m.r ys in
        record {
          k = m.k;
          r = m.r;
          b = m.b;
          few = m.few;
          long = m.long;
          wide = m.wide;
          at_out = m.at_out;
          at_base = m.at_base;
          same = none m.b ∙ sym (none (square_of s m.b)) ∙ m.same;
        }

-- An answer without a refusal.
is_done : {A : Type 0} (k : ℕ) (a : A) (r : Result A Refusal) → IsAnswer k a r → k ≡ 0 → IsOk r
is_done k a (Ok x) h z = refl
is_done k a (Err e) h z = absurd (refuses e (sym h ∙ z))

-- ---- the start and the end
module _ (s : Shape) (h : (grown s).dims ≤ 9) where
  built : (room : ℕ) → 2 ^ (grown s).dims ≤ room → scalar s.dims unity s.flavor room ≡ value (grown s) (at_grade (grown s).dims 0 (unity ∷ []))
  unfolding scalar
  built room l = one_built (grown s).dims 0 (unity ∷ []) s.flavor room h l

  one_length : length (one s) ≡ 2 ^ (grown s).dims
  unfolding start
  one_length =
      let l : 0 + 1 ≤ 2 ^ (grown s).dims = omega (arith, pow_pos (grown s).dims) in
      ap (λ (o : Outcome). length o.coefs) (built ample (blades_le _ h)) ∙ length_grade_set (grown s).dims 0 (unity ∷ []) l

  module _ {out after : List Float} {q : Result Shape Refusal} (l : 2 ^ (grown s).dims ≤ length out) (g : Gives (scalar s.dims unity s.flavor (length out)) q out after) where
    begun_done : IsOk q
    begun_done = is_done _ _ q g.answered (ap (λ (o : Outcome). o.number) (built (length out) l))

    begun_shape : (u : Shape) → q ≡ Ok u → u ≡ grown s
    begun_shape u e =
        let o = scalar s.dims unity s.flavor (length out) in
        (subst (λ (r : Result Shape Refusal). IsAnswer o.number o.shape r) e g.answered).1 ∙ ap (λ (o : Outcome). o.shape) (built (length out) l)

    begun : after ≡ laid (one s) out
    begun = g.left ∙ ap (λ (o : Outcome). laid o.coefs out) (built (length out) l ∙ sym (built ample (blades_le _ h)))

  module _ (power : ℕ) (x out out₀ : List Float) (e : out₀ ≡ laid (one s) out) where
    begins : (buf base₀ : List Float) → power < 2 ^ 31 → length x ≡ 2 ^ s.dims → base₀ ≡ laid x buf → Left s power x out₀ base₀ kept out₀ base₀ power
    unfolding by_digits
    begins buf base₀ f w q =
        record {
          k = 31;
          r = one s;
          b = x;
          few = f;
          long = one_length;
          wide = w;
          at_out = over_itself (one s) out out₀ e;
          at_base = over_itself x buf base₀ q;
          same = refl;
        }

    ends : (base₀ after base : List Float) (p : ℕ) → p ≤ 0 → Left s power x out₀ base₀ kept after base p → after ≡ laid (by_digits s power x) out
    ends base₀ after base p i t =
        let z : p ≡ 0 = omega arith in
        over_again t.r (one s) out out₀ after (t.long ∙ sym one_length) e t.at_out
        ∙ ap (λ (ys : List Float). laid ys out) (sym (ap (λ (q : ℕ). raised s t.k q t.r t.b) z ∙ raised_none s t.k t.r t.b) ∙ t.same)

-- The shape that the call before the loop gives.
shape_is : (c : At-loop-p) → c.unwrap-grown.result ≡ grown c.args.value.shape
unfolding of_bits of_fields
shape_is c = begun_shape c.args.value.shape c.requires.flavor_bound.0 c.requires.room c.scalar.ensures c.unwrap-grown.result c.unwrap-grown.ensures

-- What is laid over the front of the base's array is the copy.
based : (x base copy : List Float) → copy ≡ laid (take (length (take (length x) base)) x) (take (length x) base) → length x ≤ length base → copy ≡ x
based x base copy e h = e ∙ lay_front x base h

-- The copy is at the front of the base's array, which stays as long.
base_long : (x base copy : List Float) → copy ≡ x → length x ≤ length base → length (copy ++ drop (length x) base) ≡ length base
base_long x base copy e h = ap (λ (ys : List Float). length (ys ++ drop (length x) base)) e ∙ laid_length x base h

-- Room for the value's dimensions is room for the base's.
base_room : (d n : ℕ) → d ≤ n → 2 ^ d ≤ 2 ^ n
base_room d n h = pow_mono h

-- Room for 2 ^ n numbers in an array that stays as long.
room : {m n j k : ℕ} → m ≡ n → 2 ^ n ≤ j → k ≡ j → 2 ^ m ≤ k
room e h q = rw (e, q) h

-- After the test of a digit.
digit : (c : Joined-p-eq1) → c.unwrap-grown.result ≡ grown c.args.value.shape
    → Left c.args.value.shape c.args.power c.args.value.numbers.now c.scalar.new.out (c.lay.new.out ++ drop (length c.args.value.numbers.now) c.args.base.now) (square_of c.args.value.shape) c.if-p-eq1.out c.loop-p.base (c.loop-p.p / 2)
digit c g =
    let t = c.loop-p.invariant in
    elim c.if-p-eq1.branch [
      | then-p-eq1 w ↦
          odd t c.loop-p-test.true c.if-p-eq1.out c.unwrap-grown.result (length c.args.value.numbers.now) c.requires.flavor_bound.0 g
          c.args.value.counted w.if-p-eq1.true (w.out-is ∙ w.mul_front.ensures)
      | else-p-eq1 w ↦ even t c.loop-p-test.true c.if-p-eq1.out w.if-p-eq1.false w.out-is
    ]

pub unwrap-grown-requires : goal.unwrap-grown-requires
unfolding of_bits of_fields
unwrap-grown-requires c = begun_done c.args.value.shape c.requires.flavor_bound.0 c.requires.room c.scalar.ensures

pub loop-p-init : goal.loop-p-init
unfolding of_bits of_fields
loop-p-init c =
    let s = c.args.value.shape in
    let p = c.requires in
    let x = c.args.value.numbers.now in
    let base_is = ap (λ (xs : List Float). xs ++ drop (length x) c.args.base.now) (based _ _ _ c.lay.ensures p.in_bounds.0) in
    begins s p.flavor_bound.0 c.args.power x c.args.out.now c.scalar.new.out (begun s p.flavor_bound.0 p.room c.scalar.ensures) c.args.base.now _ p.flavor_bound.1 c.args.value.counted base_is

pub mul_front-requires-clause-in_order : goal.mul_front-requires-clause-in_order
mul_front-requires-clause-in_order c =
    subst (λ (n : ℕ). InOrder c.args.wide.now n) (sym (ap (λ (u : Shape). u.dims) (shape_is (goal.at.mul_front-requires-clause-in_order c).At-loop-p))) c.requires.in_order.1

pub mul_front-requires-clause-grown_value : goal.mul_front-requires-clause-grown_value
mul_front-requires-clause-grown_value c =
    let g = shape_is (goal.at.mul_front-requires-clause-grown_value c).At-loop-p in
    (g, omega (arith, ap (λ (u : Shape). u.dims) g, c.requires.flavor_bound.0))

pub mul_front-requires-clause-room : goal.mul_front-requires-clause-room
mul_front-requires-clause-room c =
    let p = c.requires in
    let d = ap (λ (u : Shape). u.dims) (shape_is (goal.at.mul_front-requires-clause-room c).At-loop-p) in
    (room d p.room (c.loop-p.auto.out ∙ c.scalar.auto.out), room d p.in_bounds.1 c.loop-p.auto.next)

pub invariant_of-mul_front : goal.invariant_of-mul_front
invariant_of-mul_front c =
    let v = c.args.value in
    let l = base_long v.numbers.now c.args.base.now c.lay.new.out (based _ _ _ c.lay.ensures c.requires.in_bounds.0) c.requires.in_bounds.0 in
    let e : length v.numbers.now ≤ length c.loop-p.base = omega (arith, c.requires.in_bounds.0, c.loop-p.auto.base, l) in
    record { small = v.small; counted = length-take-le _ c.loop-p.base e ∙ v.counted }

pub square_front-requires-clause-dims_bound : goal.square_front-requires-clause-dims_bound
square_front-requires-clause-dims_bound c =
    let p = c.requires in
    let m = base_room c.args.value.shape.dims (grown c.args.value.shape).dims (omega arith) in
    let l = base_long c.args.value.numbers.now c.args.base.now c.lay.new.out (based _ _ _ c.lay.ensures p.in_bounds.0) p.in_bounds.0 in
    (c.args.value.small, c.args.value.counted, omega (arith, p.in_bounds.0, c.loop-p.auto.base, l), omega (arith, m, c.args.value.counted, p.in_bounds.1, c.if-p-eq1.auto.next, c.loop-p.auto.next))

pub loop-p-preserved-then-p-gt0 : goal.loop-p-preserved-then-p-gt0
loop-p-preserved-then-p-gt0 c =
    let a = goal.at.loop-p-preserved-then-p-gt0 c in
    let q = c.square_front in
    goes_on (digit a.Joined-p-eq1 (shape_is a.At-loop-p)) (length c.args.value.numbers.now) c.args.value.counted q.ensures

pub loop-p-preserved : goal.loop-p-preserved
loop-p-preserved c =
    let a = goal.at.loop-p-preserved c in
    stops (digit a.Joined-p-eq1 (shape_is a.At-loop-p)) c.if-p-gt0.false

pub returns : goal.returns
unfolding of_bits of_fields
returns c =
    let s = c.args.value.shape in
    let p = c.requires in
    ends s p.flavor_bound.0 c.args.power c.args.value.numbers.now c.args.out.now c.scalar.new.out (begun s p.flavor_bound.0 p.room c.scalar.ensures) _ _ _ _ c.loop-p-test.false c.loop-p.invariant
