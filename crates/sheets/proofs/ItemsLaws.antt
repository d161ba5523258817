-- Laws of what is made of each item of a list: written from the front, or as bytes one after the other. Assumes nothing.
use mathlib.Core.Path.{◌≡◌, sym, ap, ◌∙◌, subst}
use mathlib.Core.List.{List, map}
use Prim.Native.Nat.{ℕ, ◌+◌, ◌-◌, ◌*◌, ◌≤◌, ◌<◌, min}
use native.Mathlib.Nat.{mul-suc, mul-le-mul_left}
use native.Mathlib.Omega.{arith}
use borrow.Rule.Slice.PartMut.{put_mid}
use lib.ListN.{length, get_or, set, take, length-map, length-take}
use lib.Seq.{sets, length-sets, length-take-le, get_or-take}
use Rattle.masks.proofs.ListLaws.{get_d_map, front, front_step}
use Rattle.sheets.specs.Bytes.{all_bytes}
use Rattle.sheets.specs.inner.Items.{Makes}
use Rattle.sheets.proofs.BytesLaws.{put_mid_sets, sets_item}

-- item i of n fits where all do
pub item_fits : (w n i room : ℕ) → i < n → w * n ≤ room → w * i + w ≤ room
item_fits w n i room h l = omega (arith, mul-suc w i, mul-le-mul_left w h)

module _ {A B : Type 0} (returns : A → B → Type 0) (g : A → B) (xs : List A) (i : ℕ) (x : A) (y : B) (made : Makes returns g xs) (is : x ≡ get_or xs i x) (returned : returns x y) (h : i < length xs) where
  -- what was made of item i
  pub made_at : y ≡ g (get_or xs i x)
  made_at = made i x y h (subst (λ z. returns z y) is returned)

  -- written at i, one more is written
  pub made_next : (out now : List B) → length xs ≤ length out → now ≡ front i (map g xs) out → set now i y ≡ front (i + 1) (map g xs) out
  made_next out now l e =
      rw e (front_step i (map g xs) (g x) out y (made_at ∙ sym (get_d_map g xs i x (g x) h)) (omega (arith, length-map xs g)) (omega arith))

-- so it is of the first n items
pub made_take : {A B : Type 0} (returns : A → B → Type 0) (g : A → B) (xs : List A) (n : ℕ) → Makes returns g xs → Makes returns g (take n xs)
made_take returns g xs n made i d y h r =
    let few : i < min n (length xs) = omega (arith, length-take n xs) in
    let e = get_or-take n xs i d (omega arith) in
    made i d y (omega arith) (subst (λ x. returns x y) e r) ∙ ap g (sym e)

-- the first w bytes of item i written after those before it
pub bytes_next : {A : Type 0} (returns : A → List ℕ → Type 0) (g : A → List ℕ) (xs : List A) (i : ℕ) (x : A) (y : List ℕ) → Makes returns g xs → x ≡ get_or xs i x → returns x y → i < length xs
    → (w at : ℕ) (out now z : List ℕ) → ((v : A) → length (g v) ≡ 8) → w ≤ 8 → at + w * length xs ≤ length out → z ≡ take w y
    → now ≡ sets out at (all_bytes (λ v. take w (g v)) (take i xs)) → put_mid (at + w * i) (at + w * i + w - (at + w * i)) now z ≡ sets out at (all_bytes (λ v. take w (g v)) (take (i + 1) xs))
bytes_next {A = A} returns g xs i x y made is returned h w at out now z eight few room e q =
    let f : A → List ℕ = λ v. take w (g v) in
    let each : (v : A) → length (f v) ≡ w = λ v. length-take-le w (g v) (omega (arith, eight v)) in
    let part : z ≡ f (get_or xs i x) = e ∙ ap (take w) (made_at returns g xs i x y made is returned h) in
    let long : length z ≡ w = ap length part ∙ each (get_or xs i x) in
    let same : length now ≡ length out = ap length q ∙ simp length-sets in
    let n : at + w * i + w - (at + w * i) ≡ w = omega arith in
    rw n (put_mid_sets (at + w * i) w now z long (omega (arith, same, item_fits w (length xs) i (w * length xs) h (omega arith))))
    ∙ ap (sets now (at + w * i)) part
    ∙ rw q (sets_item f w each xs x out at i h)
