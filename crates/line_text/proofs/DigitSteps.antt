-- Writing digits: what holds on the way while the last digits of a number stand already, and a date's eight digits.
use Rattle.basics.proofs.Basics.{◌≡◌, sym, ◌∙◌, ap, List, [], ◌∷◌, ◌≤◌, ℕ, ◌-◌, ◌+◌, ◌<◌, suc, ◌^◌, ◌/◌, ◌%◌}
use Rattle.basics.proofs.Basics.{arith, length, drop, take, set, length-set, drop-cons, get_or-set_same}
use Rattle.basics.proofs.Basics.{drop-set-lt, take-set-le, take-take, set_split, cases, ltb, ltb-true, ltb-false}
use Rattle.dates.specs.declared.{Date.Date}
use Rattle.line_text.specs.Decimal.{decimal, fixed}
use Rattle.line_text.specs.Days.{date_text}
use Rattle.line_text.specs.Between.Appending.{put}
use Rattle.line_text.proofs.Spelling.{decimal_one, decimal_step, decimal_append, count_one, count_step, count_some}

-- a store in front of what stands already
store_front : (l : List ℕ) (i a : ℕ) → 0 < i → i ≤ length l → drop (i - 1) (set l (i - 1) a) ≡ a ∷ drop i l
store_front l i a p h = let q : i - 1 < length (set l (i - 1) a) = rw length-set (omega arith) in
    let t : i - 1 < length l = omega arith in let s : suc (i - 1) ≡ i = omega arith in
    rw (drop-cons (set l (i - 1) a) (i - 1) 0 q, get_or-set_same l (i - 1) a 0 t, s, drop-set-lt i l (i - 1) a (omega arith))

-- of n's digits, which begin at at, those of v are still to be written, up to i; o₀ is the buffer as it came
pub record Left (n at : ℕ) (o₀ : List ℕ) (v i : ℕ) (o : List ℕ) : Type 0 where
  pub small : v < 10 ^ 20
  pub end : i ≡ at + length (decimal v [])
  pub long : length o ≡ length o₀
  pub before : take i o ≡ take i o₀
  pub text : decimal n (drop (at + length (decimal n [])) o₀) ≡ decimal v (drop i o)

module _ (n at : ℕ) (o₀ : List ℕ) (v i : ℕ) (o : List ℕ) (p : Left n at o₀ v i o) where
  pub left_some : at < i
  left_some = let h = count_some v in omega (arith, p.end)

  pub left_step : i ≤ length o₀ → 10 ≤ v → Left n at o₀ (v / 10) (i - 1) (set o (i - 1) (48 + v % 10))
  left_step fit h = let k = count_step v h p.small in let q : 0 < i = omega (arith, left_some) in
      let room : i ≤ length o = omega (arith, p.long) in let less : i - 1 ≤ i = omega arith in
      record {
        small = omega (arith, p.small);
        end = omega (arith, p.end, k);
        long = length-set o (i - 1) (48 + v % 10) ∙ p.long;
        before = take-set-le (i - 1) o (i - 1) (48 + v % 10) (omega arith) ∙ sym (take-take (i - 1) i o less) ∙
            ap (take (i - 1)) p.before ∙ take-take (i - 1) i o₀ less;
        text = p.text ∙ decimal_step v (drop i o) h p.small ∙
            ap (decimal (v / 10)) (sym (store_front o i (48 + v % 10) q room));
      }

  pub left_done : i ≤ length o₀ → v < 10 → set o at (48 + v) ≡ put at (decimal n []) o₀
  unfolding put
  left_done fit h = let one = count_one v h in let next : suc at ≡ i = omega (arith, p.end, one) in
      let room : at < length o = omega (arith, p.long, p.end, one) in let less : at ≤ i = omega arith in
      let front : take at o ≡ take at o₀ = sym (take-take at i o less) ∙ ap (take at) p.before ∙ take-take at i o₀ less in
      set_split o at (48 + v) room ∙
      rw (front, next, ← (decimal_append n (drop (at + length (decimal n [])) o₀)), p.text, decimal_one v (drop i o) h)

-- one digit more: the others are still to be written, or all of them stand
pub digit_put : (n at : ℕ) (o₀ : List ℕ) (v i : ℕ) (o : List ℕ) → Left n at o₀ v i o → i ≤ length o₀ →
    (at < i - 1 → Left n at o₀ (v / 10) (i - 1) (set o (i - 1) (48 + v % 10))) ×
    (i - 1 ≡ at → set o (i - 1) (48 + v % 10) ≡ put at (decimal n []) o₀)
digit_put n at o₀ v i o p fit = cases (ltb v 10)
    (λ e. let small = ltb-true v 10 e in let one = count_one v small in let here : i - 1 ≡ at = omega (arith, p.end) in
    let last : v % 10 ≡ v = omega arith in ((λ h. absurd (omega arith)), λ h. rw (here, last) (left_done n at o₀ v i o p fit small)))
    (λ e. let more = ltb-false v 10 e in let next = left_step n at o₀ v i o p fit more in
    let some = left_some n at o₀ _ _ _ next in ((λ h. next), λ h. absurd (omega arith)))

-- the eight digits of a date
abbrev pub date_digits : ℕ → ℕ → ℕ → List ℕ
date_digits y m d = (48 + y / 1000 % 10) ∷ (48 + y / 100 % 10) ∷ (48 + y / 10 % 10) ∷ (48 + y % 10) ∷
    (48 + m / 10 % 10) ∷ (48 + m % 10) ∷ (48 + d / 10 % 10) ∷ (48 + d % 10) ∷ []

pub date_digits_lem : (x : Date) → date_text x [] ≡ date_digits x.year x.month x.day
unfolding fixed
date_digits_lem x = let hundreds : x.year / 10 / 10 ≡ x.year / 100 = omega arith in
    let thousands : x.year / 100 / 10 ≡ x.year / 1000 = omega arith in rw (hundreds, thousands)
