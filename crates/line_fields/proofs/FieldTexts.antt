-- Reading the fields and writing them are inverse, and their text is short.
use Rattle.basics.proofs.Basics.{◌≡◌, refl, sym, ◌∙◌, ap, true, and-eq-true_iff, List, [], ◌∷◌, ◌++◌, append_assoc}
use Rattle.basics.proofs.Basics.{append-nil, ◌≤◌, ℕ, ◌+◌, suc, zero, ◌^◌, arith, eqb, length, get_or, length-append}
use Rattle.basics.proofs.Basics.{replicate, get_or-append_seam, lt-ltb, le-leb, eqb-true, ltb-true, leb-true, cases}
use Rattle.dates.specs.Dates.{last_day}
use Rattle.line_text.proofs.DayTexts.{day_append, day_length}
use Rattle.line_text.proofs.Spelling.{decimal_append, decimal_length}
use Rattle.line_values.specs.Pinned.Numbers.{Parsed, number, bad}
use Rattle.line_values.specs.OneText.{Stops}
use Rattle.line_values.proofs.Numbers.{number_back, number_only}
use Rattle.line_values.proofs.Days.{day_back, day_only}
use Rattle.line_fields.specs.declared.{Sort.Sort}
use Rattle.line_fields.specs.Fields.{Field, field, field_text, fits, fields_text, fit_all}
use Rattle.line_fields.specs.Pinned.Reading.{AllParsed, value_of, field_of, values, and_then, fields_of}
use Rattle.line_fields.specs.Between.Shapes.{sort_at, sorts_from, fields_from, sorts_in, values_in}

-- a field is followed by a `;` or by nothing
fields_stop : (fs : List Field) → Stops (fields_text fs)
fields_stop [] = tt
fields_stop (f ∷ fs) = elim f.sort as (λ k. Stops (field_text k f.value (fields_text fs))) [ Sort.Date ↦ refl | Sort.Number ↦ refl ]

-- one field, written and read
field_back : (k : Sort) (n : ℕ) (l : List ℕ) → fits k n ≡ true → Stops l → field_of k (field_text k n l) ≡ number n l
unfolding field_of
field_back Sort.Date n l h s = day_back n l (leb-true n last_day h)
field_back Sort.Number n l h s = number_back n l (ltb-true n (10 ^ 12) h) s

-- one field, read
value_only : (k : Sort) (n : ℕ) (l r : List ℕ) → value_of k l ≡ number n r →
    (59 ∷ l ≡ field_text k n r) × (fits k n ≡ true)
value_only Sort.Date n l r e = let w = day_only n l r e in (ap (◌∷◌ 59) w.0, le-leb n last_day w.1)
value_only Sort.Number n l r e = let w = number_only n l r e in (ap (◌∷◌ 59) w.0, lt-ltb n (10 ^ 12) w.1)

field_only : (k : Sort) (n : ℕ) (l r : List ℕ) → field_of k l ≡ number n r → (l ≡ field_text k n r) × (fits k n ≡ true)
unfolding field_of
field_only k n [] r e = absurd (let z : ◌≡◌ {A = ℕ} 0 1 = cc in omega arith)
field_only k n (c ∷ l) r e = cases (eqb c 59) (λ p. rw (eqb-true c 59 p) (value_only k n l r (rw p at e)))
    (λ p. absurd (let z : ◌≡◌ {A = ℕ} 0 1 = cc in omega arith))

-- all fields, written and read
pub fields_back : (fs : List Field) (acc : List ℕ) → fit_all fs ≡ true →
    fields_of (sorts_in fs) acc (fields_text fs) ≡ values (acc ++ values_in fs) []
unfolding fields_of fit_all
fields_back [] acc h = rw append-nil
fields_back (f ∷ fs) acc h = let (fit, rest) = (and-eq-true_iff (fits f.sort f.value) (fit_all fs)).0 h in
    rw (field_back f.sort f.value (fields_text fs) fit (fields_stop fs))
    (rw append_assoc at (fields_back fs (acc ++ (f.value ∷ [])) rest))

-- what stands behind a field does not change it
pub field_append : (k : Sort) (n : ℕ) (l : List ℕ) → field_text k n l ≡ field_text k n [] ++ l
field_append Sort.Date n l = ap (◌∷◌ 59) (day_append n l)
field_append Sort.Number n l = ap (◌∷◌ 59) (decimal_append n l)

field_before : (k : Sort) (n : ℕ) (l m : List ℕ) → field_text k n (l ++ m) ≡ field_text k n l ++ m
field_before k n l m = rw (field_append k n (l ++ m), field_append k n l, append_assoc)

-- all fields, read: they, and what follows their text
pub record FieldsAre (ks : List Sort) (l r acc vs : List ℕ) : Type 0 where
  pub fields : List Field
  pub sorts : sorts_in fields ≡ ks
  pub all : vs ≡ acc ++ values_in fields
  pub text : l ≡ fields_text fields ++ r
  pub fit : fit_all fields ≡ true

then_was : (x : Parsed) (f : ℕ → List ℕ → AllParsed) (vs r : List ℕ) → and_then x f ≡ values vs r →
    (n : ℕ) × (t : List ℕ) × (x ≡ number n t) × (f n t ≡ values vs r)
then_was (number n t) f vs r e = (n, t, refl, e)
then_was bad f vs r e = absurd (let z : ◌≡◌ {A = ℕ} 0 1 = cc in omega arith)

pub fields_only : (ks : List Sort) (acc l vs r : List ℕ) → fields_of ks acc l ≡ values vs r → FieldsAre ks l r acc vs
unfolding fields_of fit_all
fields_only [] acc l vs r e = let q : acc ≡ vs = cc in
    record { fields = []; sorts = refl; all = sym q ∙ sym (append-nil acc); text = cc; fit = refl }
fields_only (k ∷ ks) acc l vs r e = let (n, x, p, e₁) = then_was (field_of k l) _ vs r e in
    let f = field_only k n l x p in let w = fields_only ks (acc ++ (n ∷ [])) x vs r e₁ in
    record {
      fields = field k n ∷ w.fields;
      sorts = ap (◌∷◌ k) w.sorts;
      all = w.all ∙ append_assoc acc (n ∷ []) (values_in w.fields);
      text = f.0 ∙ ap (field_text k n) w.text ∙ field_before k n (fields_text w.fields) r;
      fit = rw (f.1, w.fit);
    }

-- the fields of a shape with these values: their sorts, and from the values back
pub sorts_as : (second i n : ℕ) (vs : List ℕ) → sorts_in (fields_from second i n vs) ≡ sorts_from second i n
unfolding fields_from sorts_from
sorts_as second i zero vs = refl
sorts_as second i (suc n) vs = ap (◌∷◌ (sort_at second i)) (sorts_as second (suc i) n vs)

pub fields_of_values : (second n : ℕ) (fs : List Field) (acc : List ℕ) → sorts_in fs ≡ sorts_from second (length acc) n →
    fields_from second (length acc) n (acc ++ values_in fs) ≡ fs
unfolding fields_from sorts_from
fields_of_values second zero [] acc e = refl
fields_of_values second zero (f ∷ fs) acc e = absurd (let z : ◌≡◌ {A = ℕ} 0 1 = cc in omega arith)
fields_of_values second (suc n) [] acc e = absurd (let z : ◌≡◌ {A = ℕ} 0 1 = cc in omega arith)
fields_of_values second (suc n) (f ∷ fs) acc e = let here : f.sort ≡ sort_at second (length acc) = cc in
    let rest : sorts_in fs ≡ sorts_from second (suc (length acc)) n = cc in
    let long : length (acc ++ (f.value ∷ [])) ≡ suc (length acc) = length-append acc (f.value ∷ []) ∙ omega arith in
    let ih = fields_of_values second n fs (acc ++ (f.value ∷ [])) (rest ∙ ap (λ (i : ℕ). sorts_from second i n) (sym long)) in
    rw (get_or-append_seam acc f.value (values_in fs) 0, ← here) (ap (◌∷◌ f) (rw (long, append_assoc) at ih))

-- values with zeros behind them
pub get_d_zeros : (vs : List ℕ) (n i : ℕ) → get_or (vs ++ replicate n 0) i 0 ≡ get_or vs i 0
get_d_zeros [] zero i = refl
get_d_zeros [] (suc n) zero = refl
get_d_zeros [] (suc n) (suc i) = get_d_zeros [] n i
get_d_zeros (v ∷ vs) n zero = refl
get_d_zeros (v ∷ vs) n (suc i) = get_d_zeros vs n i

pub fields_zeros : (second i n : ℕ) (vs : List ℕ) (k : ℕ) →
    fields_from second i n (vs ++ replicate k 0) ≡ fields_from second i n vs
unfolding fields_from
fields_zeros second i zero vs k = refl
fields_zeros second i (suc n) vs k = rw (get_d_zeros vs k i, fields_zeros second (suc i) n vs k)

-- a field has at most nine bytes, or 13
abbrev pub width : Sort → ℕ
width Sort.Date = 9
width Sort.Number = 13

abbrev pub widths : List Sort → ℕ
widths [] = 0
widths (k ∷ ks) = width k + widths ks

pub field_short : (k : Sort) (n : ℕ) → fits k n ≡ true → length (field_text k n []) ≤ width k
field_short Sort.Date n h = let e = day_length n in omega arith
field_short Sort.Number n h = let e = decimal_length 12 n (omega arith) (ltb-true n (10 ^ 12) h) in omega arith

pub fields_short : (fs : List Field) → fit_all fs ≡ true → length (fields_text fs) ≤ widths (sorts_in fs)
unfolding fit_all
fields_short [] h = omega arith
fields_short (f ∷ fs) h = let (fit, more) = (and-eq-true_iff (fits f.sort f.value) (fit_all fs)).0 h in
    let first = field_short f.sort f.value fit in let rest = fields_short fs more in
    rw (field_append f.sort f.value (fields_text fs), length-append) (omega arith)
