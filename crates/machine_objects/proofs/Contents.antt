-- The fields of a new object, written one by one.
use Rattle.std.proofs.Common.{◌≡◌, ℕ, zero, suc, ◌+◌, ◌-◌, ◌<◌, ◌≤◌, ◌==◌, Bool, true, false, cond, List, [], ◌∷◌, length, get_or, take, None, refl, sym, ap, ◌∙◌, ◌⊎◌, inl, inr, arith}
use Rattle.std.specs.Prelude.{slice_get, nat_lt}
use Rattle.std.proofs.lemmas.Bool.{eqb-true, eqb-false, ltb-false, le-ltb, cases_lt}
use Rattle.std.proofs.lemmas.List.{take_all}
use Rattle.std.proofs.lemmas.Option.{slice_get-get_or}
use Rattle.object_types.specs.declared.references.Ref.{Ref}
use Rattle.object_types.specs.declared.values.Value.{Value}
use Rattle.object_types.specs.declared.records.Mode.TheVariants.{Open}
use Rattle.object_types.specs.Values.{kept}
use Rattle.object_types.specs.Heap.{Record, nothing, put_at, with_status, with_field}
use Rattle.method.specs.Actions.{kept_at, fields_from, new_object}
use Rattle.claims.proofs.Putting.{put_there, put_twice}

slice_take : (i j : ℕ) (vs : List Value) → j < i → slice_get (take i vs) j ≡ slice_get vs j
slice_take zero j vs l = absurd (omega (arith, l))
slice_take (suc i) j [] l = refl
slice_take (suc i) zero (v ∷ vs) l = refl
slice_take (suc i) (suc j) (v ∷ vs) l = slice_take i j vs (omega (arith, l))

slice_past : (i j : ℕ) (vs : List Value) → i ≤ j → slice_get (take i vs) j ≡ None
slice_past zero j vs l = refl
slice_past (suc i) j [] l = refl
slice_past (suc i) zero (v ∷ vs) l = absurd (omega (arith, l))
slice_past (suc i) (suc j) (v ∷ vs) l = slice_past i j vs (omega (arith, l))

no_fields : (first f : ℕ) → fields_from first [] f ≡ None
no_fields first f = by_test (nat_lt f first)
  where
    by_test : (b : Bool) → cond b None (kept_at (slice_get [] (f - first))) ≡ None
    by_test true = refl
    by_test false = refl

module _ (first i : ℕ) (vs : List Value) (d : Value) (within : i < length vs) where
  at_field : (g : ℕ) → g ≡ first + i → kept (get_or vs i d) ≡ fields_from first (take (i + 1) vs) g
  at_field g e =
      let low : nat_lt g first ≡ false = le-ltb g first (omega (arith, e)) in
      let there : g - first ≡ i = omega (arith, e) in
      sym (ap (λ b. cond b None (kept_at (slice_get (take (i + 1) vs) (g - first)))) low
      ∙ ap (λ j. kept_at (slice_get (take (i + 1) vs) j)) there
      ∙ ap kept_at (slice_take (i + 1) i vs (omega arith) ∙ slice_get-get_or vs i d within))

  off_field : (g : ℕ) → (g ≡ first + i → ⊥) → fields_from first (take i vs) g ≡ fields_from first (take (i + 1) vs) g
  off_field g apart = by_low (nat_lt g first) refl
    where
      by_place : first ≤ g → (g - first < i) ⊎ (i ≤ g - first) → kept_at (slice_get (take i vs) (g - first)) ≡ kept_at (slice_get (take (i + 1) vs) (g - first))
      by_place up (inl l) = ap kept_at (slice_take i (g - first) vs l ∙ sym (slice_take (i + 1) (g - first) vs (omega (arith, l))))
      by_place up (inr l) =
          let past : i + 1 ≤ g - first = omega (arith, l, up, apart) in
          ap kept_at (slice_past i (g - first) vs l ∙ sym (slice_past (i + 1) (g - first) vs past))

      by_low : (b : Bool) → nat_lt g first ≡ b → cond b None (kept_at (slice_get (take i vs) (g - first))) ≡ cond b None (kept_at (slice_get (take (i + 1) vs) (g - first)))
      by_low true e = refl
      by_low false e = by_place (ltb-false g first e) (cases_lt (g - first) i)

  pub fields_next : (field g : ℕ) → field ≡ first + i → cond (g == field) (kept (get_or vs i d)) (fields_from first (take i vs) g) ≡ fields_from first (take (i + 1) vs) g
  fields_next field g e = by_test (g == field) refl
    where
      by_test : (b : Bool) → (g == field) ≡ b → cond b (kept (get_or vs i d)) (fields_from first (take i vs) g) ≡ fields_from first (take (i + 1) vs) g
      by_test true t = at_field g (eqb-true g field t ∙ e)
      by_test false t = off_field g (λ s. eqb-false g field t (s ∙ sym e))

-- the object stands there with the contents so far
pub contents_start : (get first_get : Ref → Record) (o me : Ref) (first : ℕ) (vs : List Value) → get o ≡ nothing → first_get ≡ put_at get o (with_status Open me (get o)) → first_get ≡ put_at get o (new_object me first (take 0 vs))
contents_start get first_get o me first vs none status =
    status ∙ ap (λ (r : Record). put_at get o (with_status Open me r)) none ∙ λ i. put_at get o (record (with_status Open me nothing) { fields = (λ f. sym (no_fields first f) i) })

pub contents_next : (get now after : Ref → Record) (o me : Ref) (first field i : ℕ) (vs : List Value) (d : Value) → field ≡ first + i → now ≡ put_at get o (new_object me first (take i vs)) → i < length vs → after ≡ put_at now o (with_field field (get_or vs i d) (now o)) → after ≡ put_at get o (new_object me first (take (i + 1) vs))
contents_next get now after o me first field i vs d e so_far within step =
    let r = new_object me first (take i vs) in
    step ∙ ap (λ (k : Ref → Record). put_at k o (with_field field (get_or vs i d) (k o))) so_far
    ∙ ap (λ (q : Record). put_at (put_at get o r) o (with_field field (get_or vs i d) q)) (put_there get o r)
    ∙ put_twice get o r (with_field field (get_or vs i d) r)
    ∙ λ j. put_at get o (record r { fields = (λ g. fields_next first i vs d within field g e j) })

pub contents_end : (get now : Ref → Record) (o me : Ref) (first i : ℕ) (vs : List Value) → now ≡ put_at get o (new_object me first (take i vs)) → length vs ≤ i → now ≡ put_at get o (new_object me first vs)
contents_end get now o me first i vs so_far over = so_far ∙ ap (λ us. put_at get o (new_object me first us)) (take_all i vs over)
