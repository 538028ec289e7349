-- Where a call's value goes: the place, and that what comes back is of its type.
use Rattle.std.proofs.Common.{◌≡◌, ℕ, Bool, true, false, ◌||◌, ◌==◌, List, [], ◌∷◌, Option, Some, None, slice_get, refl, sym, eq-eqb, subst, IsTrue}
use Rattle.std.proofs.lemmas.Bool.{both_ways}
use Rattle.object_types.specs.declared.values.Value.{Value}
use Rattle.int_ranges.specs.declared.ctype.CType.{CType}
use Rattle.method.specs.declared.program.DeclaredType.{DeclaredType}
use Rattle.method.specs.Tables.{in_type, is_field_of, belongs}
use Rattle.object_types.specs.References.{is_null}
use Rattle.method.specs.declared.program.FieldInfo.{FieldInfo}
use Rattle.std.proofs.lemmas.Bool.{eqb-true}
use Rattle.method.specs.declared.program.Expr.{Expr}
use Rattle.method.specs.declared.program.Target.TheVariants.{Local, FieldOf}
use Rattle.method.specs.declared.program.Receiver.{Receiver}
use Rattle.method.specs.declared.program.Receiver.TheVariants.{Nobody, NewVariable, Place as Left}
use Rattle.method.specs.declared.program.FunctionInfo.{FunctionInfo}
use Rattle.method.specs.declared.program.Program.{Program}
use Rattle.object_types.specs.Values.{referent}
use Rattle.object_types.specs.Heap.{Heap}
use Rattle.method.specs.Expressions.{End, Misfit, Failed, Gave, goes_on, Gives, after, Context, eval}
use Rattle.method.specs.Actions.{Place, InLocal, InField, Supply, Chosen, spot, starting, convert_to}
use Rattle.method.specs.Machine.{Activation, received}
use Rattle.method.specs.Text.{receiver_sets}
use Rattle.method.specs.LocalRuns.{of_type}
use Rattle.method.specs.Typing.{is_type, Values, test, values, point_to, field_takes, fits as fits_type, declared, and_then, converted_values, convertible, only_if, receiver_ok, result_values, WellTyped, is_pointer}
use Rattle.method.proofs.Global.{and_both}
use Rattle.modular_law.proofs.Ends.{Alike}
use Rattle.modular_law.proofs.Walks.{Sub}
use Rattle.modular_law.proofs.Numbers.{gives_same, then_alike}
use Rattle.modular_law.proofs.Acts.{left_alike}
use Rattle.modular_law.proofs.Threads.{FieldPlace, StoreTyped, place_sets}
use Rattle.modular_law.proofs.GoodTurns.{Running}
use Rattle.modular_law.proofs.Results.{gave_is}
use Rattle.machine_laws.proofs.Typed.{is_of, of_declared}
use Rattle.modular_law.proofs.Typing.{variable_typed, field_typed, struct_or_null, value_typed, converted_typed, takes_none}

module _ (p : Program) (wt : WellTyped p) {t : ℕ} {h : Heap} {a : Activation} {f : FunctionInfo} {below : List Activation} {supply : Supply} (here : Running p t h a f below supply) where
  abbrev x : Context
  x = a.context

  -- where a call's value goes
  pub received_alike : (line : ℕ) (to : Receiver) (n m : ℕ) → Alike (received p to (spot x [] line) n (starting h a.locals supply)) (received p to (spot x [] line) m (starting h a.locals (Chosen [])))
  received_alike line Nobody n m = gives_same _
  received_alike line (NewVariable i) n m = gives_same _
  received_alike line (Left u) n m = then_alike _ _ _ _ (left_alike p (spot x [] line) [] u n m (starting h a.locals supply) []) (λ place. gives_same _)

  pub received_sets : (line : ℕ) (to : Receiver) (place : Option Place) → (received p to (spot x [] line) 0 (starting h a.locals supply)).end ≡ Gave place → Sub (place_sets place) (receiver_sets to)
  received_sets line Nobody place e = subst (λ (o : Option Place). Sub (place_sets o) []) (gave_is None place e) (λ i o. o)
  received_sets line (NewVariable i) place e = subst (λ (o : Option Place). Sub (place_sets o) (i ∷ [])) (gave_is (Some (InLocal i)) place e) (λ i o. o)
  received_sets line (Left (Local i)) place e = subst (λ (o : Option Place). Sub (place_sets o) (i ∷ [])) (gave_is (Some (InLocal i)) place e) (λ i o. o)
  received_sets line (Left (FieldOf e q)) place d = by_end (eval p (spot x [] line) h a.locals e 0).overflow (eval p (spot x [] line) h a.locals e 0).end d
    where
      by_end : (w : _) (u : End Value) → (after {A = Place} (goes_on w u (λ v. Gives (InField (referent v) q))) (λ o. Gives (Some o))).end ≡ Gave place → Sub (place_sets place) []
      by_end w Misfit z = absurd (cc)
      by_end w (Failed n kind at_line) z = absurd (cc)
      by_end w (Gave v) z = subst (λ (o : Option Place). Sub (place_sets o) []) (gave_is (Some (InField (referent v) q)) place z) (λ i o. o)

  -- what comes back is of the type of where it goes
  place_typed : (line : ℕ) (to : Receiver) (place : Option Place) → (received p to (spot x [] line) 0 (starting h a.locals supply)).end ≡ Gave place → (vs : Values) (w : Value) →
      receiver_ok p f to (Some vs) ≡ true → is_of p vs w ≡ true → StoreTyped p f place w
  place_typed line Nobody place e vs w ok is' = subst (λ (o : Option Place). StoreTyped p f o w) (gave_is None place e) tt
  place_typed line (NewVariable i) place e vs w ok is' = subst (λ (o : Option Place). StoreTyped p f o w) (gave_is (Some (InLocal i)) place e)
      (variable_typed p f i vs w ok is')
  place_typed line (Left (Local i)) place e vs w ok is' = subst (λ (o : Option Place). StoreTyped p f o w) (gave_is (Some (InLocal i)) place e)
      (variable_typed p f i vs w ok is')
  place_typed line (Left (FieldOf e q)) place d vs w ok is' = by_end (eval p (spot x [] line) h a.locals e 0).overflow (eval p (spot x [] line) h a.locals e 0).end d
    where
      by_end : (o : _) (u : End Value) → (after {A = Place} (goes_on o u (λ v. Gives (InField (referent v) q))) (λ o. Gives (Some o))).end ≡ Gave place → StoreTyped p f place w
      by_end o Misfit z = absurd (cc)
      by_end o (Failed n kind at_line) z = absurd (cc)
      by_end o (Gave v) z = subst (λ (o : Option Place). StoreTyped p f o w) (gave_is (Some (InField (referent v) q)) place z)
          (field_typed p f e q (referent v) vs w ok is')

  pub points_to : (line : ℕ) (e : Expr) (ty : ℕ) (v : Value) → is_pointer p f (λ n. n == ty) e ≡ true → (eval p (spot x [] line) h a.locals e 0).end ≡ Gave v →
      is_null (referent v) || ((referent v).ty == ty) ≡ true
  points_to line e ty v pointer gave = by_values (values p f e) refl pointer
    where
      by_values : (o : Option Values) → values p f e ≡ o → test p f o (point_to (λ n. n == ty)) ≡ true → is_null (referent v) || ((referent v).ty == ty) ≡ true
      by_values None d z = absurd (both_ways false refl z)
      by_values (Some vs) d z = struct_or_null p vs ty v z (value_typed p wt x f here.is t here.me h here.good a.locals here.fits line e vs 0 v d gave)

  -- the object of a left side is NULL or one of the field's type
  pub place_field : (line : ℕ) (to : Receiver) (place : Option Place) (o : Option Values) → receiver_ok p f to o ≡ true →
      (received p to (spot x [] line) 0 (starting h a.locals supply)).end ≡ Gave place → FieldPlace p place
  place_field line Nobody place o ok e = subst (λ (u : Option Place). FieldPlace p u) (gave_is None place e) tt
  place_field line (NewVariable i) place o ok e = subst (λ (u : Option Place). FieldPlace p u) (gave_is (Some (InLocal i)) place e) tt
  place_field line (Left (Local i)) place o ok e = subst (λ (u : Option Place). FieldPlace p u) (gave_is (Some (InLocal i)) place e) tt
  place_field line (Left (FieldOf e q)) place o ok d = by_end (eval p (spot x [] line) h a.locals e 0).overflow (eval p (spot x [] line) h a.locals e 0).end refl d
    where
      turned : (b : Bool) (m n : ℕ) → b || (m == n) ≡ true → b || (n == m) ≡ true
      turned true m n z = refl
      turned false m n z = eq-eqb n m (sym (eqb-true m n z))

      by_values : (v : Value) → (eval p (spot x [] line) h a.locals e 0).end ≡ Gave v → (u : Option Values) → values p f e ≡ u →
          test p f u (λ w. field_takes p f (slice_get p.fields.items q) w o) ≡ true → is_null (referent v) || is_field_of p q (referent v).ty ≡ true
      by_values v gave None z tested = absurd (both_ways false refl tested)
      by_values v gave (Some vs) z tested = by_field (slice_get p.fields.items q) refl tested
        where
          by_field : (i : Option FieldInfo) → slice_get p.fields.items q ≡ i → field_takes p f i vs o ≡ true → is_null (referent v) || belongs (slice_get p.fields.items q) (referent v).ty ≡ true
          by_field None y w = absurd (both_ways false refl w)
          by_field (Some i) y w =
              let points = (and_both (point_to (λ n. n == i.of) vs) (test p f o (λ w. fits_type w i.ty)) w).0 in
              subst (λ k. is_null (referent v) || belongs k (referent v).ty ≡ true) (sym y) (turned (is_null (referent v)) (referent v).ty i.of
              (struct_or_null p vs i.of v points (value_typed p wt x f here.is t here.me h here.good a.locals here.fits line e vs 0 v z gave)))

      by_end : (w : _) (u : End Value) → (eval p (spot x [] line) h a.locals e 0).end ≡ u →
          (after {A = Place} (goes_on w u (λ v. Gives (InField (referent v) q))) (λ o. Gives (Some o))).end ≡ Gave place → FieldPlace p place
      by_end w Misfit y z = absurd (cc)
      by_end w (Failed n kind at_line) y z = absurd (cc)
      by_end w (Gave v) y z = subst (λ (u : Option Place). FieldPlace p u) (gave_is (Some (InField (referent v) q)) place z) (by_values v y (values p f e) refl ok)

  none_taken : (line : ℕ) (to : Receiver) (place : Option Place) (w : Value) → (received p to (spot x [] line) 0 (starting h a.locals supply)).end ≡ Gave place →
      receiver_ok p f to None ≡ true → StoreTyped p f place w
  none_taken line Nobody place w e ok = subst (λ (o : Option Place). StoreTyped p f o w) (gave_is None place e) tt
  none_taken line (NewVariable i) place w e ok = absurd (takes_none p wt x f here.is t here.me h here.good a.locals here.fits line (Local i) ok)
  none_taken line (Left u) place w e ok = absurd (takes_none p wt x f here.is t here.me h here.good a.locals here.fits line u ok)

  came_back : (line : ℕ) (c : Option CType) (ty : DeclaredType) (v w : Value) → is_type p ty ≡ true → convertible p f c (declared ty) ≡ true → in_type ty v ≡ true →
      (convert_to (spot x [] line) c v 0).end ≡ Gave w → is_of p (converted_values p f c (declared ty)) w ≡ true
  came_back line None ty v w is care typed conv = subst (λ u. is_of p (declared ty) u ≡ true) (gave_is v w conv) (of_declared p ty v is typed)
  came_back line (Some ct) ty v w is care typed conv = converted_typed p wt x f here.is t here.me h here.good a.locals here.fits line ct (declared ty) v w care (of_declared p ty v is typed) conv

  pub received_typed : (line : ℕ) (to : Receiver) (c : Option CType) (q : ℕ) (g : FunctionInfo) → slice_get p.functions.items q ≡ Some g → (place : Option Place) →
      (received p to (spot x [] line) 0 (starting h a.locals supply)).end ≡ Gave place → receiver_ok p f to (result_values p f (Some g) c) ≡ true → (v w : Value) →
      IsTrue (of_type g.result v) → (convert_to (spot x [] line) c v 0).end ≡ Gave w → StoreTyped p f place w
  received_typed line to c q g g_is place gave ok v w range conv = by_result g.result refl ok range
    where
      by_conversion : (ty : DeclaredType) → g.result ≡ Some ty → of_type (Some ty) v ≡ true → (b : Bool) → convertible p f c (declared ty) ≡ b →
          receiver_ok p f to (only_if b (converted_values p f c (declared ty))) ≡ true → StoreTyped p f place w
      by_conversion ty d range' false e ok' = none_taken line to place w gave ok'
      by_conversion ty d range' true e ok' = place_typed line to place gave (converted_values p f c (declared ty)) w ok' (came_back line c ty v w (wt.result_types q g ty g_is d) e range' conv)

      by_result : (r : Option DeclaredType) → g.result ≡ r →
          receiver_ok p f to (and_then r (λ ty. only_if (convertible p f c (declared ty)) (converted_values p f c (declared ty)))) ≡ true → of_type r v ≡ true → StoreTyped p f place w
      by_result None d ok' range' = none_taken line to place w gave ok'
      by_result (Some ty) d ok' range' = by_conversion ty d range' (convertible p f c (declared ty)) refl ok'
