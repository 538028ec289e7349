-- The arguments of a typed call in scope fit, and so does the left side that takes its value.
use Rattle.std.proofs.Common.{◌≡◌, ℕ, ◌==◌, Bool, true, false, List, [], ◌∷◌, length, take, slice_get, Option, Some, None, Vec, Global, ap, sym, ◌∙◌, true≢false}
use Rattle.int_ranges.specs.declared.ctype.CType.{CType}
use Rattle.object_types.specs.Sets.{every}
use Rattle.method.specs.declared.program.Expr.{Expr}
use Rattle.method.specs.declared.program.Target.TheVariants.{Local, FieldOf}
use Rattle.method.specs.declared.program.Receiver.{Receiver}
use Rattle.method.specs.declared.program.Receiver.TheVariants.{Nobody, NewVariable, Place as Left}
use Rattle.method.specs.declared.program.FieldInfo.{FieldInfo}
use Rattle.method.specs.declared.program.VariableInfo.{VariableInfo}
use Rattle.method.specs.declared.program.FunctionInfo.{FunctionInfo}
use Rattle.method.specs.declared.program.Program.{Program}
use Rattle.method.specs.declared.program.Stmt.TheVariants.{Call}
use Rattle.method.specs.Scopes.{expr_in, receiver_in}
use Rattle.method.specs.Typing.{Values, is_pointer, has_type, call_ok, args_fit, receiver_ok, result_values, field_takes, point_to, values, fits as fits_type, test as test_values}
use Rattle.conditions.proofs.Same.{both_true}
use Rattle.condition_walks.proofs.ActionSorts.{tested}
use Rattle.condition_walks.proofs.Fitting as fitting
use Rattle.condition_walks.proofs.Fitting.{FitsExpr, FitsOther}
use Rattle.condition_walks.proofs.Scoping.{known_seen}

module _ (p : Program) (number : ℕ) (f : FunctionInfo) where
  -- each expression fits
  abbrev pub FitsAll : (ℕ → Bool) → List Expr → Type 0
  FitsAll hid [] = Unit {0}
  FitsAll hid (c ∷ cs) = FitsExpr p number f hid c × FitsAll hid cs

  -- the object of a field that takes a call's value is a pointer
  abbrev pub FitsTo : (ℕ → Bool) → Receiver → Type 0
  FitsTo hid Nobody = Unit {0}
  FitsTo hid (NewVariable i) = Unit {0}
  FitsTo hid (Left (Local i)) = Unit {0}
  FitsTo hid (Left (FieldOf c d)) = FitsExpr p number f hid c × ((test : ℕ → Bool) × (is_pointer p f test c ≡ true))

  fits_all : (hid : ℕ → Bool) (is : List ℕ) (vars : List VariableInfo) (es : List Expr) → fitting.Seen p number f is hid → every (expr_in p f is) es ≡ true → args_fit p f vars es ≡ true → FitsAll hid es
  fits_all hid is vars [] seen i o = tt
  fits_all hid is [] (e ∷ es) seen i o = absurd (true≢false (sym o))
  fits_all hid is (w ∷ vars) (e ∷ es) seen i o =
      let y = both_true (expr_in p f is e) (every (expr_in p f is) es) i in
      let z = both_true (has_type p f e w.ty) (args_fit p f vars es) o in
      let t = tested p f (values p f e) (λ r. fits_type r w.ty) z.0 in
      (record { is = is; seen = seen; scoped = y.0; values_are = t.0; typed = t.1 }, fits_all hid is vars es seen y.1 z.1)

  fits_field : (hid : ℕ → Bool) (is : List ℕ) (c : Expr) (o : Option FieldInfo) (r : Option Values) → fitting.Seen p number f is hid → expr_in p f is c ≡ true → test_values p f (values p f c) (λ v. field_takes p f o v r) ≡ true → FitsExpr p number f hid c × ((test : ℕ → Bool) × (is_pointer p f test c ≡ true))
  fits_field hid is c None r seen i o = absurd (true≢false (sym (tested p f (values p f c) (λ v. false) o).2))
  fits_field hid is c (Some d) r seen i o =
      let t = tested p f (values p f c) (λ v. field_takes p f (Some d) v r) o in
      let k = both_true (point_to (λ n. n == d.of) t.0) (test_values p f r (λ w. fits_type w d.ty)) t.2 in
      (record { is = is; seen = seen; scoped = i; values_are = t.0; typed = t.1 }, ((λ n. n == d.of), ap (λ z. test_values p f z (point_to (λ n. n == d.of))) t.1 ∙ k.0))

  fits_to : (hid : ℕ → Bool) (is : List ℕ) (to : Receiver) (r : Option Values) → fitting.Seen p number f is hid → receiver_in p f is to ≡ true → receiver_ok p f to r ≡ true → FitsTo hid to
  fits_to hid is Nobody r seen i o = tt
  fits_to hid is (NewVariable j) r seen i o = tt
  fits_to hid is (Left (Local j)) r seen i o = tt
  fits_to hid is (Left (FieldOf c d)) r seen i o = fits_field hid is c (slice_get p.fields.items d) r seen i o

  -- the arguments of a call, or of a start
  pub fits_args : (hid : ℕ → Bool) (is : List ℕ) (g : Option FunctionInfo) (es : List Expr) → fitting.Seen p number f is hid → every (expr_in p f is) es ≡ true → call_ok p f g es ≡ true → FitsAll hid es
  fits_args hid is None es seen i o = absurd (true≢false (sym o))
  fits_args hid is (Some g) es seen i o = fits_all hid is (take g.parameters g.variables.items) es seen i (both_true (length es == g.parameters) (args_fit p f (take g.parameters g.variables.items) es) o).1

  pub fits_call : (hid : ℕ → Bool) (line : ℕ) (to : Receiver) (c : Option CType) (q : ℕ) (es : Vec Expr Global) → FitsOther p number f hid (Call line to c q es) → FitsAll hid es.items × FitsTo hid to
  fits_call hid line to c q es fits =
      let i = both_true (receiver_in p f fits.is to) (every (expr_in p f fits.is) es.items) fits.scoped in
      let o = both_true (call_ok p f (slice_get p.functions.items q) es.items) (receiver_ok p f to (result_values p f (slice_get p.functions.items q) c)) fits.typed in
      let seen = known_seen p f fits.is hid fits.place in
      (fits_args hid fits.is (slice_get p.functions.items q) es.items seen i.1 o.0, fits_to hid fits.is to (result_values p f (slice_get p.functions.items q) c) seen i.0 o.1)
