-- A function's annotations where they are read: at a place of its text, at a call and at a return.
use Rattle.std.proofs.Common.{◌≡◌, ℕ, zero, suc, ◌<◌, ◌≤◌, ◌&&◌, Bool, true, false, List, [], ◌∷◌, ◌++◌, map, take, length, Option, Some, None, slice_get, refl, sym, ap, ◌∙◌, subst, arith, pos}
use Rattle.std.specs.Prelude.{slice_index_or, flat_map}
use Rattle.std.proofs.Common.{leb-true}
use Rattle.std.proofs.lemmas.Bool.{and_parts}
use Rattle.object_types.specs.declared.references.Ref.{Ref}
use Rattle.object_types.specs.declared.values.Value.{Value as Scalar}
use Rattle.object_types.specs.declared.values.Value.TheVariants.{Int, Ref as Refers}
use Rattle.object_types.specs.References.{null as null_ref}
use Rattle.object_types.specs.Sets.{every}
use Rattle.object_types.specs.Heap.{Heap}
use Rattle.method.specs.declared.program.DeclaredType.{DeclaredType}
use Rattle.method.specs.declared.program.DeclaredType.TheVariants.{Integer, Pointer, Object, Claim}
use Rattle.method.specs.declared.program.Clause.{Clause}
use Rattle.method.specs.declared.program.Spec.{Spec}
use Rattle.method.specs.declared.program.VariableInfo.{VariableInfo}
use Rattle.method.specs.declared.program.FunctionInfo.{FunctionInfo}
use Rattle.method.specs.declared.program.StructInfo.{StructInfo}
use Rattle.method.specs.declared.program.Program.{Program}
use Rattle.method.specs.Tables.{local, in_type}
use Rattle.method.specs.WellFormed.{IsHeapOf}
use Rattle.method.specs.Typing.{WellTyped}
use Rattle.method.specs.SpecValue as v
use Rattle.method.specs.Expressions as m
use Rattle.method.specs.Actions as acts
use Rattle.terms.specs.Formula.{Formula}
use Rattle.term_meaning.specs.Meaning.{Env, Language}
use Rattle.conditions.specs.Formulas.{nat, null, me}
use Rattle.conditions.specs.Symbolic.{Symbolic, Truth, Number, Reference, term}
use Rattle.conditions.specs.Annotations.{Scene, symbolic_at, formula, translate}
use Rattle.conditions.specs.Code.{Spot, State}
use Rattle.conditions.specs.Code as code
use Rattle.conditions.specs.Quantified.{QuantifiedFormula, spec_quantifiers, specs_quantifiers, clauses_quantifiers, stmt_quantifiers, function_quantifiers, program_quantifiers, find_quantifier, any_of_type, any_result, function_words, struct_words}
use Rattle.condition_meaning.specs.Languages.{language_of}
use Rattle.condition_meaning.specs.Fits.{Fits, names, is_ref}
use Rattle.condition_meaning.specs.Annotated as tests
use Rattle.condition_meaning.specs.Annotated.{Annotated, Each, nothing_hidden, IsListed}
use Rattle.condition_meaning.specs.FunctionWords.{place_words, call_words, return_words, ContractFits}
use Rattle.condition_meaning.proofs.Near.{near_of}
use Rattle.condition_meaning.proofs.Truths as truths
use Rattle.condition_meaning.proofs.Columns.{AreRefs}
use Rattle.condition_meaning.proofs.Forms.{SameForm, sort_same}
use Rattle.condition_meaning.proofs.Scenes.{Match, Stands}
use Rattle.condition_meaning.proofs.Stands.{as_past, stands, ref_stands}
use Rattle.condition_meaning.proofs.SameTrees.{SameTree, SameValue}
use Rattle.condition_meaning.proofs.Similar.{SceneSame}
use Rattle.condition_meaning.proofs.FitsMoved.{fits_moved}
use Rattle.condition_meaning.proofs.Listed.{fits_by_test, each_of, each_parts}
use Rattle.condition_meaning.proofs.Faithful.{one_is, at_every}

-- values of these, each
pub record Args (l : Language) (e : Env) (ws : List Symbolic) (vs : List Scalar) : Type 0 where
  pub size : length ws ≡ length vs
  pub each : (i : ℕ) → Stands l e (symbolic_at ws i) (local vs i)

-- The scenes.
module _ (l : Language) (e : Env) where
  no_bound : (i : ℕ) → truths.Has l e (slice_index_or [] i null) (Refers (slice_index_or [] i null_ref))
  no_bound zero = truths.has_null l e
  no_bound (suc i) = truths.has_null l e

  zero_stands : Stands l e (Number (nat 0)) (Int (pos 0))
  zero_stands = (pos 0, truths.has_int l e (pos 0), refl)

  pub place_match : (hidden : ℕ → Bool) (a : Spot) (st : State) (x : m.Context) (k : Heap) (vs : List Scalar) → truths.HeapIs l e a.entry x.entry → IsHeapOf l.program x.entry → truths.HeapIs l e st.heap k → IsHeapOf l.program k → truths.Has l e me (Refers x.me) → Args l e a.args x.args → ((i : ℕ) → hidden i ≡ false → Stands l e (symbolic_at st.locals i) (local vs i)) → Match l hidden false e (code.scene a st) (m.scene x k vs)
  place_match hidden a st x k vs before old after new t args locals =
      record { after = after; before = before; me = t; this = truths.has_null l e; locals = locals; entry = args.each; entry_size = args.size; result = zero_stands; bound = no_bound; subject = (Refers null_ref, truths.has_null l e, refl); plain = λ h. refl; proper_after = near_of new; proper_before = near_of old }

  pub call_match : (t h : Formula) (u : Ref) (k : Heap) (ws : List Symbolic) (vs : List Scalar) → truths.HeapIs l e h k → IsHeapOf l.program k → truths.Has l e t (Refers u) → Args l e ws vs → Match l nothing_hidden false e (code.call_scene t h ws) (m.call_scene u k vs)
  call_match t h u k ws vs heap proper is args =
      record { after = heap; before = heap; me = is; this = truths.has_null l e; locals = λ i s. args.each i; entry = args.each; entry_size = args.size; result = zero_stands; bound = no_bound; subject = (Refers null_ref, truths.has_null l e, refl); plain = λ h. refl; proper_after = near_of proper; proper_before = near_of proper }

  pub return_match : (h0 h : Formula) (x : m.Context) (k : Heap) (ws : List Symbolic) (w : Symbolic) (a : Scalar) → truths.HeapIs l e h0 x.entry → IsHeapOf l.program x.entry → truths.HeapIs l e h k → IsHeapOf l.program k → truths.Has l e me (Refers x.me) → Args l e ws x.args → Stands l e w a → Match l nothing_hidden false e (code.return_scene h0 ws h w) (m.return_scene x k a)
  return_match h0 h x k ws w a before old after new t args given =
      record { after = after; before = before; me = t; this = truths.has_null l e; locals = λ i s. args.each i; entry = args.each; entry_size = args.size; result = given; bound = no_bound; subject = (Refers null_ref, truths.has_null l e, refl); plain = λ h. refl; proper_after = near_of new; proper_before = near_of old }

  -- of the sort of its type
  pub sort_by_type : (w : Symbolic) (a : Scalar) (ty : DeclaredType) → Stands l e w a → in_type ty a ≡ true → is_ref w ≡ is_ref (any_of_type ty)
  unfolding in_type
  sort_by_type w a ty s h = by_value a ty h (sort_of_value w a s)
    where
      is_refers : Scalar → Bool
      is_refers (Int z) = false
      is_refers (Refers r) = true

      sort_of_value : (w : Symbolic) (a : Scalar) → Stands l e w a → is_ref w ≡ is_refers a
      sort_of_value (Truth b) a s = ap is_refers (sym s.2)
      sort_of_value (Number y) a s = ap is_refers (sym s.2)
      sort_of_value (Reference y) a s = ap is_refers (sym s.2)

      by_value : (a : Scalar) (ty : DeclaredType) → in_type ty a ≡ true → is_ref w ≡ is_refers a → is_ref w ≡ is_ref (any_of_type ty)
      by_value (Int z) (Integer c) h k = k
      by_value (Int z) (Pointer n) h k = absurd (cc)
      by_value (Int z) Object h k = absurd (cc)
      by_value (Int z) Claim h k = absurd (cc)
      by_value (Refers r) (Integer c) h k = absurd (cc)
      by_value (Refers r) (Pointer n) h k = k
      by_value (Refers r) Object h k = k
      by_value (Refers r) Claim h k = k

  -- Clauses and writes lists.

  abbrev pub EachIs : List Formula → List Bool → Type 0
  EachIs [] [] = Unit {0}
  EachIs [] (b ∷ bs) = ⊥
  EachIs (f ∷ fs) [] = ⊥
  EachIs (f ∷ fs) (b ∷ bs) = truths.Is l e f b × EachIs fs bs

  abbrev pub ClausesFit : List Clause → Scene → Type 0
  ClausesFit [] w = Unit {0}
  ClausesFit (c ∷ cs) w = Fits l nothing_hidden false c.spec w × ClausesFit cs w

  pub clauses_are : (cs : List Clause) (x w : Scene) (s : v.Scene) → x.past ≡ false → SameForm x w → Match l nothing_hidden false e x s → ClausesFit cs w → EachIs (map (λ c. formula l.program c.spec x) cs) (acts.clauses_hold l.program cs s)
  clauses_are [] x w s now form match f = tt
  clauses_are (c ∷ cs) x w s now form match f = (one_is l c.spec nothing_hidden e x w s now form match f.0, clauses_are cs x w s now form match f.1)

  abbrev pub ItemsFit : List Spec → Scene → Type 0
  ItemsFit [] w = Unit {0}
  ItemsFit (a ∷ es) w = (Fits l nothing_hidden false a w × (is_ref (translate l.program a w) ≡ true)) × ItemsFit es w

  pub items_are : (es : List Spec) (x w : Scene) (s : v.Scene) → x.past ≡ false → SameForm x w → Match l nothing_hidden false e x s → ItemsFit es w → AreRefs l e (map (λ a. term (translate l.program a x)) es) (acts.items_of l.program es s)
  items_are [] x w s now form match f = tt
  items_are (a ∷ es) x w s now form match f =
      (ref_stands l e (translate l.program a x) (v.value l.program a s) (sort_same l.program a x w form ∙ f.0.1) (value_stands a x w s now form match f.0.0), items_are es x w s now form match f.1)
    where
      value_stands : (a : Spec) (x w : Scene) (s : v.Scene) → x.past ≡ false → SameForm x w → Match l nothing_hidden false e x s → Fits l nothing_hidden false a w → Stands l e (translate l.program a x) (v.value l.program a s)
      value_stands a x w s now form match f = subst (λ b. Stands l e (translate l.program a x) (v.value l.program a (as_past b s))) now (stands l a nothing_hidden false e x w s form match f)

-- The words of a function's own table over those of a place.

abbrev NoNumbers : ℕ → ℕ → Type 0
NoNumbers a b = ⊥

any_same : (ty : DeclaredType) → SameValue NoNumbers (any_of_type ty) (any_of_type ty)
any_same (Integer c) = (refl, refl, tt)
any_same (Pointer n) = (refl, refl, tt)
any_same Object = (refl, refl, tt)
any_same Claim = (refl, refl, tt)

same_any : (vs : List VariableInfo) (i : ℕ) → SameValue NoNumbers (symbolic_at (map (λ v. any_of_type v.ty) vs) i) (symbolic_at (map (λ v. any_of_type v.ty) vs) i)
same_any [] zero = (refl, refl, tt)
same_any [] (suc i) = (refl, refl, tt)
same_any (v ∷ vs) zero = any_same v.ty
same_any (v ∷ vs) (suc i) = same_any vs i

same_first : (vs : List VariableInfo) (n i : ℕ) → i < n → SameValue NoNumbers (symbolic_at (map (λ v. any_of_type v.ty) vs) i) (symbolic_at (map (λ v. any_of_type v.ty) (take n vs)) i)
same_first vs zero i h = absurd (omega (arith, h))
same_first [] (suc n) zero h = (refl, refl, tt)
same_first [] (suc n) (suc i) h = (refl, refl, tt)
same_first (v ∷ vs) (suc n) zero h = any_same v.ty
same_first (v ∷ vs) (suc n) (suc i) h = same_first vs n i (omega (arith, h))

result_same : (o : Option DeclaredType) → SameValue NoNumbers (any_result o) (any_result o)
result_same None = (refl, refl, tt)
result_same (Some ty) = any_same ty

any_size : (vs : List VariableInfo) → length (map (λ v. any_of_type v.ty) vs) ≡ length vs
any_size [] = refl
any_size (v ∷ vs) = ap suc (any_size vs)

first_size : (vs : List VariableInfo) (n : ℕ) → n ≤ length vs → length (map (λ v. any_of_type v.ty) (take n vs)) ≡ n
first_size vs zero h = refl
first_size [] (suc n) h = absurd (omega (arith, h))
first_size (v ∷ vs) (suc n) h = ap suc (first_size vs n (omega (arith, h)))

take_within : (vs : List VariableInfo) (n : ℕ) → length (map (λ v. any_of_type v.ty) (take n vs)) ≤ n
take_within vs zero = omega arith
take_within [] (suc n) = omega arith
take_within (v ∷ vs) (suc n) = omega (arith, take_within vs n)

take_below : (vs : List VariableInfo) (n : ℕ) → length (map (λ v. any_of_type v.ty) (take n vs)) ≤ length vs
take_below vs zero = omega arith
take_below [] (suc n) = omega arith
take_below (v ∷ vs) (suc n) = omega (arith, take_below vs n)

nothing_same : (i : ℕ) → SameTree NoNumbers (slice_index_or [] i null) (slice_index_or [] i null)
nothing_same zero = (refl, refl, tt)
nothing_same (suc i) = (refl, refl, tt)

null_same : SameTree NoNumbers null null
null_same = (refl, refl, tt)

place_similar : (f : FunctionInfo) → SceneSame NoNumbers (length f.variables.items) false (function_words f) (place_words f)
place_similar f = record {
  past = refl;
  after = null_same;
  before = null_same;
  me = null_same;
  this = null_same;
  result = λ h. absurd (cc);
  locals = λ i h. same_any f.variables.items i;
  few_first = omega (arith, any_size f.variables.items);
  few_second = omega (arith, any_size f.variables.items);
  entry = λ i. same_any (take f.parameters f.variables.items) i;
  entry_size = refl;
  params_first = omega (arith, take_below f.variables.items f.parameters);
  bound = λ i. nothing_same i;
  bound_size = refl;
  subject = null_same;
}

call_similar : (f : FunctionInfo) → f.parameters ≤ length f.variables.items → SceneSame NoNumbers f.parameters false (function_words f) (call_words f)
call_similar f few = record {
  past = refl;
  after = null_same;
  before = null_same;
  me = null_same;
  this = null_same;
  result = λ h. absurd (cc);
  locals = λ i h. same_first f.variables.items f.parameters i h;
  few_first = omega (arith, few, any_size f.variables.items);
  few_second = omega (arith, first_size f.variables.items f.parameters few);
  entry = λ i. same_any (take f.parameters f.variables.items) i;
  entry_size = refl;
  params_first = omega (arith, take_within f.variables.items f.parameters);
  bound = λ i. nothing_same i;
  bound_size = refl;
  subject = null_same;
}

return_similar : (f : FunctionInfo) → f.parameters ≤ length f.variables.items → SceneSame NoNumbers f.parameters true (function_words f) (return_words f)
return_similar f few = record {
  past = refl;
  after = null_same;
  before = null_same;
  me = null_same;
  this = null_same;
  result = λ h. result_same f.result;
  locals = λ i h. same_first f.variables.items f.parameters i h;
  few_first = omega (arith, few, any_size f.variables.items);
  few_second = omega (arith, first_size f.variables.items f.parameters few);
  entry = λ i. same_any (take f.parameters f.variables.items) i;
  entry_size = refl;
  params_first = omega (arith, take_within f.variables.items f.parameters);
  bound = λ i. nothing_same i;
  bound_size = refl;
  subject = null_same;
}

-- A contract's annotations fit where they are read.
module _ (p : Program) (good : Annotated p) (n : ℕ) (f : FunctionInfo) (is : slice_get p.functions.items n ≡ Some f) where
  pub in_this : Each p (IsListed p) (function_quantifiers p f)
  in_this = each_of p (IsListed p) (λ f. function_quantifiers p f) p.functions.items (each_parts p (IsListed p) (flat_map (λ (c : StructInfo). specs_quantifiers p c.invariants.items struct_words) p.structs.items) (flat_map (λ f. function_quantifiers p f) p.functions.items) good.numbered).1 n f is

  -- an annotation in the text, with these variables hidden
  pub place_fits : (hidden : ℕ → Bool) (e : Spec) → tests.fits p hidden false e (function_words f) ≡ true → names (length f.variables.items) false e ≡ true → Each p (IsListed p) (spec_quantifiers p e (function_words f)) → Fits (language_of p) hidden false e (place_words f)
  place_fits hidden e t named listed = fits_moved (language_of p) (length f.variables.items) false hidden hidden (λ i h s. s) e NoNumbers false (function_words f) (place_words f) (place_similar f) named (fits_by_test p e hidden false (function_words f) t listed)

  module _ (contract : ContractFits p f) where
    few : f.parameters ≤ length f.variables.items
    few = leb-true _ _ contract.parameters

    clauses_fit : (few_shown : Bool) (w : Scene) → SceneSame NoNumbers f.parameters few_shown (function_words f) w → (cs : List Clause) → every (λ c. tests.fits p nothing_hidden false c.spec (function_words f) && names f.parameters few_shown c.spec) cs ≡ true → Each p (IsListed p) (clauses_quantifiers p cs (function_words f)) → (e : Env) → ClausesFit (language_of p) e cs w
    clauses_fit r w same [] t a e = tt
    clauses_fit r w same (c ∷ cs) t a e =
        let z = and_parts (tests.fits p nothing_hidden false c.spec (function_words f) && names f.parameters r c.spec) _ t in
        let y = and_parts (tests.fits p nothing_hidden false c.spec (function_words f)) (names f.parameters r c.spec) z.0 in
        let x = each_parts p (IsListed p) (spec_quantifiers p c.spec (function_words f)) (clauses_quantifiers p cs (function_words f)) a in
        (fits_moved (language_of p) f.parameters r nothing_hidden nothing_hidden (λ i h s. s) c.spec NoNumbers false (function_words f) w same y.1 (fits_by_test p c.spec nothing_hidden false (function_words f) y.0 x.0), clauses_fit r w same cs z.1 x.1 e)

    items_fit : (es : List Spec) → every (λ e. (tests.fits p nothing_hidden false e (function_words f) && names f.parameters false e) && is_ref (translate p e (call_words f))) es ≡ true → Each p (IsListed p) (specs_quantifiers p es (function_words f)) → (e : Env) → ItemsFit (language_of p) e es (call_words f)
    items_fit [] t a e = tt
    items_fit (s ∷ es) t a e =
        let z = and_parts ((tests.fits p nothing_hidden false s (function_words f) && names f.parameters false s) && is_ref (translate p s (call_words f))) _ t in
        let y = and_parts (tests.fits p nothing_hidden false s (function_words f) && names f.parameters false s) (is_ref (translate p s (call_words f))) z.0 in
        let w = and_parts (tests.fits p nothing_hidden false s (function_words f)) (names f.parameters false s) y.0 in
        let x = each_parts p (IsListed p) (spec_quantifiers p s (function_words f)) (specs_quantifiers p es (function_words f)) a in
        ((fits_moved (language_of p) f.parameters false nothing_hidden nothing_hidden (λ i h s. s) s NoNumbers false (function_words f) (call_words f) (call_similar f few) w.1 (fits_by_test p s nothing_hidden false (function_words f) w.0 x.0), y.1), items_fit es z.1 x.1 e)

    parts : Each p (IsListed p) (clauses_quantifiers p f.requires_.items (function_words f)) × Each p (IsListed p) (clauses_quantifiers p f.ensures_.items (function_words f)) × Each p (IsListed p) (specs_quantifiers p f.writes.items (function_words f))
    parts =
        let a = each_parts p (IsListed p) (clauses_quantifiers p f.requires_.items (function_words f) ++ clauses_quantifiers p f.ensures_.items (function_words f) ++ specs_quantifiers p f.writes.items (function_words f)) (flat_map (stmt_quantifiers p f) f.body.items) in_this in
        let b = each_parts p (IsListed p) (clauses_quantifiers p f.requires_.items (function_words f) ++ clauses_quantifiers p f.ensures_.items (function_words f)) (specs_quantifiers p f.writes.items (function_words f)) a.0 in
        let c = each_parts p (IsListed p) (clauses_quantifiers p f.requires_.items (function_words f)) (clauses_quantifiers p f.ensures_.items (function_words f)) b.0 in
        (c.0, c.1, b.1)

    pub requires_fit : (e : Env) → ClausesFit (language_of p) e f.requires_.items (call_words f)
    requires_fit e = clauses_fit false (call_words f) (call_similar f few) f.requires_.items contract.requires_ parts.0 e

    pub ensures_fit : (e : Env) → ClausesFit (language_of p) e f.ensures_.items (return_words f)
    ensures_fit e = clauses_fit true (return_words f) (return_similar f few) f.ensures_.items contract.ensures_ parts.1 e

    pub writes_fit : (e : Env) → ItemsFit (language_of p) e f.writes.items (call_words f)
    writes_fit e = items_fit f.writes.items contract.writes parts.2 e

-- The contracts of an annotated program fit.
pub contract_fits : (p : Program) → Annotated p → WellTyped p → (n : ℕ) (f : FunctionInfo) → slice_get p.functions.items n ≡ Some f → ContractFits p f
contract_fits p good typed n f is =
    let t = at_every (tests.function_fits p) p.functions.items good.functions n f is in
    let z = and_parts ((every (tests.clause_fits p f false) f.requires_.items && every (tests.clause_fits p f true) f.ensures_.items) && every (tests.item_fits p f) f.writes.items) (every (tests.stmt_fits p f) f.body.items) t in
    let y = and_parts (every (tests.clause_fits p f false) f.requires_.items && every (tests.clause_fits p f true) f.ensures_.items) (every (tests.item_fits p f) f.writes.items) z.0 in
    let x = and_parts (every (tests.clause_fits p f false) f.requires_.items) (every (tests.clause_fits p f true) f.ensures_.items) y.0 in
    record { parameters = typed.parameters n f is; requires_ = x.0; ensures_ = x.1; writes = y.1 }

-- and so do the annotations in a function's text
pub text_fits : (p : Program) → Annotated p → (n : ℕ) (f : FunctionInfo) → slice_get p.functions.items n ≡ Some f → every (tests.stmt_fits p f) f.body.items ≡ true
text_fits p good n f is =
    (and_parts ((every (tests.clause_fits p f false) f.requires_.items && every (tests.clause_fits p f true) f.ensures_.items) && every (tests.item_fits p f) f.writes.items) (every (tests.stmt_fits p f) f.body.items) (at_every (tests.function_fits p) p.functions.items good.functions n f is)).1
