-- What a function's contract and assertions become in its conditions, and the entries of claims.
use Rattle.std.proofs.Common.{◌≡◌, ℕ, zero, suc, ◌+◌, ◌==◌, Bool, true, false, List, [], ◌∷◌, map, take, length, Option, Some, None, slice_get, refl, sym, ap, ◌∙◌, subst, arith, pos, if◌then◌else◌}
use Rattle.std.specs.Prelude.{slice_index_or}
use Rattle.std.proofs.lemmas.Bool.{and_parts, eqb-true}
use Rattle.object_types.specs.declared.references.Ref.{Ref}
use Rattle.object_types.specs.declared.values.Value.{Value as Scalar}
use Rattle.object_types.specs.declared.values.Value.TheVariants.{Int, Ref as Refers}
use Rattle.object_types.specs.References.{null as null_ref}
use Rattle.object_types.specs.Values.{says}
use Rattle.object_types.specs.Heap.{Heap}
use Rattle.method.specs.declared.program.Spec.{Spec}
use Rattle.method.specs.declared.program.Conjunct.{Conjunct}
use Rattle.method.specs.declared.program.Hole.{Hole}
use Rattle.method.specs.declared.program.Shape.{Shape}
use Rattle.method.specs.declared.program.VariableInfo.{VariableInfo}
use Rattle.method.specs.declared.program.FunctionInfo.{FunctionInfo}
use Rattle.method.specs.declared.program.Program.{Program}
use Rattle.method.specs.Tables.{local, in_type}
use Rattle.method.specs.WellFormed.{IsHeapOf, has_sort, have_sorts}
use Rattle.method.specs.declared.program.Sort.{Sort as HoleSort}
use Rattle.method.specs.declared.program.Sort.TheVariants.{IntSort, RefSort}
use Rattle.term_meaning.specs.Columns.{holes}
use Rattle.method.specs.SpecValue as v
use Rattle.method.specs.Expressions as m
use Rattle.method.specs.Actions as acts
use Rattle.method.specs.Machine.{in_types, fit_parameters}
use Rattle.terms.specs.Formula.{Formula}
use Rattle.term_meaning.specs.Meaning.{Env, Language}
use Rattle.conditions.specs.Formulas.{null, me, heap as heap_constant}
use Rattle.conditions.specs.Symbolic.{Symbolic, Truth, Number, Reference, term}
use Rattle.conditions.specs.Annotations.{Scene, symbolic_at, hole_value, entry_of, formula, translate, claim_scene, shape_formula, entry_formula}
use Rattle.conditions.specs.Code.{Spot, State}
use Rattle.conditions.specs.Code as code
use Rattle.conditions.specs.Quantified.{spec_quantifiers, any_of_type, any_result, function_words}
use Rattle.condition_meaning.specs.Languages.{language_of, hole_constant, hole_constants}
use Rattle.condition_meaning.specs.Fits.{is_ref, names, HolesAreVisible}
use Rattle.condition_meaning.specs.Annotated as tests
use Rattle.condition_meaning.specs.Annotated.{Annotated, Each, nothing_hidden, IsListed}
use Rattle.condition_meaning.specs.FunctionWords.{place_words, call_words, return_words, ContractFits}
use Rattle.condition_meaning.proofs.Near.{Near, near_of}
use Rattle.condition_meaning.proofs.Truths as truths
use Rattle.condition_meaning.proofs.Columns.{AreRefs}
use Rattle.condition_meaning.proofs.Forms.{SameForm}
use Rattle.condition_meaning.proofs.Scenes.{Match, Stands}
use Rattle.condition_meaning.proofs.Stands.{as_past, filling_stands}
use Rattle.condition_meaning.proofs.Faithful.{one_is, shape_fits}
use Rattle.condition_meaning.proofs.FunctionScenes.{Args, place_match, call_match, return_match, sort_by_type, EachIs, clauses_are, items_are, place_fits, requires_fit, ensures_fit, writes_fit}

-- Arguments are of the sorts of their parameters.
args_sorts : (l : Language) (e : Env) (is : List VariableInfo) (ws : List Symbolic) (vs : List Scalar) (n : ℕ) → length vs ≡ n → in_types is vs ≡ true → length ws ≡ length vs → ((i : ℕ) → Stands l e (symbolic_at ws i) (local vs i)) → map is_ref ws ≡ map is_ref (map (λ v. any_of_type v.ty) (take n is))
args_sorts l e is [] [] zero s t z h = refl
args_sorts l e is [] [] (suc n) s t z h = absurd (omega (arith, s))
args_sorts l e is [] (a ∷ vs) n s t z h = absurd (omega (arith, z))
args_sorts l e is (w ∷ ws) [] n s t z h = absurd (omega (arith, z))
args_sorts l e is (w ∷ ws) (a ∷ vs) zero s t z h = absurd (omega (arith, s))
args_sorts l e [] (w ∷ ws) (a ∷ vs) (suc n) s t z h = absurd (cc)
args_sorts l e (i ∷ is) (w ∷ ws) (a ∷ vs) (suc n) s t z h =
    let u = both (in_type i.ty a) (in_types is vs) t in
    λ d. sort_by_type l e w a i.ty (h 0) u.0 d ∷ args_sorts l e is ws vs n (omega (arith, s)) u.1 (omega (arith, z)) (λ j. h (suc j)) d
  where
    both : (b c : Bool) → (if b then c else false) ≡ true → (b ≡ true) × (c ≡ true)
    both true c h = (refl, h)
    both false c h = absurd (cc)

param_sorts : (l : Language) (e : Env) (f : FunctionInfo) (ws : List Symbolic) (vs : List Scalar) → fit_parameters f vs ≡ true → Args l e ws vs → map is_ref ws ≡ map is_ref (map (λ v. any_of_type v.ty) (take f.parameters f.variables.items))
param_sorts l e f ws vs t a =
    let u = both (length vs == f.parameters) (in_types f.variables.items vs) t in
    args_sorts l e f.variables.items ws vs f.parameters (eqb-true (length vs) f.parameters u.0) u.1 a.size a.each
  where
    both : (b c : Bool) → (if b then c else false) ≡ true → (b ≡ true) × (c ≡ true)
    both true c h = (refl, h)
    both false c h = absurd (cc)

module _ (p : Program) (good : Annotated p) (n : ℕ) (f : FunctionInfo) (is : slice_get p.functions.items n ≡ Some f) (e : Env) where
  -- an annotation in the text, with these variables hidden
  pub annotation_is : (hidden : ℕ → Bool) (a : Spec) (at_ : Spot) (st : State) (x : m.Context) (k : Heap) (vs : List Scalar) → tests.fits p hidden false a (function_words f) ≡ true → names (length f.variables.items) false a ≡ true → Each p (IsListed p) (spec_quantifiers p a (function_words f))
      → map is_ref st.locals ≡ map is_ref (map (λ v. any_of_type v.ty) f.variables.items) → fit_parameters f x.args ≡ true
      → truths.HeapIs (language_of p) e at_.entry x.entry → IsHeapOf p x.entry → truths.HeapIs (language_of p) e st.heap k → IsHeapOf p k → truths.Has (language_of p) e me (Refers x.me) → Args (language_of p) e at_.args x.args → ((i : ℕ) → hidden i ≡ false → Stands (language_of p) e (symbolic_at st.locals i) (local vs i))
      → truths.Is (language_of p) e (formula p a (code.scene at_ st)) (v.holds p a (m.scene x k vs))
  annotation_is hidden a at_ st x k vs t named listed sorts fit before old after new me_is args locals =
      let form : SameForm (code.scene at_ st) (place_words f) = record { past = refl; result = refl; locals = sorts; entry = param_sorts (language_of p) e f at_.args x.args fit args; bound = refl } in
      one_is (language_of p) a hidden e (code.scene at_ st) (place_words f) (m.scene x k vs) refl form (place_match (language_of p) e hidden at_ st x k vs before old after new me_is args locals) (place_fits p good n f is hidden a t named listed)

  module _ (contract : ContractFits p f) where
    call_form : (t h : Formula) (ws : List Symbolic) (vs : List Scalar) → fit_parameters f vs ≡ true → Args (language_of p) e ws vs → SameForm (code.call_scene t h ws) (call_words f)
    call_form t h ws vs fit args = let s = param_sorts (language_of p) e f ws vs fit args in record { past = refl; result = refl; locals = s; entry = s; bound = refl }

    -- the requires clauses at a call with these arguments
    pub requires_are : (t h : Formula) (u : Ref) (k : Heap) (ws : List Symbolic) (vs : List Scalar) → fit_parameters f vs ≡ true → truths.HeapIs (language_of p) e h k → IsHeapOf p k → truths.Has (language_of p) e t (Refers u) → Args (language_of p) e ws vs
        → EachIs (language_of p) e (map (λ c. formula p c.spec (code.call_scene t h ws)) f.requires_.items) (acts.clauses_hold p f.requires_.items (m.call_scene u k vs))
    requires_are t h u k ws vs fit heap proper me_is args =
        clauses_are (language_of p) e f.requires_.items (code.call_scene t h ws) (call_words f) (m.call_scene u k vs) refl (call_form t h ws vs fit args) (call_match (language_of p) e t h u k ws vs heap proper me_is args) (requires_fit p good n f is contract e)

    -- and its writes list
    pub writes_are : (t h : Formula) (u : Ref) (k : Heap) (ws : List Symbolic) (vs : List Scalar) → fit_parameters f vs ≡ true → truths.HeapIs (language_of p) e h k → IsHeapOf p k → truths.Has (language_of p) e t (Refers u) → Args (language_of p) e ws vs
        → AreRefs (language_of p) e (map (λ a. term (translate p a (code.call_scene t h ws))) f.writes.items) (acts.items_of p f.writes.items (m.call_scene u k vs))
    writes_are t h u k ws vs fit heap proper me_is args =
        items_are (language_of p) e f.writes.items (code.call_scene t h ws) (call_words f) (m.call_scene u k vs) refl (call_form t h ws vs fit args) (call_match (language_of p) e t h u k ws vs heap proper me_is args) (writes_fit p good n f is contract e)

    -- the ensures clauses at a return
    pub ensures_are : (h0 h : Formula) (x : m.Context) (k : Heap) (ws : List Symbolic) (w : Symbolic) (a : Scalar) → fit_parameters f x.args ≡ true → is_ref w ≡ is_ref (any_result f.result) → truths.HeapIs (language_of p) e h0 x.entry → IsHeapOf p x.entry → truths.HeapIs (language_of p) e h k → IsHeapOf p k → truths.Has (language_of p) e me (Refers x.me) → Args (language_of p) e ws x.args → Stands (language_of p) e w a
        → EachIs (language_of p) e (map (λ c. formula p c.spec (code.return_scene h0 ws h w)) f.ensures_.items) (acts.clauses_hold p f.ensures_.items (m.return_scene x k a))
    ensures_are h0 h x k ws w a fit sort before old after new me_is args given =
        let s = param_sorts (language_of p) e f ws x.args fit args in
        clauses_are (language_of p) e f.ensures_.items (code.return_scene h0 ws h w) (return_words f) (m.return_scene x k a) refl (record { past = refl; result = sort; locals = s; entry = s; bound = refl }) (return_match (language_of p) e h0 h x k ws w a before old after new me_is args given) (ensures_fit p good n f is contract e)

-- Entries of claims.

-- the values of an entry stand for those of the machine's
pub entry_values : (l : Language) (hidden : ℕ → Bool) (inside : Bool) (e : Env) (x : Scene) (s : v.Scene) (c : Conjunct) → x.past ≡ false → Match l hidden inside e x s → HolesAreVisible hidden c.holes.items → Args l e (entry_of x c).values (v.entry_of s c).values
entry_values l hidden inside e x s c now match shown = record { size = sizes c.holes.items; each = fills c.holes.items shown }
  where
    sizes : (hs : List Hole) → length (map (hole_value x) hs) ≡ length (map (v.filling s) hs)
    sizes [] = refl
    sizes (h ∷ hs) = ap suc (sizes hs)

    fills : (hs : List Hole) → HolesAreVisible hidden hs → (i : ℕ) → Stands l e (symbolic_at (map (hole_value x) hs) i) (local (map (v.filling s) hs) i)
    fills [] shown zero = (pos 0, truths.has_int l e (pos 0), refl)
    fills [] shown (suc i) = (pos 0, truths.has_int l e (pos 0), refl)
    fills (h ∷ hs) shown zero = subst (λ b. Stands l e (hole_value x h) (v.filling (as_past b s) h)) now (filling_stands l hidden inside e x s match h shown.0)
    fills (h ∷ hs) shown (suc i) = fills hs shown.1 i

hole_sorts : (l : Language) (e : Env) (n : ℕ) (ss : List HoleSort) (ws : List Symbolic) (vs : List Scalar) → have_sorts ss vs ≡ true → length ws ≡ length vs → ((i : ℕ) → Stands l e (symbolic_at ws i) (local vs i)) → map is_ref ws ≡ map is_ref (hole_constants n ss)
hole_sorts l e n [] [] [] t z h = refl
hole_sorts l e n [] (w ∷ ws) [] t z h = absurd (omega (arith, z))
hole_sorts l e n [] ws (a ∷ vs) t z h = absurd (cc)
hole_sorts l e n (s ∷ ss) ws [] t z h = absurd (cc)
hole_sorts l e n (s ∷ ss) [] (a ∷ vs) t z h = absurd (omega (arith, z))
hole_sorts l e n (s ∷ ss) (w ∷ ws) (a ∷ vs) t z h =
    let u = and_parts (has_sort s a) (have_sorts ss vs) t in
    λ d. one s w a u.0 (h 0) d ∷ hole_sorts l e (n + 1) ss ws vs u.1 (omega (arith, z)) (λ j. h (suc j)) d
  where
    one : (s : HoleSort) (w : Symbolic) (a : Scalar) → has_sort s a ≡ true → Stands l e w a → is_ref w ≡ is_ref (hole_constant n s)
    one IntSort (Truth f) a t st = refl
    one IntSort (Number f) a t st = refl
    one IntSort (Reference f) a t st = absurd (let z : has_sort IntSort (Refers st.0) ≡ true = ap (has_sort IntSort) (sym st.2) ∙ t in cc)
    one RefSort (Truth f) a t st = absurd (let z : has_sort RefSort (says st.0) ≡ true = ap (has_sort RefSort) (sym st.2) ∙ t in cc)
    one RefSort (Number f) a t st = absurd (let z : has_sort RefSort (Int st.0) ≡ true = ap (has_sort RefSort) (sym st.2) ∙ t in cc)
    one RefSort (Reference f) a t st = refl

module _ (p : Program) (good : Annotated p) (e : Env) where
  shape_is : (o : Option Shape) (n : ℕ) → slice_get p.shapes.items n ≡ o → (h : Formula) (k : Heap) (ws : List Symbolic) (vs : List Scalar) → have_sorts (holes o) vs ≡ true → truths.HeapIs (language_of p) e h k → Near p k → Args (language_of p) e ws vs → truths.Is (language_of p) e (shape_formula p o h ws) (v.shape_holds p o k vs)
  shape_is None n is h k ws vs t heap proper args = truths.is_yes (language_of p) e
  shape_is (Some sh) n is h k ws vs t heap proper args =
      one_is (language_of p) sh.conjunct nothing_hidden e (claim_scene p h ws) (claim_scene p (heap_constant 0) (hole_constants 1 sh.holes.items)) (v.claim_scene p k vs) refl
      (record { past = refl; result = refl; locals = hole_sorts (language_of p) e 1 sh.holes.items ws vs t args.size args.each; entry = refl; bound = refl })
      (record { after = heap; before = heap; me = truths.has_null (language_of p) e; this = truths.has_null (language_of p) e; locals = λ i s. args.each i; entry = nothing; entry_size = refl; result = (pos 0, truths.has_int (language_of p) e (pos 0), refl); bound = no_bound; subject = (Refers null_ref, truths.has_null (language_of p) e, refl); plain = λ f. refl; proper_after = proper; proper_before = proper })
      (shape_fits p good n sh is)
    where
      nothing : (i : ℕ) → Stands (language_of p) e (symbolic_at [] i) (local [] i)
      nothing zero = (pos 0, truths.has_int (language_of p) e (pos 0), refl)
      nothing (suc i) = (pos 0, truths.has_int (language_of p) e (pos 0), refl)

      no_bound : (i : ℕ) → truths.Has (language_of p) e (slice_index_or [] i null) (Refers (slice_index_or [] i null_ref))
      no_bound zero = truths.has_null (language_of p) e
      no_bound (suc i) = truths.has_null (language_of p) e

  -- an entry's formula has the truth of the machine's entry
  pub entry_near : (n : ℕ) (h : Formula) (k : Heap) (ws : List Symbolic) (vs : List Scalar) → have_sorts (holes (slice_get p.shapes.items n)) vs ≡ true → truths.HeapIs (language_of p) e h k → Near p k → Args (language_of p) e ws vs → truths.Is (language_of p) e (entry_formula p h (record { shape = n; values = ws })) (v.entry_holds p k (record { shape = n; values = vs }))
  entry_near n h k ws vs t heap proper args = shape_is (slice_get p.shapes.items n) n refl h k ws vs t heap proper args

  pub entry_is : (n : ℕ) (h : Formula) (k : Heap) (ws : List Symbolic) (vs : List Scalar) → have_sorts (holes (slice_get p.shapes.items n)) vs ≡ true → truths.HeapIs (language_of p) e h k → IsHeapOf p k → Args (language_of p) e ws vs → truths.Is (language_of p) e (entry_formula p h (record { shape = n; values = ws })) (v.entry_holds p k (record { shape = n; values = vs }))
  entry_is n h k ws vs t heap proper args = entry_near n h k ws vs t heap (near_of proper) args
