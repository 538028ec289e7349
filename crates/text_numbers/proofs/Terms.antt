-- The terms of annotations by their trees alone: where a tree lies in memory changes nothing.
use Rattle.std.proofs.Common.{◌≡◌, if◌then◌else◌, List, [], ◌∷◌, ◌++◌, map, refl}
use Rattle.method.specs.declared.program.Program.{Program}
use Rattle.method.specs.declared.program.Spec.{Spec, Row_of-Spec, end_of-Spec, more_of-Spec}
use Rattle.method.specs.declared.program.Spec.TheVariants as s
use Rattle.method.specs.Tables.{type_of_field}
use Rattle.terms.specs.declared.term.Kind.TheVariants as k
use Rattle.terms.specs.Formula.{Formula, binary}
use Rattle.conditions.specs.Formulas.{int, nat, null, true_formula, false_formula, not', and', or', imp, eq, all_of, get, field_column, owner, count, owns, lists, has_shape, closed, mutable, wrapped}
use Rattle.conditions.specs.Symbolic.{Symbolic, Truth, Number, Reference, term, test, choose, symbolic_of_type, compute, compare}
use Rattle.conditions.specs.Annotations as of_text
use Rattle.conditions.specs.Annotations.{Scene, old_scene, old_as_present, bind_ref, with_subject, current_heap, variable, bound_ref, hole_value, formal_scene, subject_of, quantifier, iff, body_of_all, body_of_some, body_of_only, wrapped0}
use Rattle.typed_program.specs.Trees as t
use Rattle.typed_program.specs.Views as seen

module _ (p : Program) where
  abbrev mutual
    pub translate : t.Spec → Scene → Symbolic
    translate (t.SNumber z) x = Number (int z)
    translate (t.STruth b) x = Truth (if b then true_formula else false_formula)
    translate t.SNull x = Reference null
    translate (t.SVariable i) x = variable x i
    translate (t.SBound i) x = Reference (bound_ref x i)
    translate t.SThis x = Reference x.this
    translate t.SMe x = Reference x.me
    translate t.SResult x = x.result
    translate (t.SField e f) x = symbolic_of_type (type_of_field p f) (get (field_column f) (current_heap x) (term (translate e x) ∷ []))
    translate (t.SClosed e) x = Truth (closed (current_heap x) (term (translate e x)))
    translate (t.SOwner e) x = Reference (owner (current_heap x) (term (translate e x)))
    translate (t.SClaimCount e) x = Number (count (current_heap x) (term (translate e x)))
    translate (t.SMember a b) x = Truth (owns (current_heap x) (term (translate b x)) (term (translate a x)))
    translate (t.SNot e) x = Truth (not' (test (translate e x)))
    translate (t.SNegate e) x = Number (binary k.Sub (nat 0) (term (translate e x)))
    translate (t.SArithmetic op a b) x = Number (compute op (term (translate a x)) (term (translate b x)))
    translate (t.SCompare op a b) x = Truth (compare op (term (translate a x)) (term (translate b x)))
    translate (t.SAnd a b) x = Truth (and' (test (translate a x)) (test (translate b x)))
    translate (t.SOr a b) x = Truth (or' (test (translate a x)) (test (translate b x)))
    translate (t.SImplies a b) x = Truth (imp (test (translate a x)) (test (translate b x)))
    translate (t.SIff a b) x = Truth (iff (test (translate a x)) (test (translate b x)))
    translate (t.SChoose a b c) x = choose (test (translate a x)) (translate b x) (translate c x)
    translate (t.SOld e) x = translate e (old_scene x)
    translate (t.SUnchanged e) x = Truth (eq (term (translate e (old_as_present x))) (term (translate e x)))
    translate (t.SWrapped e) x = Truth (wrapped x.me (current_heap x) (term (translate e x)))
    translate (t.SWrapped0 e) x = Truth (wrapped0 x (term (translate e x)))
    translate (t.SMutable e) x = Truth (mutable x.me (current_heap x) (term (translate e x)))
    translate (t.SFresh e) x = Truth (not' (eq (owner x.before (term (translate e x))) x.me))
    translate (t.SClaimsObject c o) x = Truth (lists (current_heap x) (term (translate c x)) (term (translate o x)))
    translate (t.SClaimsOnly n c row) x = Truth (all_of (map (lists (current_heap x) (term (translate c x))) (terms_of row x) ++ quantifier x n (body_of_only x (translate c (formal_scene x)) (terms_of row (formal_scene x))) ∷ []))
    translate (t.SClaims c row) x = Truth (all_of (tests row (with_subject (term (translate c x)) x)))
    translate (t.SLists o) x = Truth (lists (current_heap x) x.subject (term (translate o x)))
    translate (t.SHas c) x = Truth (has_shape p (current_heap x) x.subject c.shape (map (λ h. term (hole_value x h)) c.holes))
    translate (t.SForAll n ty e body) x = Truth (quantifier x n (body_of_all ty x (translate e (formal_scene x)) (translate body (bind_ref (subject_of x) (formal_scene x)))))
    translate (t.SExists n ty e row) x = Truth (not' (quantifier x n (body_of_some ty x (translate e (formal_scene x)) (tests row (bind_ref (subject_of x) (formal_scene x))))))

    pub tests : t.Specs → Scene → List Formula
    tests t.Stop x = []
    tests (t.With e row) x = test (translate e x) ∷ tests row x

    pub terms_of : t.Specs → Scene → List Formula
    terms_of t.Stop x = []
    terms_of (t.With e row) x = term (translate e x) ∷ terms_of row x

  mutual
    pub translate_seen : (e : Spec) (x : Scene) → of_text.translate p e x ≡ translate (seen.spec e) x
    translate_seen (s.Number z) x = refl
    translate_seen (s.Truth b) x = refl
    translate_seen s.Null x = refl
    translate_seen (s.Variable i) x = refl
    translate_seen (s.Bound i) x = refl
    translate_seen s.This x = refl
    translate_seen s.Me x = refl
    translate_seen s.Result x = refl
    translate_seen (s.Field' q e f) x = λ i. symbolic_of_type (type_of_field p f) (get (field_column f) (current_heap x) (term (translate_seen e x i) ∷ []))
    translate_seen (s.Closed' q e) x = λ i. Truth (closed (current_heap x) (term (translate_seen e x i)))
    translate_seen (s.Owner' q e) x = λ i. Reference (owner (current_heap x) (term (translate_seen e x i)))
    translate_seen (s.ClaimCount' q e) x = λ i. Number (count (current_heap x) (term (translate_seen e x i)))
    translate_seen (s.Member' q a r b) x = λ i. Truth (owns (current_heap x) (term (translate_seen b x i)) (term (translate_seen a x i)))
    translate_seen (s.Not' q e) x = λ i. Truth (not' (test (translate_seen e x i)))
    translate_seen (s.Negate' q e) x = λ i. Number (binary k.Sub (nat 0) (term (translate_seen e x i)))
    translate_seen (s.Arithmetic' op q a r b) x = λ i. Number (compute op (term (translate_seen a x i)) (term (translate_seen b x i)))
    translate_seen (s.Compare' op q a r b) x = λ i. Truth (compare op (term (translate_seen a x i)) (term (translate_seen b x i)))
    translate_seen (s.And' q a r b) x = λ i. Truth (and' (test (translate_seen a x i)) (test (translate_seen b x i)))
    translate_seen (s.Or' q a r b) x = λ i. Truth (or' (test (translate_seen a x i)) (test (translate_seen b x i)))
    translate_seen (s.Implies' q a r b) x = λ i. Truth (imp (test (translate_seen a x i)) (test (translate_seen b x i)))
    translate_seen (s.Iff' q a r b) x = λ i. Truth (iff (test (translate_seen a x i)) (test (translate_seen b x i)))
    translate_seen (s.Choose' q a r b t c) x = λ i. choose (test (translate_seen a x i)) (translate_seen b x i) (translate_seen c x i)
    translate_seen (s.Old' q e) x = λ i. translate_seen e (old_scene x) i
    translate_seen (s.Unchanged' q e) x = λ i. Truth (eq (term (translate_seen e (old_as_present x) i)) (term (translate_seen e x i)))
    translate_seen (s.Wrapped' q e) x = λ i. Truth (wrapped x.me (current_heap x) (term (translate_seen e x i)))
    translate_seen (s.Wrapped0' q e) x = λ i. Truth (wrapped0 x (term (translate_seen e x i)))
    translate_seen (s.Mutable' q e) x = λ i. Truth (mutable x.me (current_heap x) (term (translate_seen e x i)))
    translate_seen (s.Fresh' q e) x = λ i. Truth (not' (eq (owner x.before (term (translate_seen e x i))) x.me))
    translate_seen (s.ClaimsObject' q c r o) x = λ i. Truth (lists (current_heap x) (term (translate_seen c x i)) (term (translate_seen o x i)))
    translate_seen (s.ClaimsOnly' n q c m row) x = λ i. Truth (all_of (map (lists (current_heap x) (term (translate_seen c x i))) (terms_of_seen row x i) ++ quantifier x n (body_of_only x (translate_seen c (formal_scene x) i) (terms_of_seen row (formal_scene x) i)) ∷ []))
    translate_seen (s.Claims' q c m row) x = λ i. Truth (all_of (tests_seen row (with_subject (term (translate_seen c x i)) x) i))
    translate_seen (s.Lists' q o) x = λ i. Truth (lists (current_heap x) x.subject (term (translate_seen o x i)))
    translate_seen (s.Has c) x = refl
    translate_seen (s.ForAll' n ty q e r body) x = λ i. Truth (quantifier x n (body_of_all ty x (translate_seen e (formal_scene x) i) (translate_seen body (bind_ref (subject_of x) (formal_scene x)) i)))
    translate_seen (s.Exists' n ty q e m row) x = λ i. Truth (not' (quantifier x n (body_of_some ty x (translate_seen e (formal_scene x) i) (tests_seen row (bind_ref (subject_of x) (formal_scene x)) i))))

    pub tests_seen : {m : _} → (row : Row_of-Spec m) (x : Scene) → of_text.tests p row x ≡ tests (seen.row row) x
    tests_seen end_of-Spec x = refl
    tests_seen (more_of-Spec e row) x = λ i. test (translate_seen e x i) ∷ tests_seen row x i

    pub terms_of_seen : {m : _} → (row : Row_of-Spec m) (x : Scene) → of_text.terms_of p row x ≡ terms_of (seen.row row) x
    terms_of_seen end_of-Spec x = refl
    terms_of_seen (more_of-Spec e row) x = λ i. term (translate_seen e x i) ∷ terms_of_seen row x i
