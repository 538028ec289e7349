-- The quantified formulas of annotations, by their trees.
use Rattle.std.proofs.Common.{◌≡◌, List, [], ◌∷◌, ◌++◌, map, refl}
use Rattle.std.specs.Prelude.{flat_map}
use Rattle.method.specs.declared.program.Clause.{Clause}
use Rattle.method.specs.declared.program.Program.{Program}
use Rattle.method.specs.declared.program.Spec.{Spec, Row_of-Spec, end_of-Spec, more_of-Spec}
use Rattle.method.specs.declared.program.Spec.TheVariants as s
use Rattle.conditions.specs.Formulas.{null}
use Rattle.conditions.specs.Annotations.{Scene, old_scene, bind_ref, formal_scene, subject_of, body_of_all, body_of_some, body_of_only}
use Rattle.conditions.specs.Quantified.{QuantifiedFormula, quantifier_formula, spec_quantifiers, row_quantifiers, specs_quantifiers, clauses_quantifiers}
use Rattle.typed_program.specs.Trees as t
use Rattle.typed_program.specs.Views as seen
use Rattle.text_numbers.proofs.Terms.{translate, tests, terms_of, translate_seen, tests_seen, terms_of_seen}

module _ (p : Program) where
  abbrev mutual
    pub quantifiers : t.Spec → Scene → List QuantifiedFormula
    quantifiers (t.SNumber z) x = []
    quantifiers (t.STruth b) x = []
    quantifiers t.SNull x = []
    quantifiers (t.SVariable i) x = []
    quantifiers (t.SBound i) x = []
    quantifiers t.SThis x = []
    quantifiers t.SMe x = []
    quantifiers t.SResult x = []
    quantifiers (t.SField e f) x = quantifiers e x
    quantifiers (t.SClosed e) x = quantifiers e x
    quantifiers (t.SOwner e) x = quantifiers e x
    quantifiers (t.SClaimCount e) x = quantifiers e x
    quantifiers (t.SMember a b) x = quantifiers a x ++ quantifiers b x
    quantifiers (t.SNot e) x = quantifiers e x
    quantifiers (t.SNegate e) x = quantifiers e x
    quantifiers (t.SArithmetic op a b) x = quantifiers a x ++ quantifiers b x
    quantifiers (t.SCompare op a b) x = quantifiers a x ++ quantifiers b x
    quantifiers (t.SAnd a b) x = quantifiers a x ++ quantifiers b x
    quantifiers (t.SOr a b) x = quantifiers a x ++ quantifiers b x
    quantifiers (t.SImplies a b) x = quantifiers a x ++ quantifiers b x
    quantifiers (t.SIff a b) x = quantifiers a x ++ quantifiers b x
    quantifiers (t.SChoose a b c) x = quantifiers a x ++ quantifiers b x ++ quantifiers c x
    quantifiers (t.SOld e) x = quantifiers e (old_scene x)
    quantifiers (t.SUnchanged e) x = quantifiers e x
    quantifiers (t.SWrapped e) x = quantifiers e x
    quantifiers (t.SWrapped0 e) x = quantifiers e x
    quantifiers (t.SMutable e) x = quantifiers e x
    quantifiers (t.SFresh e) x = quantifiers e x
    quantifiers (t.SClaimsObject c o) x = quantifiers c x ++ quantifiers o x
    quantifiers (t.SClaimsOnly n c row) x = quantifier_formula x n (body_of_only x (translate p c (formal_scene x)) (terms_of p row (formal_scene x))) ∷ quantifiers c x ++ all_quantifiers row x
    quantifiers (t.SClaims c row) x = quantifiers c x ++ all_quantifiers row x
    quantifiers (t.SLists o) x = quantifiers o x
    quantifiers (t.SHas c) x = []
    quantifiers (t.SForAll n ty e body) x = quantifier_formula x n (body_of_all ty x (translate p e (formal_scene x)) (translate p body (bind_ref (subject_of x) (formal_scene x)))) ∷ quantifiers e x ++ quantifiers body (bind_ref null x)
    quantifiers (t.SExists n ty e row) x = quantifier_formula x n (body_of_some ty x (translate p e (formal_scene x)) (tests p row (bind_ref (subject_of x) (formal_scene x)))) ∷ quantifiers e x ++ all_quantifiers row (bind_ref null x)

    pub all_quantifiers : t.Specs → Scene → List QuantifiedFormula
    all_quantifiers t.Stop x = []
    all_quantifiers (t.With e row) x = quantifiers e x ++ all_quantifiers row x

  -- those of several annotations, and of clauses
  abbrev pub each_quantifiers : List t.Spec → Scene → List QuantifiedFormula
  each_quantifiers es x = flat_map (λ e. quantifiers e x) es

  abbrev pub contract_quantifiers : List t.Clause → Scene → List QuantifiedFormula
  contract_quantifiers cs x = flat_map (λ (c : t.Clause). quantifiers c.spec x) cs

  mutual
    pub quantifiers_seen : (e : Spec) (x : Scene) → spec_quantifiers p e x ≡ quantifiers (seen.spec e) x
    quantifiers_seen (s.Number z) x = refl
    quantifiers_seen (s.Truth b) x = refl
    quantifiers_seen s.Null x = refl
    quantifiers_seen (s.Variable i) x = refl
    quantifiers_seen (s.Bound i) x = refl
    quantifiers_seen s.This x = refl
    quantifiers_seen s.Me x = refl
    quantifiers_seen s.Result x = refl
    quantifiers_seen (s.Field' q e f) x = λ i. quantifiers_seen e x i
    quantifiers_seen (s.Closed' q e) x = λ i. quantifiers_seen e x i
    quantifiers_seen (s.Owner' q e) x = λ i. quantifiers_seen e x i
    quantifiers_seen (s.ClaimCount' q e) x = λ i. quantifiers_seen e x i
    quantifiers_seen (s.Member' q a r b) x = λ i. quantifiers_seen a x i ++ quantifiers_seen b x i
    quantifiers_seen (s.Not' q e) x = λ i. quantifiers_seen e x i
    quantifiers_seen (s.Negate' q e) x = λ i. quantifiers_seen e x i
    quantifiers_seen (s.Arithmetic' op q a r b) x = λ i. quantifiers_seen a x i ++ quantifiers_seen b x i
    quantifiers_seen (s.Compare' op q a r b) x = λ i. quantifiers_seen a x i ++ quantifiers_seen b x i
    quantifiers_seen (s.And' q a r b) x = λ i. quantifiers_seen a x i ++ quantifiers_seen b x i
    quantifiers_seen (s.Or' q a r b) x = λ i. quantifiers_seen a x i ++ quantifiers_seen b x i
    quantifiers_seen (s.Implies' q a r b) x = λ i. quantifiers_seen a x i ++ quantifiers_seen b x i
    quantifiers_seen (s.Iff' q a r b) x = λ i. quantifiers_seen a x i ++ quantifiers_seen b x i
    quantifiers_seen (s.Choose' q a r b t c) x = λ i. quantifiers_seen a x i ++ quantifiers_seen b x i ++ quantifiers_seen c x i
    quantifiers_seen (s.Old' q e) x = λ i. quantifiers_seen e (old_scene x) i
    quantifiers_seen (s.Unchanged' q e) x = λ i. quantifiers_seen e x i
    quantifiers_seen (s.Wrapped' q e) x = λ i. quantifiers_seen e x i
    quantifiers_seen (s.Wrapped0' q e) x = λ i. quantifiers_seen e x i
    quantifiers_seen (s.Mutable' q e) x = λ i. quantifiers_seen e x i
    quantifiers_seen (s.Fresh' q e) x = λ i. quantifiers_seen e x i
    quantifiers_seen (s.ClaimsObject' q c r o) x = λ i. quantifiers_seen c x i ++ quantifiers_seen o x i
    quantifiers_seen (s.ClaimsOnly' n q c m row) x = λ i. quantifier_formula x n (body_of_only x (translate_seen p c (formal_scene x) i) (terms_of_seen p row (formal_scene x) i)) ∷ quantifiers_seen c x i ++ all_quantifiers_seen row x i
    quantifiers_seen (s.Claims' q c m row) x = λ i. quantifiers_seen c x i ++ all_quantifiers_seen row x i
    quantifiers_seen (s.Lists' q o) x = λ i. quantifiers_seen o x i
    quantifiers_seen (s.Has c) x = refl
    quantifiers_seen (s.ForAll' n ty q e r body) x = λ i. quantifier_formula x n (body_of_all ty x (translate_seen p e (formal_scene x) i) (translate_seen p body (bind_ref (subject_of x) (formal_scene x)) i)) ∷ quantifiers_seen e x i ++ quantifiers_seen body (bind_ref null x) i
    quantifiers_seen (s.Exists' n ty q e m row) x = λ i. quantifier_formula x n (body_of_some ty x (translate_seen p e (formal_scene x) i) (tests_seen p row (bind_ref (subject_of x) (formal_scene x)) i)) ∷ quantifiers_seen e x i ++ all_quantifiers_seen row (bind_ref null x) i

    pub all_quantifiers_seen : {m : _} → (row : Row_of-Spec m) (x : Scene) → row_quantifiers p row x ≡ all_quantifiers (seen.row row) x
    all_quantifiers_seen end_of-Spec x = refl
    all_quantifiers_seen (more_of-Spec e row) x = λ i. quantifiers_seen e x i ++ all_quantifiers_seen row x i

  pub each_quantifiers_seen : (es : List Spec) (x : Scene) → specs_quantifiers p es x ≡ each_quantifiers (map seen.spec es) x
  each_quantifiers_seen [] x = refl
  each_quantifiers_seen (e ∷ es) x = λ i. quantifiers_seen e x i ++ each_quantifiers_seen es x i

  pub contract_quantifiers_seen : (cs : List Clause) (x : Scene) → clauses_quantifiers p cs x ≡ contract_quantifiers (map seen.clause cs) x
  contract_quantifiers_seen [] x = refl
  contract_quantifiers_seen (c ∷ cs) x = λ i. quantifiers_seen c.spec x i ++ contract_quantifiers_seen cs x i
