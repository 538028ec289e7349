-- Programs whose annotations have formulas: the tests pass.
use Rattle.std.specs.Prelude.{◌≡◌, refl, true, false, pos, [], ◌∷◌, Box}
use Rattle.std.specs.declared.alloc.Global.{Global}
use Rattle.method.specs.declared.program.DeclaredType.TheVariants.{Pointer}
use Rattle.method.specs.declared.program.Comparison.TheVariants.{Equal}
use Rattle.method.specs.declared.program.Spec.{Spec, end_of-Spec, more_of-Spec}
use Rattle.method.specs.declared.program.Spec.TheVariants as s
use Rattle.method.specs.declared.program.Program.{Program}
use Rattle.terms.specs.declared.term.Kind.TheVariants as k
use Rattle.terms.specs.Formula.{Node}
use Rattle.conditions.specs.Formulas.{row, nat, me, null, and', eq, ite, heap, reference, lists}
use Rattle.conditions.specs.Symbolic.{Truth, Number, Reference}
use Rattle.conditions.specs.Annotations.{Scene, translate}
use Rattle.conditions.specs.Rows as plain
use Rattle.method.specs.Trace.{Memory, box, vec}
use Rattle.axiom_instances.specs.Rows as sample
use Rattle.condition_meaning.specs.Annotated.{Annotated, fits, nothing_hidden}
use Rattle.condition_meaning.specs.FunctionWords.{ContractFits}
use Rattle.condition_meaning.specs.Languages.{language_of, quantifiers_of, invariants_of, conjuncts_of}

module _ (m : Memory) where
  pub sum_annotated : Annotated (plain.sum_program m)
  sum_annotated = record { numbered = tt; structs = refl; shapes = refl; functions = refl }

  pub store_annotated : Annotated (plain.store_program m)
  store_annotated = record { numbered = tt; structs = refl; shapes = refl; functions = refl }

  pub store_contract_fits : ContractFits (plain.store_program m) (plain.store_function m)
  store_contract_fits = record { parameters = refl; requires_ = refl; ensures_ = refl; writes = refl }

  pub read_annotated : Annotated (plain.read_program m)
  read_annotated = record { numbered = tt; structs = refl; shapes = refl; functions = refl }

  -- invariants, one with a quantifier, and a claim's conjunct
  pub sample_annotated : Annotated (sample.sample m)
  sample_annotated = record { numbered = (refl, tt); structs = refl; shapes = refl; functions = refl }

  -- the sample's language, written by hand
  pub sample_is : language_of (sample.sample m) ≡ sample.sample_language m
  unfolding quantifiers_of invariants_of conjuncts_of
  sample_is = refl

module _ (p : Program) (m : Memory) where
  abbrev q : Box (Unit {0}) Global
  q = box m

  abbrev words : Scene
  words = record { before = heap 0; after = heap 1; past = false; me = me; this = reference 0; locals = Reference (reference 1) ∷ []; entry = []; result = Number (nat 0); bound = []; subject = null }

  -- A quantifier in \unchanged whose body speaks of both heaps is one formula, over the heap now and over the one before.
  abbrev mixed : Spec
  mixed = s.Unchanged' q (s.ForAll' 0 (Pointer 3) q s.This q (s.Compare' Equal q (s.ClaimCount' q (s.Bound 0)) q (s.Old' q (s.ClaimCount' q (s.Bound 0)))))

  pub mixed_formula : translate p mixed words ≡ Truth (eq (ite (Node k.All (pos 0) (row (heap 0 ∷ reference 0 ∷ heap 0 ∷ []))) (nat 1) (nat 0)) (ite (Node k.All (pos 0) (row (heap 1 ∷ reference 0 ∷ heap 0 ∷ []))) (nat 1) (nat 0)))
  mixed_formula = refl

  pub mixed_fits : fits p nothing_hidden false mixed words ≡ true
  mixed_fits = refl

  -- \claims_only(c, \this): the claim lists \this, and each that it lists is \this, which formula 0 says of the heap, the claim and \this
  abbrev exact : Spec
  exact = s.ClaimsOnly' 0 q (s.Variable 0) (vec m (tt ∷ [])) (more_of-Spec s.This end_of-Spec)

  pub exact_formula : translate p exact words ≡ Truth (and' (lists (heap 1) (reference 1) (reference 0)) (Node k.All (pos 0) (row (heap 1 ∷ reference 1 ∷ reference 0 ∷ []))))
  exact_formula = refl

  pub exact_fits : fits p nothing_hidden false exact words ≡ true
  exact_fits = refl

  -- an object that isn't a reference has no place in a claim's set
  pub number_does_not_fit : fits p nothing_hidden false (s.ClaimsOnly' 0 q (s.Variable 0) (vec m (tt ∷ [])) (more_of-Spec (s.Number (pos 5)) end_of-Spec)) words ≡ false
  number_does_not_fit = refl
