-- The quantified formulas of three forms of annotation. Own: as spec_quantifiers has them (Quantified of conditions), the rows as lists.
use Rattle.std.specs.Prelude.{ℕ, List}
use Rattle.method.specs.declared.program.DeclaredType.{DeclaredType}
use Rattle.method.specs.declared.program.Program.{Program}
use Rattle.method.specs.declared.program.Spec.{Spec}
use Rattle.conditions.specs.Annotations.{Scene, translate, formal_scene, bind_ref, subject_of, body_of_all, body_of_some, body_of_only}
use Rattle.conditions.specs.Quantified.{QuantifiedFormula, quantifier_formula}
use Rattle.condition_annotations.specs.Rows.{each_test, each_term}

-- \forall: the number, the type, the object whose members it is about, what holds of each
abbrev pub for_all : Program → Scene → ℕ → DeclaredType → Spec → Spec → QuantifiedFormula
for_all p x n ty e body = quantifier_formula x n (body_of_all ty x (translate p e (formal_scene x)) (translate p body (bind_ref (subject_of x) (formal_scene x))))

-- \exists: the number, the type, the object, the conjuncts behind the membership
abbrev pub exists : Program → Scene → ℕ → DeclaredType → Spec → List Spec → QuantifiedFormula
exists p x n ty e row = quantifier_formula x n (body_of_some ty x (translate p e (formal_scene x)) (each_test p row (bind_ref (subject_of x) (formal_scene x))))

-- \claims_only: the number, the claim, the objects
abbrev pub claims_only : Program → Scene → ℕ → Spec → List Spec → QuantifiedFormula
claims_only p x n c row = quantifier_formula x n (body_of_only x (translate p c (formal_scene x)) (each_term p row (formal_scene x)))
