-- What the faithful language gives: the axioms' instances and the types' conditions.
use Rattle.axiom_instances.proofs.All.{axioms_are_true}
use Rattle.axiom_instances.proofs.Types.{reflexive_by_condition, stable_by_condition}
use Rattle.axiom_instances.proofs.Converse.{condition_by_reflexive, condition_by_stable}
use Rattle.condition_meaning.specs.Languages.{language_of}
use Rattle.condition_meaning.specs.Promises.{FormulasMeanAnnotations, InstancesAreTrue, ReflexiveByCondition, StableByCondition, AdmissibleByConditions, AdmissibleWhereValid}
use Rattle.condition_meaning.proofs.Items.{types_valid}
use Rattle.condition_meaning.proofs.Makes.{sites_valid}
use Rattle.condition_meaning.proofs.Sites.{claim_by_condition}
use Rattle.std.proofs.Common.{◌≡◌, ℕ, Bool, true, false, not, cond, ◌||◌, inl, inr, [], Option, Some, None, refl, sym, ap, ◌∙◌}
use Rattle.std.proofs.lemmas.Bool.{eqb-true}
use Rattle.object_types.specs.declared.references.Ref.{Ref}
use Rattle.object_types.specs.References.{is_claim}
use Rattle.object_types.specs.Sets.{every}
use Rattle.object_types.specs.Heap.{Heap, closed_in}
use Rattle.method.specs.declared.program.StructInfo.{StructInfo}
use Rattle.method.specs.declared.program.Program.{Program}
use Rattle.method.specs.Tables.{is_struct, struct_of, struct_test}
use Rattle.method.specs.SpecValue as v
use Rattle.method.specs.Invariants.{Inv, inv_holds, struct_holds, claim_holds, inv_scene}
use Rattle.condition_meaning.proofs.Faithful.{faithful, layered}

pub annotations_say : FormulasMeanAnnotations
annotations_say p good = (faithful p good, layered p good)

pub instances_are_true : InstancesAreTrue
instances_are_true p good = axioms_are_true (language_of p) (layered p good) (faithful p good)

pub reflexive_means : ReflexiveByCondition
reflexive_means p good ty struct = (λ valid. reflexive_by_condition (language_of p) (faithful p good) ty struct valid, λ holds. condition_by_reflexive (language_of p) (faithful p good) ty holds)

pub stable_means : StableByCondition
stable_means p good ty struct = (λ valid. stable_by_condition (language_of p) (faithful p good) ty struct valid, λ holds. condition_by_stable (language_of p) (faithful p good) ty holds)

-- Types without invariants.

no_invariant : (p : Program) (o : Ref) (ty : ℕ) (s : StructInfo) (h k : Heap) → is_struct p ty ≡ true → o.ty ≡ ty → struct_of p ty ≡ Some s → s.invariants.items ≡ [] → Inv p o h k
unfolding inv_holds
no_invariant p o ty s h k struct same is empty = by_claim (is_claim o) refl
  where
    two : is_struct p 2 ≡ true → ⊥
    two h = cc

    by_claim : (b : Bool) → is_claim o ≡ b → cond b (not (closed_in k o) || claim_holds p o k) (struct_holds p (struct_of p o.ty) (inv_scene o h k)) ≡ true
    by_claim true c = absurd (two (ap (λ n. is_struct p n) (sym (eqb-true o.ty 2 c) ∙ same) ∙ struct))
    by_claim false c = ap (λ n. struct_holds p (struct_of p n) (inv_scene o h k)) same ∙ ap (λ i. struct_holds p i (inv_scene o h k)) is ∙ ap (λ es. every (λ e. v.holds p e (inv_scene o h k)) es) empty

struct_is : (p : Program) (ty : ℕ) → is_struct p ty ≡ true → (s : StructInfo) × (struct_of p ty ≡ Some s)
struct_is p ty h = by_info (struct_of p ty) refl h
  where
    by_info : (o : Option StructInfo) → struct_of p ty ≡ o → struct_test (λ s. true) o ≡ true → (s : StructInfo) × (struct_of p ty ≡ Some s)
    by_info None e t = absurd (cc)
    by_info (Some s) e t = (s, e)

pub admissible_by_conditions : AdmissibleByConditions
admissible_by_conditions p good typed types sites = record {
  reflexive = λ ty struct. (let s = struct_is p ty struct in elim (types ty s.0 s.1) [ inl empty ↦ (λ h0 h1 g k o same shut. no_invariant p o ty s.0 h1 h1 struct same s.1 empty) | inr valid ↦ (reflexive_means p good ty struct).0 valid.0 ]);
  stable = λ ty struct. (let s = struct_is p ty struct in elim (types ty s.0 s.1) [ inl empty ↦ (λ h0 h1 g k o same shut0 shut1 u. no_invariant p o ty s.0 h0 h1 struct same s.1 empty) | inr valid ↦ (stable_means p good ty struct).0 valid.1 ]);
  claims = λ n site is. claim_by_condition p good typed n site is (sites n site is);
}

pub admissible_where_valid : AdmissibleWhereValid
admissible_where_valid p good typed valid = admissible_by_conditions p good typed (types_valid p typed valid) (sites_valid p typed valid)
