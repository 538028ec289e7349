-- The way back of a new constant: where its ranges hold it has a value of its type.
use Rattle.std.proofs.Common.{◌≡◌, ℕ, ◌==◌, Bool, true, false, not, ◌||◌, pos, refl, sym}
use Rattle.object_types.specs.declared.references.Ref.{Ref}
use Rattle.object_types.specs.declared.values.Value.{Value}
use Rattle.object_types.specs.declared.values.Value.TheVariants.{Int, Ref as Refers}
use Rattle.object_types.specs.References.{is_null, is_thread, is_reference}
use Rattle.int_ranges.specs.Ranges.{least_of, greatest_of}
use Rattle.method.specs.declared.program.DeclaredType.{DeclaredType}
use Rattle.method.specs.declared.program.DeclaredType.TheVariants.{Integer, Pointer, Object, Claim}
use Rattle.method.specs.Tables.{in_type}
use Rattle.method.proofs.Global.{both_and}
use Rattle.terms.specs.Formula.{Formula}
use Rattle.term_meaning.specs.Meaning.{Language}
use Rattle.axiom_instances.proofs.Kit.{none, node_has}
use Rattle.conditions.specs.Formulas.{nat, null as null_term, eq, le, not', or', typ, integer, reference}
use Rattle.conditions.specs.Formulas as fs
use Rattle.conditions.specs.Paths.{Done, sequence, facts}
use Rattle.conditions.specs.Ways.{FailsIn}
use Rattle.conditions.specs.Code.{State, ValueAndState, new_value}
use Rattle.condition_meaning.proofs.Environments.{Environment, Has, Is, Holds, is_false, is_not, is_or, is_le, has_int}
use Rattle.action_conditions.proofs.Places.{Stands}
use Rattle.action_conditions.proofs.NewValues.{All, is_typed, is_null_now}

module _ (l : Language) (t : Ref) (e : Environment l t) where
  -- what holds is true
  pub so : (y : Formula) (b : Bool) → Is l t e y b → Holds l t e y → b ≡ true
  so y true i h = refl
  so y false i h = absurd (is_false l t e y i h)

  -- a new constant's value is a value of its type, and stands for it
  pub record NewBack (ty : DeclaredType) (st : State) (u : ValueAndState) : Type 0 where
    pub value : Value
    pub in_it : in_type ty value ≡ true
    pub stands : Stands l t e u.value value
    pub heap : u.state.heap ≡ st.heap
    pub locals : u.state.locals ≡ st.locals

  refers : (n : ℕ) → (r : Ref) × Has l t e (reference n) (Refers r) × (is_reference r ≡ true)
  refers n = let z = e.is_env.references (pos n) in (z.0, node_has none (sym z.1), z.2)

  pub new_back : (ty : DeclaredType) (st : State) → All l t e (facts (new_value ty st).path) → NewBack ty st (new_value ty st).gives
  unfolding in_type
  new_back (Integer c) st k =
      let z = e.is_env.integers (pos st.integers) in
      let y = integer st.integers in
      let hy : Has l t e y (Int z.0) = node_has none (sym z.1) in
      record {
        value = Int z.0;
        in_it = both_and _ _ (so (le (fs.int (least_of c)) y) _ (is_le l t e (fs.int (least_of c)) y (Int (least_of c)) (Int z.0) (has_int l t e (least_of c)) hy) k.0) (so (le y (fs.int (greatest_of c))) _ (is_le l t e y (fs.int (greatest_of c)) (Int z.0) (Int (greatest_of c)) hy (has_int l t e (greatest_of c))) k.1.0);
        stands = (z.0, hy, refl);
        heap = refl;
        locals = refl;
      }
  new_back (Pointer n) st k =
      let z = refers st.references in
      let y = reference st.references in
      record {
        value = Refers z.0;
        in_it = so (or' (eq y null_term) (eq (typ y) (nat n))) (is_null z.0 || (z.0.ty == n)) (is_or l t e (eq y null_term) (eq (typ y) (nat n)) (is_null z.0) (z.0.ty == n) (is_null_now l t e y z.0 z.1) (is_typed l t e y z.0 n z.1)) k.0;
        stands = (z.0, z.1, refl);
        heap = refl;
        locals = refl;
      }
  new_back Object st k =
      let z = refers st.references in
      let y = reference st.references in
      record {
        value = Refers z.0;
        in_it = both_and (is_reference z.0) (not (is_thread z.0)) z.2 (so (not' (eq (typ y) (nat 1))) (not (z.0.ty == 1)) (is_not l t e (eq (typ y) (nat 1)) (z.0.ty == 1) (is_typed l t e y z.0 1 z.1)) k.0);
        stands = (z.0, z.1, refl);
        heap = refl;
        locals = refl;
      }
  new_back Claim st k =
      let z = refers st.references in
      let y = reference st.references in
      record {
        value = Refers z.0;
        in_it = so (or' (eq y null_term) (eq (typ y) (nat 2))) (is_null z.0 || (z.0.ty == 2)) (is_or l t e (eq y null_term) (eq (typ y) (nat 2)) (is_null z.0) (z.0.ty == 2) (is_null_now l t e y z.0 z.1) (is_typed l t e y z.0 2 z.1)) k.0;
        stands = (z.0, z.1, refl);
        heap = refl;
        locals = refl;
      }

  -- and it fails nothing
  pub new_never_fails : (ty : DeclaredType) (st : State) (label n : ℕ) → FailsIn (Environment l t) (Holds l t) label n (sequence (new_value ty st).path Done) e → ⊥
  new_never_fails (Integer c) st label n z = z.1.1
  new_never_fails (Pointer k) st label n z = z.1
  new_never_fails Object st label n z = z.1
  new_never_fails Claim st label n z = z.1
