-- Expressions of code at a place: their checks are their tests, and their terms have their values.
use Rattle.std.proofs.Common.{◌≡◌, ℕ, Bool, true, false, not, ◌&&◌, ◌||◌, if◌then◌else◌, List, [], ◌∷◌, ◌++◌, ap, sym, ◌∙◌, subst}
use Rattle.object_types.specs.declared.references.Ref.{Ref}
use Rattle.object_types.specs.declared.values.Value.{Value}
use Rattle.object_types.specs.declared.values.Value.TheVariants.{Ref as Refers}
use Rattle.object_types.specs.Values.{referent}
use Rattle.object_types.specs.Heap.{Heap, mutable, wrapped}
use Rattle.method.specs.declared.program.Expr.{Expr}
use Rattle.method.specs.declared.program.FunctionInfo.{FunctionInfo}
use Rattle.method.specs.Tables.{read, type_of_field, is_volatile}
use Rattle.method.specs.WellFormed.{IsHeapOf}
use Rattle.method.specs.StableSet.{in_stable_set}
use Rattle.method.specs.Expressions.{Spot as MachineSpot, is_listed, readable}
use Rattle.terms.specs.declared.term.Kind.TheVariants as kind
use Rattle.terms.specs.Formula.{Formula}
use Rattle.term_meaning.specs.Meaning.{Language}
use Rattle.conditions.specs.Formulas.{node, me, any_of, get, field_column}
use Rattle.conditions.specs.Symbolic.{Symbolic, term}
use Rattle.conditions.specs.Code.{Spot, State, code, field_read}
use Rattle.conditions.specs.Code as code
use Rattle.conditions.proofs.Tests.{IsRef, plain, tests}
use Rattle.conditions.proofs.PathTests.{has_tests_check, has_tests_done}
use Rattle.conditions.proofs.Expressions.{told}
use Rattle.condition_meaning.proofs.Environments.{Environment, Has, Is, is_not, is_and, is_or, is_imp, is_eq, is_compare, has_int, has_null, has_ite, has_compute, only_int, is_in_range}
use Rattle.action_conditions.proofs.Sorts.{HasSorts, read_sorted, plain_sorted}
use Rattle.action_conditions.proofs.Words.{any, is_so, is_any_of, has_field, is_wrapped, is_stable}
use Rattle.action_conditions.proofs.Permissions.{list_tests, any_listed, are_listed, or_listed_is, mutable_is}
use Rattle.action_conditions.proofs.Places.{Tabled, Fits, uses_typed, Stands, Stated, local_stands, stands_term, TellsIn, stands_typed}

module _ (l : Language) (t : Ref) (f : FunctionInfo) (a : Spot) (at_ : MachineSpot) (mine : at_.context.me ≡ t) (hid : ℕ → Bool) (st : State) (h : Heap) (v : List Value) (proper : IsHeapOf l.program h) (sorts : HasSorts l.program f h v) (e : Environment l t) (k : Stated l t hid a at_ st h v e) where
  module _ (o : Formula) (r : Ref) (ho : Has l t e o (Refers r)) where
    pub is_wrapped_now : Is l t e (code.wrapped st o) (wrapped at_.context.me h r)
    is_wrapped_now = subst (λ w. Is l t e (code.wrapped st o) (wrapped w h r)) (sym mine) (is_wrapped l t e st.heap h k.heap o r ho)

    is_readable_now : (g : ℕ) → Is l t e (code.readable l.program a st o g) (readable l.program at_ h r g)
    is_readable_now g = by (is_volatile l.program g)
      where
        stable : Is l t e (node kind.Stab (me ∷ st.heap ∷ o ∷ st.heap ∷ [])) (in_stable_set l.program at_.context.me h r)
        stable = subst (λ w. Is l t e (node kind.Stab (me ∷ st.heap ∷ o ∷ st.heap ∷ [])) (in_stable_set l.program w h r)) (sym mine) (is_stable l t e st.heap h k.heap o r ho proper)

        by : (b : Bool) → Is l t e (any_of (code.mutable st o ∷ (if b then [] else node kind.Stab (me ∷ st.heap ∷ o ∷ st.heap ∷ []) ∷ []) ++ code.is_listed l.program a o)) (mutable at_.context.me h r || ((not b && in_stable_set l.program at_.context.me h r) || is_listed at_ r))
        by true = or_listed_is l t at_ mine a e k.spot o r ho (code.mutable st o) (mutable at_.context.me h r) (mutable_is l t at_ mine a e k.spot st h k.heap o r ho)
        by false =
            is_so l t e (any_of (code.mutable st o ∷ node kind.Stab (me ∷ st.heap ∷ o ∷ st.heap ∷ []) ∷ code.is_listed l.program a o)) (mutable at_.context.me h r || (in_stable_set l.program at_.context.me h r || any (list_tests l t at_ mine a e k.spot o r ho))) (mutable at_.context.me h r || (in_stable_set l.program at_.context.me h r || is_listed at_ r))
            (ap (λ c. mutable at_.context.me h r || (in_stable_set l.program at_.context.me h r || c)) (any_listed l t at_ mine a e k.spot o r ho))
            (is_any_of l t e (code.mutable st o ∷ node kind.Stab (me ∷ st.heap ∷ o ∷ st.heap ∷ []) ∷ code.is_listed l.program a o) (mutable at_.context.me h r ∷ in_stable_set l.program at_.context.me h r ∷ list_tests l t at_ mine a e k.spot o r ho) (mutable_is l t at_ mine a e k.spot st h k.heap o r ho, (stable, are_listed l t at_ mine a e k.spot o r ho)))

    pub reads_field : (g : ℕ) → Tabled l.program g → TellsIn l t e (field_read l.program a st o g) (readable l.program at_ h r g ∷ []) (read l.program h r g)
    reads_field g table = record {
      told = has_tests_check (Is l t e) (code.readable l.program a st o g) (readable l.program at_ h r g) _ [] (is_readable_now g) (has_tests_done (Is l t e));
      value = stands_typed l t e (type_of_field l.program g) (get (field_column g) st.heap (o ∷ [])) (read l.program h r g) (has_field l t e st.heap h k.heap o r ho g table.0 table.1) (read_sorted l.program h r g sorts.fields);
    }

  pub field_told : (w : Symbolic) (o : Value) (g : ℕ) → Tabled l.program g → IsRef o → Stands l t e w o → TellsIn l t e (field_read l.program a st (term w) g) (readable l.program at_ h (referent o) g ∷ []) (read l.program h (referent o) g)
  field_told w o g table is s =
      reads_field (term w) (referent o) (subst (λ (u : Value). Has l t e (term w) u) (is.1 ∙ sym (ap (λ (u : Value). Refers (referent u)) is.1)) (stands_term l t e w o s)) g table

  -- an expression that fits: its checks are its tests, and its term has its value
  pub code_told : (y : Expr) → Fits l.program f hid y → TellsIn l t e (code l.program a st y) (tests l.program at_ h v y) (plain l.program at_ h v y)
  code_told y fits =
      told (Is l t e) (Has l t e) (is_not l t e) (is_and l t e) (is_or l t e) (is_imp l t e) (is_eq l t e) (is_compare l t e) (has_int l t e) (has_null l t e) (has_ite l t e) (has_compute l t e) (only_int l t e) (is_in_range l t e)
      l.program at_ h v a st (λ i. hid i ≡ false) (Tabled l.program) (λ i shown. local_stands l t hid e st.locals v k.many k.locals i shown) field_told
      y (plain_sorted l.program f at_ h v sorts y fits.values_are fits.typed) (uses_typed l.program f (λ i. hid i ≡ false) y fits.values_are fits.typed fits.seen)
