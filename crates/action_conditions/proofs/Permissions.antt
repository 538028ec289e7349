-- What the words of a check say at a place of the text, inside a block or outside: an object may be written, a block lists it, its count may be changed, a field of it may be stored to.
use Rattle.std.proofs.Common.{◌≡◌, ℕ, Bool, true, false, not, ◌&&◌, ◌||◌, if◌then◌else◌, List, [], ◌∷◌, map, refl, ap, sym, ◌∙◌, subst}
use Rattle.object_types.specs.declared.references.Ref.{Ref}
use Rattle.object_types.specs.declared.values.Value.TheVariants.{Ref as Refers}
use Rattle.object_types.specs.References.{same_ref}
use Rattle.object_types.specs.Sets.{is_in}
use Rattle.object_types.specs.Heap.{Heap, mutable, writable}
use Rattle.method.specs.Tables.{is_volatile, is_approved}
use Rattle.method.specs.Expressions.{Spot as MachineSpot, may_write, is_listed}
use Rattle.method.specs.Actions.{may_count}
use Rattle.terms.specs.Formula.{Formula}
use Rattle.term_meaning.specs.Meaning.{Language}
use Rattle.conditions.specs.Formulas.{me, true_formula, false_formula, eq, and', any_of, is_any, owner}
use Rattle.conditions.specs.Code.{Spot, State}
use Rattle.conditions.specs.Code as code
use Rattle.conditions.specs.Actions as walk
use Rattle.conditions.proofs.Stores.{write_is}
use Rattle.condition_meaning.proofs.Environments.{Environment, Is, Has, HeapIs, is_yes, is_not, is_and, is_or, same_truth, has_me}
use Rattle.action_conditions.proofs.Words.{any, any_same, Are, is_so, is_any_of, are_same, has_owner, is_owned_by, is_mutable, is_writable}
use Rattle.action_conditions.proofs.Places.{SpotIs}

module _ (l : Language) (t : Ref) (at_ : MachineSpot) (mine : at_.context.me ≡ t) (a : Spot) (e : Environment l t) (here : SpotIs l t a at_.context at_.inside at_.listed e) where
  module _ (o : Formula) (r : Ref) (is : Has l t e o (Refers r)) where
    pub may_write_is : Is l t e (code.writable l.program a o) (may_write at_ r)
    may_write_is = subst (λ w. Is l t e (code.writable l.program a o) (writable w at_.context.entry at_.context.writes r)) (sym mine) (is_writable l t e a.entry at_.context.entry here.entry o r is a.writes at_.context.writes here.writes)

    -- the tests of the block's list
    abbrev pub list_tests : List Bool
    list_tests = if at_.inside then map (same_ref r) at_.listed else []

    pub are_listed : Are l t e (code.is_listed l.program a o) list_tests
    are_listed = subst (λ b. Are l t e (if b then is_any o a.listed else []) list_tests) (sym here.inside_is) (by_place at_.inside)
      where
        by_place : (b : Bool) → Are l t e (if b then is_any o a.listed else []) (if b then map (same_ref r) at_.listed else [])
        by_place true = are_same l t e o r is a.listed at_.listed here.listed_is
        by_place false = tt

    pub any_listed : any list_tests ≡ is_listed at_ r
    any_listed = by_place at_.inside
      where
        by_place : (b : Bool) → any (if b then map (same_ref r) at_.listed else []) ≡ (b && is_in r at_.listed)
        by_place true = any_same r at_.listed
        by_place false = refl

    pub is_listed_is : Is l t e (any_of (code.is_listed l.program a o)) (is_listed at_ r)
    is_listed_is = is_so l t e (any_of (code.is_listed l.program a o)) (any list_tests) (is_listed at_ r) any_listed (is_any_of l t e (code.is_listed l.program a o) list_tests are_listed)

    -- something else, or it is listed
    pub or_listed_is : (g : Formula) (b : Bool) → Is l t e g b → Is l t e (any_of (g ∷ code.is_listed l.program a o)) (b || is_listed at_ r)
    or_listed_is g b i = is_so l t e (any_of (g ∷ code.is_listed l.program a o)) (any (b ∷ list_tests)) (b || is_listed at_ r) (ap (λ u. b || u) any_listed) (is_any_of l t e (g ∷ code.is_listed l.program a o) (b ∷ list_tests) (i, are_listed))

    -- the check Writes of a store
    pub may_change_is : Is l t e (any_of (code.writable l.program a o ∷ code.is_listed l.program a o)) (may_write at_ r || is_listed at_ r)
    may_change_is = or_listed_is (code.writable l.program a o) (may_write at_ r) may_write_is

  -- the owner's part
  pub may_count_is : (x : Formula) (h : Heap) → HeapIs l t e x h → (o : Formula) (r : Ref) → Has l t e o (Refers r) → Is l t e (walk.may_count l.program a x o) (may_count at_ h r)
  may_count_is x h hx o r is =
      or_listed_is (owner x o) (h.get r).owner (has_owner l t e x h hx o r is) (and' (eq (owner x o) me) (code.writable l.program a o)) (same_ref (h.get r).owner at_.context.me && may_write at_ r)
      (is_and l t e (eq (owner x o) me) (code.writable l.program a o) (same_ref (h.get r).owner at_.context.me) (may_write at_ r)
      (subst (λ w. Is l t e (eq (owner x o) me) (same_ref (h.get r).owner w)) (sym mine) (is_owned_by l t e x h hx o r is me t (has_me l t e))) (may_write_is o r is))

  module _ (st : State) (h : Heap) (heap : HeapIs l t e st.heap h) (o : Formula) (r : Ref) (is : Has l t e o (Refers r)) where
    pub mutable_is : Is l t e (code.mutable st o) (mutable at_.context.me h r)
    mutable_is = subst (λ w. Is l t e (code.mutable st o) (mutable w h r)) (sym mine) (is_mutable l t e st.heap h heap o r is)

    -- the check Write of a store to field x: the object is mutable, or listed, the field volatile and, where it is approved, with the owner's part
    pub may_store_is : (x : ℕ) → Is l t e (any_of (code.mutable st o ∷ walk.may_change l.program a o x st.heap)) (mutable at_.context.me h r || (is_listed at_ r && (is_volatile l.program x && (not (is_approved l.program x) || may_count at_ h r))))
    may_store_is x =
        write_is (Is l t e) (is_and l t e) (is_or l t e) false_is (λ b i. same_truth l t e false_formula b false i false_is)
        l.program a st o x (mutable at_.context.me h r) (is_listed at_ r) (may_count at_ h r) (λ k. ap (λ b. b && is_in r at_.listed) (sym here.inside_is ∙ k)) mutable_is (is_listed_is o r is) (may_count_is st.heap h heap o r is)
      where
        false_is : Is l t e false_formula false
        false_is = is_not l t e true_formula true (is_yes l t e)
