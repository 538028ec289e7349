-- The code's heap before and after a change of one record.
use Rattle.std.proofs.Common.{◌≡◌, Bool, true, false, cond, List, Option, Some, refl, sym, ap, subst, ◌∙◌}
use Rattle.object_types.specs.declared.references.Ref.{Ref}
use Rattle.object_types.specs.declared.records.Stored.{Stored}
use Rattle.object_types.specs.References.{same_ref, ref_lt}
use Rattle.object_types.specs.Places.{replaced}
use Rattle.object_types.specs.Heap.{Record, put_at}
use Rattle.object_types.specs.Lookups.{reference_of, record_of, record_or_nothing, look_up, is_tidy, IsKept}
use Rattle.object_types.proofs.Orders.{ref_order}
use Rattle.object_types.proofs.Placed.{ordered_replaced, every_replaced, at_key_replaced}

chosen : (b : Bool) (x : Stored) (o : Option Stored) → record_or_nothing (cond b (Some x) o) ≡ cond b (record_of x) (record_or_nothing o)
chosen true x o = refl
chosen false x o = refl

look_up_replaced : (x : Stored) (ss : List Stored) → look_up (replaced reference_of ref_lt same_ref x ss) ≡ put_at (look_up ss) x.reference (record_of x)
look_up_replaced x ss =
    let at_each : (q : Ref) → look_up (replaced reference_of ref_lt same_ref x ss) q ≡ put_at (look_up ss) x.reference (record_of x) q =
    λ q. ap record_or_nothing (at_key_replaced reference_of ref_lt same_ref ref_order q x ss) ∙ chosen (same_ref q x.reference) x _ in
    λ i q. at_each q i

-- x stands at o in the new list, and all else is as before
pub record Replaces (o : Ref) (old new : List Stored) (x : Stored) : Type 0 where
  pub at : x.reference ≡ o
  pub list : new ≡ replaced reference_of ref_lt same_ref x old

pub look_up_new : (o : Ref) (old new : List Stored) (x : Stored) (r : Record) → Replaces o old new x → record_of x ≡ r → look_up new ≡ put_at (look_up old) o r
look_up_new o old new x r e f = ap look_up e.list ∙ look_up_replaced x old ∙ (λ i. put_at (look_up old) (e.at i) (f i))

pub kept_new : (o : Ref) (old new : List Stored) (x : Stored) → IsKept old → Replaces o old new x → is_tidy x ≡ true → IsKept new
kept_new o old new x k e t = subst IsKept (sym e.list) (record {
  ordered = ordered_replaced reference_of ref_lt same_ref ref_order x old k.ordered;
  tidy = every_replaced reference_of ref_lt same_ref ref_order is_tidy x old t k.tidy;
})

-- y, which is x, was put into the list
pub put_replaces : (o : Ref) (old inside new : List Stored) (x y : Stored) → inside ≡ old → x.reference ≡ o → y ≡ x → new ≡ replaced reference_of ref_lt same_ref y inside → Replaces o old new x
put_replaces o old inside new x y w e s l = record {
  at = e;
  list = l ∙ ap (λ z. replaced reference_of ref_lt same_ref z inside) s ∙ ap (λ zs. replaced reference_of ref_lt same_ref x zs) w;
}
