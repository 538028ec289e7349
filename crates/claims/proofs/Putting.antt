-- Records that are written in steps.
use Rattle.std.proofs.Common.{◌≡◌, ℕ, ◌+◌, ◌<◌, ◌≤◌, Bool, true, false, cond, List, [], ◌∷◌, length, get_or, drop, refl, sym, ap, ◌∙◌, add-one, drop-cons, arith}
use Rattle.object_types.specs.declared.references.Ref.{Ref}
use Rattle.object_types.specs.declared.shapes.Entry.{Entry}
use Rattle.object_types.specs.References.{ref, same_ref}
use Rattle.object_types.specs.Content.{IsFresh}
use Rattle.object_types.specs.Sets.{set_of, with_member}
use Rattle.object_types.specs.Shapes.{entries_of, with_entry}
use Rattle.std.proofs.lemmas.List.{drop_all}
use Rattle.object_types.specs.declared.records.Mode.TheVariants.{Closed}
use Rattle.object_types.specs.Heap.{Record, nothing, put_at, with_status}
use Rattle.method.specs.Actions.{new_claim}
use Rattle.object_types.proofs.Orders.{ref_order}

pub put_there : (get : Ref → Record) (p : Ref) (r : Record) → put_at get p r p ≡ r
put_there get p r = ap (λ b. cond b r (get p)) (ref_order.itself p)

pub put_twice : (get : Ref → Record) (p : Ref) (a b : Record) → put_at (put_at get p a) p b ≡ put_at get p b
put_twice get p a b = λ i q. by_test q (same_ref q p) i
  where
    by_test : (q : Ref) (t : Bool) → cond t b (cond t a (get q)) ≡ cond t b (get q)
    by_test q true = refl
    by_test q false = refl

pub put_back : (get : Ref → Record) (p : Ref) (r : Record) → r ≡ get p → get ≡ put_at get p r
put_back get p r e = λ i q. by_test q (same_ref q p) refl i
  where
    by_test : (q : Ref) (t : Bool) → same_ref q p ≡ t → get q ≡ cond t r (get q)
    by_test q true s = ap get (ref_order.equal q p s) ∙ sym e
    by_test q false s = refl

abbrev pub lists : Record → List Ref → Record
lists r os = record r { listed = os }

abbrev pub shapes : Record → List Entry → Record
shapes r es = record r { shapes = es }

from_here : {X : Type 0} (xs : List X) (i j : ℕ) (d x : X) → j ≡ i + 1 → i < length xs → x ≡ get_or xs i d → x ∷ drop j xs ≡ drop i xs
from_here xs i j d x e lt item = (λ k. item k ∷ drop ((e ∙ add-one i) k) xs) ∙ sym (drop-cons xs i d lt)

module _ (get : Ref → Record) (c : Ref) where
  -- what the claim lists so far is the set of the objects from i on
  pub list_start : (os : List Ref) (i : ℕ) → (get c).listed ≡ [] → length os ≤ i → get ≡ put_at get c (lists (get c) (set_of (drop i os)))
  list_start os i none e = put_back get c (lists (get c) (set_of (drop i os))) (ap (lists (get c)) (ap set_of (drop_all i os e) ∙ sym none))

  pub list_next : (now after : Ref → Record) (os : List Ref) (i j : ℕ) (d o : Ref) → j ≡ i + 1 → now ≡ put_at get c (lists (get c) (set_of (drop j os))) → i < length os → o ≡ get_or os i d → after ≡ put_at now c (lists (now c) (with_member o (now c).listed)) → after ≡ put_at get c (lists (get c) (set_of (drop i os)))
  list_next now after os i j d o e so_far lt item step =
      let r = lists (get c) (set_of (drop j os)) in
      step
      ∙ ap (λ (g : Ref → Record). put_at g c (lists (g c) (with_member o (g c).listed))) so_far
      ∙ ap (λ (q : Record). put_at (put_at get c r) c (lists q (with_member o q.listed))) (put_there get c r)
      ∙ put_twice get c r (lists r (with_member o r.listed))
      ∙ ap (λ os'. put_at get c (lists (get c) (set_of os'))) (from_here os i j d o e lt item)

  pub shape_start : (es : List Entry) (i : ℕ) → (get c).shapes ≡ [] → length es ≤ i → get ≡ put_at get c (shapes (get c) (entries_of (drop i es)))
  shape_start es i none e = put_back get c (shapes (get c) (entries_of (drop i es))) (ap (shapes (get c)) (ap entries_of (drop_all i es e) ∙ sym none))

  pub shape_next : (now after : Ref → Record) (es : List Entry) (i j : ℕ) (d x : Entry) → j ≡ i + 1 → now ≡ put_at get c (shapes (get c) (entries_of (drop j es))) → i < length es → x ≡ get_or es i d → after ≡ put_at now c (shapes (now c) (with_entry x (now c).shapes)) → after ≡ put_at get c (shapes (get c) (entries_of (drop i es)))
  shape_next now after es i j d x e so_far lt item step =
      let r = shapes (get c) (entries_of (drop j es)) in
      step
      ∙ ap (λ (g : Ref → Record). put_at g c (shapes (g c) (with_entry x (g c).shapes))) so_far
      ∙ ap (λ (q : Record). put_at (put_at get c r) c (shapes q (with_entry x q.shapes))) (put_there get c r)
      ∙ put_twice get c r (shapes r (with_entry x r.shapes))
      ∙ ap (λ es'. put_at get c (shapes (get c) (entries_of es'))) (from_here es i j d x e lt item)

pub list_end : (get now : Ref → Record) (c : Ref) (os : List Ref) (i : ℕ) → now ≡ put_at get c (lists (get c) (set_of (drop i os))) → i ≤ 0 → now ≡ put_at get c (lists (get c) (set_of os))
list_end get now c os i so_far low = let e : i ≡ 0 = omega arith in so_far ∙ ap (λ k. put_at get c (lists (get c) (set_of (drop k os)))) e

pub shape_end : (get now : Ref → Record) (c : Ref) (es : List Entry) (i : ℕ) → now ≡ put_at get c (shapes (get c) (entries_of (drop i es))) → i ≤ 0 → now ≡ put_at get c (shapes (get c) (entries_of es))
shape_end get now c es i so_far low = let e : i ≡ 0 = omega arith in so_far ∙ ap (λ k. put_at get c (shapes (get c) (entries_of (drop k es)))) e

-- what stands at a new reference
pub vacant_at : (get : Ref → Record) (c : Ref) → ((s : ℕ) → IsFresh get 2 s → get (ref 2 s) ≡ nothing) → (c.ty ≡ 2) × IsFresh get 2 c.serial → get c ≡ nothing
vacant_at get c vacant fresh = (λ i. get (record { ty = fresh.0 i; serial = c.serial })) ∙ vacant c.serial fresh.1

abbrev started : Ref → Record
started t = with_status Closed t nothing

module _ (get first : Ref → Record) (c t : Ref) (none : get c ≡ nothing) (status : first ≡ put_at get c (with_status Closed t (get c))) where
  first_there : first c ≡ started t
  first_there = ap (λ (g : Ref → Record). g c) status ∙ put_there get c (with_status Closed t (get c)) ∙ ap (with_status Closed t) none

  first_is : first ≡ put_at get c (started t)
  first_is = status ∙ ap (λ r. put_at get c (with_status Closed t r)) none

-- status, then the objects, then the conjuncts

pub none_listed : (get first : Ref → Record) (c t : Ref) → get c ≡ nothing → first ≡ put_at get c (with_status Closed t (get c)) → (first c).listed ≡ []
none_listed get first c t none status = ap (λ (r : Record). r.listed) (first_there get first c t none status)

second_is : (get first second : Ref → Record) (c t : Ref) (os : List Ref) → get c ≡ nothing → first ≡ put_at get c (with_status Closed t (get c)) → second ≡ put_at first c (lists (first c) (set_of os)) → second ≡ put_at get c (lists (started t) (set_of os))
second_is get first second c t os none status listed =
    listed ∙ ap (λ r. put_at first c (lists r (set_of os))) (first_there get first c t none status)
    ∙ ap (λ (g : Ref → Record). put_at g c (lists (started t) (set_of os))) (first_is get first c t none status)
    ∙ put_twice get c (started t) (lists (started t) (set_of os))

pub none_shaped : (get first second : Ref → Record) (c t : Ref) (os : List Ref) → get c ≡ nothing → first ≡ put_at get c (with_status Closed t (get c)) → second ≡ put_at first c (lists (first c) (set_of os)) → (second c).shapes ≡ []
none_shaped get first second c t os none status listed =
    ap (λ (g : Ref → Record). (g c).shapes) (second_is get first second c t os none status listed)
    ∙ ap (λ (r : Record). r.shapes) (put_there get c (lists (started t) (set_of os)))

pub placed : (get first second third : Ref → Record) (c t : Ref) (os : List Ref) (es : List Entry) → get c ≡ nothing → first ≡ put_at get c (with_status Closed t (get c)) → second ≡ put_at first c (lists (first c) (set_of os)) → third ≡ put_at second c (shapes (second c) (entries_of es)) → third ≡ put_at get c (new_claim t os es)
placed get first second third c t os es none status listed shaped =
    let r = lists (started t) (set_of os) in
    shaped ∙ ap (λ (g : Ref → Record). put_at g c (shapes (g c) (entries_of es))) (second_is get first second c t os none status listed)
    ∙ ap (λ (q : Record). put_at (put_at get c r) c (shapes q (entries_of es))) (put_there get c r)
    ∙ put_twice get c r (shapes r (entries_of es))
